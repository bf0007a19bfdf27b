-- The polygons so far are faces.
use Rattle.{qh_model.proofs.Common.take, qh_model.proofs.Common.All, qh_parts_join.specs.steps.Bridges.IsBridge}
use Rattle.qh_parts_join.proofs.join.bridges.is_group.Given as goal

abbrev pub invariant-loop-claimed : goal.invariant-loop-claimed
invariant-loop-claimed l = All (IsBridge l.kept.pts.now l.kept.corners.now l.kept.shared.now) (take l.claimed-index l.group)
