-- The polygons that do not remain are faces.
use Rattle.{std.proofs.Common.length, qh_parts_join.specs.steps.Bridges.IsBridge, qh_parts_join.proofs.Runs.AreLeft}
use Rattle.qh_parts_join.proofs.join.bridges.are_faces.Given as goal

abbrev pub invariant-loop-rest : goal.invariant-loop-rest
invariant-loop-rest l = AreLeft (IsBridge l.kept.pts.now l.kept.corners.now l.kept.shared.now) l.polygons l.rest

abbrev pub decreases-loop-rest : goal.decreases-loop-rest
decreases-loop-rest l = length l.rest
