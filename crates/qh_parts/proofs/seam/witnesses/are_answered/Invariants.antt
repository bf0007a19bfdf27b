-- The points that do not remain have witnesses.
use Rattle.{qh_model.specs.contract.StoredSurface.surface_of, qh_model.specs.headline.Predicates.place, qh_surface.specs.contract.NamedMeshes.named}
use Rattle.{qh_surface.specs.contract.Walks.mark_at, qh_parts.specs.steps.Witnesses.IsAnswered, qh_parts_join.proofs.Runs.AreLeft}
use Rattle.qh_parts.proofs.seam.witnesses.are_answered.Given as goal

abbrev pub invariant-loop-run : goal.invariant-loop-run
invariant-loop-run l = AreLeft (IsAnswered (place l.part.pts.now) (surface_of (named l.part.surface.now)) (mark_at l.part.stay.now) l.four)
    l.points l.rest
