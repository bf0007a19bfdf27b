-- The facet is a witness for the points so far.
use Rattle.qh_model.proofs.Common.{ℕ, ◌<◌, get_or, surface_of, Vector, place}
use Rattle.{qh_surface.specs.contract.NamedMeshes.named, qh_surface.specs.contract.Walks.mark_at, qh_parts.specs.steps.Witnesses.IsAnswered}
use Rattle.qh_parts.proofs.seam.witnesses.is_witness.Given as goal

abbrev pub invariant-loop-point : goal.invariant-loop-point
invariant-loop-point l = (k : ℕ) → k < l.point-index → (d : Vector)
    → IsAnswered (place l.part.pts.now) (surface_of (named l.part.surface.now)) (mark_at l.part.stay.now) l.four (get_or l.points k d)
