-- The facets so far have their planes.
use Rattle.qh_model.proofs.Common.{ℕ, ◌<◌, slice_index, surface_of, place}
use Rattle.{qh_surface.specs.contract.NamedMeshes.named, qh_parts.specs.steps.Witnesses.HasPlane}
use Rattle.qh_parts.proofs.seam.marked.Marked.planes_of.Given as goal

abbrev pub invariant-loop-f : goal.invariant-loop-f
invariant-loop-f l = (n : ℕ) → n < l.f-index
    → HasPlane (place l.self.pts.now) (surface_of (named l.self.surface.now)) l.planes.items (slice_index l.facets n)
