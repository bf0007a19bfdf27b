-- The facets that do not remain are above the ids.
use Rattle.qh_model.proofs.Common.{ℕ, List, length, surface_of, place}
use Rattle.qh_surface.specs.contract.NamedMeshes.{named}
use Rattle.{qh_places.specs.contract.Places.ArePlaces, qh_parts.specs.steps.Witnesses.AreUnder, qh_parts_join.proofs.Runs.AreLeft}
use Rattle.qh_parts.proofs.seam.marked.Marked.are_over.Given as goal

abbrev pub invariant-loop-rest : goal.invariant-loop-rest
invariant-loop-rest l = AreLeft (λ f. (ids : List ℕ) → ArePlaces l.self.pts.now ids l.places
    → AreUnder (place l.self.pts.now) (surface_of (named l.self.surface.now)) f ids) l.facets l.rest

abbrev pub decreases-loop-rest : goal.decreases-loop-rest
decreases-loop-rest l = length l.rest
