-- The condition on a part, for one other part.
-- This project's own.
use Rattle.{qh_laws.specs.contract.Seam.IsSeam, qh_model.specs.contract.StoredSurface.surface_of}
use Rattle.qh_model.specs.headline.{Predicates.place, Sets.Members, Vector.Vector}
use Rattle.{qh_parts.specs.steps.Witnesses.IsRingOver, qh_parts_join.specs.declared.parts.Part.Part, qh_surface.specs.contract.NamedMeshes.named}
use Rattle.std.specs.Prelude.{ℕ, List, Bool}

-- the facets that stay have a seam to the other ids, which are strictly below the ring
pub record IsApart (pts : List Vector) (p : Part) (stay : ℕ → Bool) (others : List ℕ) : Type 0 where
  pub seam : IsSeam (place pts) (surface_of (named p.surface)) stay (Members others)
  pub ring : IsRingOver (place pts) (surface_of (named p.surface)) stay others
