-- The invariant of a mesh for the points of a call, and the precondition of its steps.
use Rattle.std.specs.Prelude.{◌≡◌, ℕ, ◌<◌, List, [], ◌∷◌, length, true, false, ℤ, pos, ◌<ℤ◌, ◌≤ℤ◌}
use Rattle.qh_model.specs.contract.{Weighted.Weighted, FinishedSurface.weighted_at, Surface.IsWhole, SoundSurface.IsSound}
use Rattle.qh_model.specs.contract.StoredSurface.{StoredFacet, facet_at, surface_of}
use Rattle.qh_model.specs.contract.ClosedSurface.{IsClosedSurface, signed_volume, triples_of}
use Rattle.qh_model.specs.headline.{Vector.Vector, Predicates.vol}
use Rattle.qh_mesh.specs.contract.Replacement.{IsLive, is_listed}

-- six times the volume of facet f and p: above 0 if the facet strictly sees p
abbrev pub facet_vol : (ℕ → Vector) → List StoredFacet → ℕ → Vector → ℤ
facet_vol at fs f p = vol (at (facet_at fs f).i) (at (facet_at fs f).j) (at (facet_at fs f).k) p

-- the surface is complete, and sound around o
abbrev pub IsSoundMesh : (ℕ → Vector) → List StoredFacet → Weighted → Type 0
IsSoundMesh at fs o = IsWhole (surface_of fs) × IsSound (surface_of fs) (weighted_at at) o

-- the list has exactly the live facets that strictly see p, and there is one
pub record AreVisible (at : ℕ → Vector) (fs : List StoredFacet) (vs : List ℕ) (p : ℕ) : Type 0 where
  pub some : 0 < length vs
  pub seen : (f : ℕ) → IsLive fs f → is_listed vs f ≡ true → pos 0 <ℤ facet_vol at fs f (at p)
  pub unseen : (f : ℕ) → IsLive fs f → is_listed vs f ≡ false → facet_vol at fs f (at p) ≤ℤ pos 0

-- the facets a b c, a d b, a c d and b d c, with their twins
abbrev pub simplex_facets : ℕ → ℕ → ℕ → ℕ → List StoredFacet
simplex_facets a b c d =
    record { i = a; j = b; k = c; ij = 5; jk = 11; ki = 6; live = true }
    ∷ record { i = a; j = d; k = b; ij = 8; jk = 9; ki = 0; live = true }
    ∷ record { i = a; j = c; k = d; ij = 2; jk = 10; ki = 3; live = true }
    ∷ record { i = b; j = d; k = c; ij = 4; jk = 7; ki = 1; live = true }
    ∷ []

-- the live facets are a closed surface, none of them has its corners in line, and its signed volume is below 0
pub record IsClosedMesh (at : ℕ → Vector) (fs : List StoredFacet) : Type 0 where
  pub surface : IsClosedSurface at (triples_of (surface_of fs))
  pub volume : (p : Vector) → signed_volume at (triples_of (surface_of fs)) p <ℤ pos 0
