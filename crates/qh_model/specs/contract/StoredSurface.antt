-- The storage of a surface in a list: a place for each facet, numbered half-edges, and marks of the live places.
use Rattle.std.specs.Prelude.{ℕ, ◌+◌, ◌/◌, ◌%◌, List, [], ◌∷◌, Bool, false, cond, slice_index_or}
use Rattle.qh_model.specs.contract.{Simplex.one_of, Simplex.by_side, Surface.Surface, Surface.Side.first, Surface.Side.second, Surface.Side.third}

-- three ids, the half-edges across the three sides (3 f + s for side s of facet f), and a mark that is set if the facet is live
pub record StoredFacet : Type 0 where
  pub i : ℕ
  pub j : ℕ
  pub k : ℕ
  pub ij : ℕ
  pub jk : ℕ
  pub ki : ℕ
  pub live : Bool

-- the value of a place past the end
abbrev pub no_facet : StoredFacet
no_facet = record { i = 0; j = 0; k = 0; ij = 0; jk = 0; ki = 0; live = false }

-- the facet with the names of its corners
abbrev pub named_facet : (ℕ → ℕ) → StoredFacet → StoredFacet
named_facet name f = record f { i = name f.i; j = name f.j; k = name f.k }

-- the facet at a place
abbrev pub facet_at : List StoredFacet → ℕ → StoredFacet
facet_at fs f = slice_index_or fs f no_facet

-- the places marked live, numbered from n
abbrev pub live_from : ℕ → List StoredFacet → List ℕ
live_from n [] = []
live_from n (f ∷ fs) = cond f.live (n ∷ live_from (n + 1) fs) (live_from (n + 1) fs)

-- the surface that a list stores
abbrev pub surface_of : List StoredFacet → Surface
surface_of fs =
    record {
      live = live_from 0 fs;
      i = λ f. (facet_at fs f).i;
      j = λ f. (facet_at fs f).j;
      k = λ f. (facet_at fs f).k;
      over = λ f s. by_side ((facet_at fs f).ij / 3) ((facet_at fs f).jk / 3) ((facet_at fs f).ki / 3) s;
      back = λ f s. one_of first second third third (by_side ((facet_at fs f).ij % 3) ((facet_at fs f).jk % 3) ((facet_at fs f).ki % 3) s);
    }
