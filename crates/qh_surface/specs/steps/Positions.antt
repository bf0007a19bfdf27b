-- Initial simplexes over positions of the ids.
use Rattle.std.specs.Prelude.{◌≡◌, ◌≢◌, ℕ, ◌<◌, pos, List, length, slice_index}
use Rattle.qh_model.specs.headline.{Vector.Vector, Predicates.place, Predicates.vol}
use Rattle.qh_surface.specs.declared.starts.initial_simplex.Simplex.{Simplex}

-- four positions of a list of points that are not in one plane
pub record IsSimplexIn (points : List Vector) (s : Simplex) : Type 0 where
  pub i_in : s.i < length points
  pub j_in : s.j < length points
  pub k_in : s.k < length points
  pub l_in : s.l < length points
  pub volume : vol (place points s.i) (place points s.j) (place points s.k) (place points s.l) ≢ pos 0

-- p is a position of the id in the list
abbrev pub IsPositionOf : List ℕ → ℕ → ℕ → Type 0
IsPositionOf ids id p = (p < length ids) × (slice_index ids p ≡ id)

-- the second simplex has positions of the four ids of the first
pub record ArePositionsOf (ids : List ℕ) (of s : Simplex) : Type 0 where
  pub i_is : IsPositionOf ids of.i s.i
  pub j_is : IsPositionOf ids of.j s.j
  pub k_is : IsPositionOf ids of.k s.k
  pub l_is : IsPositionOf ids of.l s.l
