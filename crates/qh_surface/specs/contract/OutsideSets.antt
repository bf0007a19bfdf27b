-- The points that a run of Quickhull still has to add: the outside sets of its facets, and the orphans.
-- Source: Barber, Dobkin and Huhdanpaa 1996 (outside sets).
use Rattle.std.specs.Prelude.{ℕ, ◌+◌, List, [], ◌∷◌, Bool, true, false, length, slice_index_or}
use Rattle.std.specs.List.{sum_by}

-- points are identified by positions below a number: the orphans, and the outside set at each place of a facet
pub record OutsideValue : Type 0 where
  pub positions : ℕ
  pub orphans : List ℕ
  pub sets : List (List ℕ)

-- the outside set at a place; the empty set past the end
abbrev pub set_of : OutsideValue → ℕ → List ℕ
set_of v f = slice_index_or v.sets f []

-- the number of positions in the lists
abbrev pub listed : OutsideValue → ℕ
listed v = length v.orphans + sum_by length v.sets

-- a set with one more position: in front if the flag is set, otherwise after the first
abbrev pub joined : Bool → ℕ → List ℕ → List ℕ
joined in_front p [] = p ∷ []
joined true p (x ∷ xs) = p ∷ x ∷ xs
joined false p (x ∷ xs) = x ∷ p ∷ xs
