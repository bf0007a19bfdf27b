-- Points that the interior filter finds inside a set in one plane, to the left of all sides of a cycle. Only private functions cite them.
use Rattle.std.specs.Prelude.{◌≡◌, ◌<◌, ℕ, ℤ, pos, ◌<ℤ◌, List, [], ◌∷◌, Bool, false, not, ◌&&◌, length}
use Rattle.qh_model.specs.{contract.IdSets.IsIdSet, headline.Predicates.place, headline.Sets.In}
use Rattle.qh_model.specs.headline.Vector.{Vector, minus, dot}
use Rattle.qh_polygon.specs.steps.Chains.{is_left}

-- true if p lies to the left of each side of the path from u along the list to e
abbrev pub is_left_along : (ℕ → ℕ → ℕ → ℤ) → ℕ → ℕ → List ℕ → ℕ → Bool
is_left_along turn p u [] e = is_left (turn u e p)
is_left_along turn p u (v ∷ r) e = is_left (turn u v p) && is_left_along turn p v r e

-- true if p lies to the left of each side of the cycle
abbrev pub is_inside : (ℕ → ℕ → ℕ → ℤ) → List ℕ → ℕ → Bool
is_inside turn [] p = false
is_inside turn (t ∷ r) p = is_left_along turn p t r t

-- true if it does not
abbrev pub is_outside : (ℕ → ℕ → ℕ → ℤ) → List ℕ → ℕ → Bool
is_outside turn cycle p = not (is_inside turn cycle p)

-- two or more rising ids of distinct points in one plane across n
pub record IsFlatSet (pts : List Vector) (ids : List ℕ) (n : Vector) : Type 0 where
  pub set : IsIdSet pts ids
  pub two : 1 < length ids
  pub some : pos 0 <ℤ dot n n
  pub even : (i j : ℕ) → In i ids → In j ids → dot n (minus (place pts j) (place pts i)) ≡ pos 0
