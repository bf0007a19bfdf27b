-- Triangles seen from a place, and the triangles that a ray from the place meets.
use Rattle.std.specs.Prelude.{ℕ, pos, ◌≡◌, ◌⊎◌, ◌<ℤ◌, List, count_by, false, true}
use Rattle.qh_model.specs.{contract.ClosedSurface.Triple, headline.Vector.Vector, headline.Predicates.vol, headline.Sets.In}
use Rattle.qh_laws.specs.contract.LocallyConvex.{is_met, IsMissed}
use Rattle.qh_check.specs.declared.convex.rays.Passage.{Passage, TheVariants.Met, TheVariants.Missed, TheVariants.Unclear}

-- z is strictly below the triangle
abbrev pub IsInside : (ℕ → Vector) → Vector → Triple → Type 0
IsInside at z t = vol (at t.i) (at t.j) (at t.k) z <ℤ pos 0

-- z is strictly below each triangle, and the ray from z through d meets the inside of one, and misses all others
pub record IsMetOnce (at : ℕ → Vector) (ts : List Triple) (z d : Vector) : Type 0 where
  pub inside : (t : Triple) → In t ts → IsInside at z t
  pub told : (t : Triple) → In t ts → (is_met at z d t ≡ true) ⊎ IsMissed at z d t
  pub once : count_by (is_met at z d) ts ≡ 1

-- the meaning of a passage: z is strictly below the triangle, and the ray meets the triangle, or misses it
abbrev pub IsPassage : (ℕ → Vector) → Vector → Vector → Triple → Passage → Type 0
IsPassage at z d t Met = IsInside at z t × (is_met at z d t ≡ true)
IsPassage at z d t Missed = IsInside at z t × (is_met at z d t ≡ false) × IsMissed at z d t
IsPassage at z d t Unclear = Unit {0}
