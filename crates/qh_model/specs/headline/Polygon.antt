-- The polygon of a set of ids whose points lie in one plane.
use Rattle.std.specs.Prelude.{◌≡◌, ◌≢◌, ℕ, ◌⊎◌, List, [], ◌∷◌, pos, ◌<ℤ◌, ◌↔◌}
use Rattle.qh_model.specs.headline.{Vector.Vector, Predicates.left, Sets.In, Sets.Once, Sets.BeginsWithLeast}

-- v follows u along the path from t through the list to e
abbrev pub FollowsAlong : ℕ → ℕ → ℕ → List ℕ → ℕ → Type 0
FollowsAlong u v t [] e = (t ≡ u) × (e ≡ v)
FollowsAlong u v t (w ∷ r) e = ((t ≡ u) × (w ≡ v)) ⊎ FollowsAlong u v w r e

-- v follows u round the polygon; the first follows the last
abbrev pub Follows : ℕ → ℕ → List ℕ → Type 0
Follows u v [] = ⊥
Follows u v (t ∷ r) = FollowsAlong u v t r t

-- every other member of q lies to the left of the line from u to v, seen from the side to which n points
abbrev pub TurnsLeft : (ℕ → Vector) → Vector → List ℕ → ℕ → ℕ → Type 0
TurnsLeft at n q u v = (w : ℕ) → In w q → w ≢ u → w ≢ v → pos 0 <ℤ left n (at u) (at v) (at w)

-- q has exactly the members of X, each once, is counterclockwise seen from the side to which n points, and begins with the least id
pub record IsPolygon (at : ℕ → Vector) (X : ℕ → Type 0) (n : Vector) (q : List ℕ) : Type 0 where
  pub members : (i : ℕ) → In i q ↔ X i
  pub once : Once q
  pub round : (u v : ℕ) → Follows u v q → TurnsLeft at n q u v
  pub least : BeginsWithLeast q
