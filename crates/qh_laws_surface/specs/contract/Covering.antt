-- Spots, which are points of space with rational coordinates, and the polygons that cover them. This project's own.
use Rattle.std.specs.Prelude.{ℕ, ◌≡◌, ◌≢◌, ◌<◌, ℤ, pos, ◌-ℤ◌, ◌*ℤ◌, List, ◌∷◌, Bool, false, not, ◌&&◌, int_lt}
use Rattle.std.specs.{List.list_all, Ordering.int_eq}
use Rattle.qh_model.specs.contract.ClosedPolygons.{steps_round}
use Rattle.qh_model.specs.headline.Vector.{Vector, origin, minus, cross_product, dot}
use Rattle.qh_model.specs.headline.{Predicates.cross, Sets.In}

-- a point of space with rational coordinates: each coordinate of `point` divided by `scale`
pub record Spot : Type 0 where
  pub point : Vector
  pub scale : ℕ
  pub some : 0 < scale

-- the vector from u to the spot, times `scale`
abbrev pub way_to : Vector → Spot → Vector
way_to u s = record {
  x = s.point.x -ℤ pos s.scale *ℤ u.x;
  y = s.point.y -ℤ pos s.scale *ℤ u.y;
  z = s.point.z -ℤ pos s.scale *ℤ u.z;
}

-- above 0 if the spot lies above the plane of i, j and k, and 0 in the plane
unfoldable pub spot_height : (ℕ → Vector) → ℕ → ℕ → ℕ → Spot → ℤ
spot_height at i j k s = dot (cross (at i) (at j) (at k)) (way_to (at i) s)

-- above 0 if the spot lies to the left of the line from u to v, seen from the side to which n points
unfoldable pub spot_turn : Vector → (ℕ → Vector) → ℕ → ℕ → Spot → ℤ
spot_turn n at u v s = dot (cross_product (minus (at v) (at u)) (way_to (at u) s)) n

-- does the spot lie strictly inside the polygon: in the plane of its first three corners, and to the left of each side?
abbrev pub covers : (ℕ → Vector) → Spot → List ℕ → Bool
covers at s (i ∷ j ∷ k ∷ r) =
    int_eq (spot_height at i j k s) (pos 0)
    && list_all (λ e. int_lt (pos 0) (spot_turn (cross (at i) (at j) (at k)) at e.0 e.1 s)) (steps_round (i ∷ j ∷ k ∷ r))
covers at s q = false

-- does the spot lie strictly inside the polygon or on its border: in the plane, and to the right of no side?
abbrev pub reaches : (ℕ → Vector) → Spot → List ℕ → Bool
reaches at s (i ∷ j ∷ k ∷ r) =
    int_eq (spot_height at i j k s) (pos 0)
    && list_all (λ e. not (int_lt (spot_turn (cross (at i) (at j) (at k)) at e.0 e.1 s) (pos 0))) (steps_round (i ∷ j ∷ k ∷ r))
reaches at s q = false

-- the spot lies on no line through two corners of the polygon
abbrev pub IsOffLines : (ℕ → Vector) → Spot → List ℕ → Type 0
IsOffLines at s q =
    (u v : ℕ) → In u q → In v q → u ≢ v → ¬ (cross_product (minus (at v) (at u)) (way_to (at u) s) ≡ origin)
