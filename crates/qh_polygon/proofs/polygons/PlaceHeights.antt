-- The number of a place as a height: the numbers are ordered along one direction.
use Rattle.qh_model.proofs.Common.{◌≡◌, ℕ, ◌+◌, ◌*◌, ◌<◌, List, arith, ints, All, ℤ, pos, ◌+ℤ◌, ◌*ℤ◌, ◌<ℤ◌, HasDistinctPoints, IsPlace, place, In, Vector, dot}
use Rattle.qh_model.proofs.Members.{All-In}
use Rattle.qh_model.specs.declared.limits.TheConstants.{COORDINATE_LIMIT}
use Rattle.qh_polygon.proofs.{PlaceOrder.place_code-same, polygons.Turns.IsKeyed}
use Rattle.qh_polygon.specs.{declared.place_keys.TheConstants.ROOM, contract.PlaceNumbers.biased, contract.PlaceNumbers.place_code, contract.PlaceKeys.HasKey}

-- the direction along which places rise by x, then y, then z
abbrev pub order : Vector
order = record { x = pos (ROOM * ROOM); y = pos ROOM; z = pos 1 }

-- the number of the origin
abbrev ground_level : ℕ
ground_level = (COORDINATE_LIMIT * ROOM + COORDINATE_LIMIT) * ROOM + COORDINATE_LIMIT

-- the number of a place is its height, plus the number of the origin
height : (x y z : ℤ) (a b c : ℕ) → pos a ≡ x +ℤ pos COORDINATE_LIMIT → pos b ≡ y +ℤ pos COORDINATE_LIMIT → pos c ≡ z +ℤ pos COORDINATE_LIMIT
    → pos ((a * ROOM + b) * ROOM + c) ≡ (pos (ROOM * ROOM) *ℤ x +ℤ pos ROOM *ℤ y +ℤ pos 1 *ℤ z) +ℤ pos ground_level
height x y z a b c e f g = omega (arith, ints)

-- the number of a place is the sum of its height and the number of the origin
place_code-height : (p : Vector) → IsPlace p → pos (place_code p) ≡ dot order p +ℤ pos ground_level
unfolding place_code
place_code-height p h =
    height p.x p.y p.z (biased p.x) (biased p.y) (biased p.z) (omega (arith, ints, h.x)) (omega (arith, ints, h.y)) (omega (arith, ints, h.z))

-- a place with a lower number is lower
pub place_code-less : (p q : Vector) → IsPlace p → IsPlace q → place_code p < place_code q → dot order p <ℤ dot order q
place_code-less p q h k l = let a = place_code-height p h in let b = place_code-height q k in omega (arith, ints, a, b, l)

-- ids of distinct points have different heights
pub keyed_of : (pts : List Vector) (ids : List ℕ) → All (HasKey pts) ids → HasDistinctPoints (place pts) (λ x. In x ids)
    → IsKeyed order (place pts) (λ x. In x ids)
keyed_of pts ids k d = record {
  same = λ i j mi mj e.
      let p = (All-In (HasKey pts) ids i k mi).place_in in let q = (All-In (HasKey pts) ids j k mj).place_in in
      let a = place_code-height _ p in let b = place_code-height _ q in d i j mi mj (place_code-same _ _ p q (omega (arith, ints, a, b, e)));
}
