-- The shape of a set of ids determines its dimension.
use Rattle.qh_model.proofs.Common.{◌≡◌, ℕ, ◌<◌, List, length, get_or, arith, sym, subst, ◌∙◌, refl, inl, inr, ne_of_lt, get_or_default_zero}
use Rattle.qh_model.proofs.Common.{IsStrictlyIncreasing, IsIdSet, HasTriangle, HasSegment, IsDimension, place, In, Members, Vector, minus}
use Rattle.qh_model.proofs.{Members.In-get_or, Members.in_at, extremes.Directions.square-positive}
use Rattle.qh_polygon.proofs.{LinesAndPlanes.three_line, LinesAndPlanes.four_plane, LinesAndPlanes.same_point, ShapeIds.first_two_in}
use Rattle.qh_polygon.specs.contract.Shapes.{IsInLine, IsInPlane, IsFirstNot, Each, AreFirstTwo}

-- a property of each position holds for each member
each_in : (P : ℕ → Type 0) (ids : List ℕ) → Each P ids → (x : ℕ) → In x ids → P x
each_in P ids h x m = let r = in_at ids x m in subst P r.2 (h r.0 r.1)

-- the element at a position is a member
listed : (ids : List ℕ) (m i : ℕ) → m < length ids → get_or ids m 0 ≡ i → In i ids
listed ids m i h e = subst (λ v. In v ids) e (In-get_or ids m 0 h)

-- the first two, as the code reads them
pub first_two : (ids : List ℕ) (i j : ℕ) → 1 < length ids → i ≡ get_or ids 0 i → j ≡ get_or ids 1 j → AreFirstTwo ids i j
first_two = grind (arith, get_or_default_zero)

-- the first two are a segment
two : (ids : List ℕ) (i j : ℕ) → AreFirstTwo ids i j → IsStrictlyIncreasing ids → HasSegment (Members ids)
two ids i j t r = let e = first_two_in ids i j t in
    record { i = i; j = j; has_i = e.0; has_j = e.1; differ = λ q. ne_of_lt (r 0 t.two) (t.first ∙ q ∙ sym t.second) }

-- all in line with the first two: a segment
pub segment : (pts : List Vector) (ids : List ℕ) (i j : ℕ) → AreFirstTwo ids i j → Each (IsInLine pts i j) ids
    → IsIdSet pts ids → IsDimension (place pts) (Members ids) 1
unfolding two
segment pts ids i j t h s =
    let w = two ids i j t s.rising in
    inr (inr (inl (
      refl,
      w,
      λ k. k.area (three_line (place pts i) (place pts j) (place pts k.i) (place pts k.j) (place pts k.k)
          (square-positive (minus (place pts j) (place pts i)) (λ e. w.differ (s.distinct i j w.has_i w.has_j (same_point (place pts i) (place pts j) e))))
          (each_in (IsInLine pts i j) ids h k.i k.has_i) (each_in (IsInLine pts i j) ids h k.j k.has_j) (each_in (IsInLine pts i j) ids h k.k k.has_k)),
    )))

-- the first id off their line makes a triangle
three : (pts : List Vector) (ids : List ℕ) (i j k : ℕ) → AreFirstTwo ids i j → IsFirstNot (IsInLine pts i j) ids k → HasTriangle (place pts) (Members ids)
three = grind (arith, first_two_in, listed)

-- one id off the line of the first two, and all in the plane of the three: a polygon
pub flat : (pts : List Vector) (ids : List ℕ) (i j k : ℕ) → AreFirstTwo ids i j → IsFirstNot (IsInLine pts i j) ids k
    → Each (IsInPlane pts i j k) ids → IsDimension (place pts) (Members ids) 2
flat pts ids i j k t f h =
    inr (inl (
      refl,
      three pts ids i j k t f,
      λ s. s.volume (four_plane (place pts i) (place pts j) (place pts k) (place pts s.i) (place pts s.j) (place pts s.k) (place pts s.l) f.not
          (each_in (IsInPlane pts i j k) ids h s.i s.has_i) (each_in (IsInPlane pts i j k) ids h s.j s.has_j)
          (each_in (IsInPlane pts i j k) ids h s.k s.has_k) (each_in (IsInPlane pts i j k) ids h s.l s.has_l)),
    ))

-- one id off the plane of three: a solid
pub solid : (pts : List Vector) (ids : List ℕ) (i j k l : ℕ) → AreFirstTwo ids i j → IsFirstNot (IsInLine pts i j) ids k
    → IsFirstNot (IsInPlane pts i j k) ids l → IsDimension (place pts) (Members ids) 3
solid = grind (arith, first_two_in, listed)
