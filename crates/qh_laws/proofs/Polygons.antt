-- The unit square and small lists, computed: polygons, their order and their edges.
use Rattle.qh_model.proofs.Common.{◌≡◌, ℕ, refl, List, [], ◌∷◌, arith, inl, inr, ints, pos, negsuc, ◌<ℤ◌, one_of, Follows, TurnsLeft, IsPolygon, ComesBefore}
use Rattle.qh_model.proofs.Common.{PointsForward, IsEdge, cross, Members, Vector}
use Rattle.qh_model.specs.headline.Predicates.{left}
use Rattle.qh_model.proofs.{polygons.Cycles.round_holds, surfaces.Simplex.four}

-- ---- the unit square
abbrev flat : ℕ → ℕ → Vector
flat x y = record { x = pos x; y = pos y; z = pos 0 }

-- the corners of the unit square
abbrev square : ℕ → Vector
square = one_of (flat 0 0) (flat 1 0) (flat 1 1) (flat 0 1)

-- the upward normal
abbrev upward : Vector
upward = record { x = pos 0; y = pos 0; z = pos 1 }

-- the corners in order
abbrev around : List ℕ
around = 0 ∷ 1 ∷ 2 ∷ 3 ∷ []

-- the others lie to the left of the line from 0 to 1
turn_0 : TurnsLeft square upward around 0 1
unfolding left cross
turn_0 = four (λ w. ¬ (w ≡ 0) → ¬ (w ≡ 1) → pos 0 <ℤ left upward (square 0) (square 1) (square w))
    (λ a b. absurd (a refl)) (λ a b. absurd (b refl)) (λ a b. omega (arith, ints)) (λ a b. omega (arith, ints))

-- the others lie to the left of the line from 1 to 2
turn_1 : TurnsLeft square upward around 1 2
unfolding left cross
turn_1 = four (λ w. ¬ (w ≡ 1) → ¬ (w ≡ 2) → pos 0 <ℤ left upward (square 1) (square 2) (square w))
    (λ a b. omega (arith, ints)) (λ a b. absurd (a refl)) (λ a b. absurd (b refl)) (λ a b. omega (arith, ints))

-- the others lie to the left of the line from 2 to 3
turn_2 : TurnsLeft square upward around 2 3
unfolding left cross
turn_2 = four (λ w. ¬ (w ≡ 2) → ¬ (w ≡ 3) → pos 0 <ℤ left upward (square 2) (square 3) (square w))
    (λ a b. omega (arith, ints)) (λ a b. omega (arith, ints)) (λ a b. absurd (a refl)) (λ a b. absurd (b refl))

-- the others lie to the left of the line from 3 to 0
turn_3 : TurnsLeft square upward around 3 0
unfolding left cross
turn_3 = four (λ w. ¬ (w ≡ 3) → ¬ (w ≡ 0) → pos 0 <ℤ left upward (square 3) (square 0) (square w))
    (λ a b. absurd (b refl)) (λ a b. omega (arith, ints)) (λ a b. omega (arith, ints)) (λ a b. absurd (a refl))

-- the polygon of the square, seen from above
pub polygon_of_square : IsPolygon square (Members around) upward around
polygon_of_square = record {
  members = λ i. (λ h. h, λ h. h);
  once = (λ h. grind (arith, h), (λ h. grind (arith, h), (λ h. grind (arith, h), (λ h. h, tt))));
  round = round_holds (TurnsLeft square upward around) around (turn_0, (turn_1, (turn_2, turn_3)));
  least = λ v i. omega arith;
}

-- clockwise order is not the polygon: from 0 to 3 it would have to turn left to 1
pub not_clockwise : ¬ (IsPolygon square (Members around) upward (0 ∷ 3 ∷ 2 ∷ 1 ∷ []))
unfolding left cross
not_clockwise p =
    let turn = p.round 0 3 (inl (refl, refl)) 1 (inr (inr (inr (inl refl)))) (λ e. omega (arith, e)) (λ e. omega (arith, e)) in
    omega (arith, ints, turn)

-- with another beginning it is not the polygon: its first id is not the least
pub not_from_1 : ¬ (IsPolygon square (Members around) upward (1 ∷ 2 ∷ 3 ∷ 0 ∷ []))
not_from_1 p = let least = p.least 0 (inr (inr (inl refl))) in omega (arith, least)

-- without one of the corners it is not the polygon
pub not_three_corners : ¬ (IsPolygon square (Members around) upward (0 ∷ 1 ∷ 2 ∷ []))
not_three_corners p = let third = (p.members 3).1 (inr (inr (inr (inl refl)))) in grind (arith, third)

-- ---- neighbours: the first follows the last
pub last_and_first : Follows 3 0 around
last_and_first = inr (inr (inr (refl, refl)))

-- 2 does not follow 0
pub not_across : ¬ (Follows 0 2 around)
not_across h = grind (arith, h)

-- a pair of neighbours is an edge, with the lower id first, whichever follows the other
pub edge : IsEdge (around ∷ []) 0 3
edge = (omega arith, (around, inl refl, inr last_and_first))

-- ---- lexicographic order
-- a list comes before a longer list that begins with it
pub beginning : ComesBefore (0 ∷ 1 ∷ []) (0 ∷ 1 ∷ 3 ∷ [])
beginning = inr (refl, inr (refl, tt))

-- the longer list does not come before it
pub not_after : ¬ (ComesBefore (0 ∷ 1 ∷ 3 ∷ []) (0 ∷ 1 ∷ []))
not_after h = grind (arith, h)

-- a list does not come before itself
pub not_itself : ¬ (ComesBefore (4 ∷ []) (4 ∷ []))
not_itself h = grind (arith, h)

-- numbers decide, not their digits
pub nine_and_ten : ComesBefore (9 ∷ []) (10 ∷ [])
nine_and_ten = inl (omega arith)

-- ---- the side from which a flat set is seen
-- the first component that is not 0 decides
pub forward : PointsForward (record { x = pos 0; y = pos 1; z = negsuc 4 })
forward = inr (refl, inl (omega (arith, ints)))

pub not_forward : ¬ (PointsForward (record { x = negsuc 0; y = pos 1; z = pos 5 }))
not_forward (inl h) = omega (arith, ints, h)
not_forward (inr (e, h)) = cc
