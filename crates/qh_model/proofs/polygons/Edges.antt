-- The edges of a solid: at most one face has a given step.
use Rattle.qh_model.proofs.Common.{◌≡◌, ℕ, arith, sym, ◌∙◌, List, ints, pos, ◌*ℤ◌, ◌≤ℤ◌, ◌↔◌, HasDistinctPoints, Extreme, Follows, AreFaces, IsFacePolygon}
use Rattle.qh_model.proofs.Common.{cross, vol, In, Members, OnPlane, Vector, IsAlong}
use Rattle.qh_model.specs.{headline.Predicates.left, laws.EdgeLaws.OneFaceEachWay}
use Rattle.qh_model.proofs.algebra.{Order.cancel-zero, Order.positive_le, Order.product_zero, VectorIdentities.vol-swap_last}
use Rattle.qh_model.proofs.{extremes.Directions.same_plane, polygons.Direction.polygon_as, polygons.PlaneTurns.level_along, polygons.Unique.one_polygon}
use Rattle.qh_model.proofs.polygons.LeftOfEdge.{at_most, Way, Third, has_u, has_v, to_left, third, square, over}

-- a face seen from a triangle of its plane
pub seen_from : (at : ℕ → Vector) (A : ℕ → Type 0) (i j k u v y : ℕ) (q : List ℕ) → IsFacePolygon at A i j k q
    → IsAlong (cross (at i) (at j) (at k)) (cross (at u) (at v) (at y)) → vol (at i) (at j) (at k) (at u) ≡ pos 0
    → IsFacePolygon at A u v y q
seen_from at A i j k u v y q p h z =
    polygon_as at (OnPlane at (Extreme at A) i j k) (OnPlane at (Extreme at A) u v y) (cross (at i) (at j) (at k)) (cross (at u) (at v) (at y)) q
    (λ l. (λ o. (o.0, (same l).0 o.1), λ o. (o.0, (same l).1 o.1))) h p
  where
    same : (l : ℕ) → (vol (at i) (at j) (at k) (at l) ≡ pos 0) ↔ (vol (at u) (at v) (at y) (at l) ≡ pos 0)
    same l = same_plane (at i) (at j) (at k) (at u) (at v) (at y) (at l) h z

-- proof of the law `OneFaceEachWay`
pub one_face_each_way : OneFaceEachWay
one_face_each_way at ids i j k a b c p q u v d t r f g x y = from_thirds (third at ids d i j k p u v one) (third at ids d a b c q u v two)
  where
    A : ℕ → Type 0
    A = Members ids

    one : Way at A i j k p u v
    one = record { triple = t; face = f; follows = x }

    two : Way at A a b c q u v
    two = record { triple = r; face = g; follows = y }

    from_thirds : Third at A i j k u v → Third at A a b c u v → p ≡ q
    from_thirds w s = one_polygon at (OnPlane at (Extreme at A) u v s.w) (cross (at u) (at v) (at s.w)) p q
        (seen_from at A i j k u v s.w p f (level_along (at i) (at j) (at k) (at u) (at v) (at s.w) t.area (has_u at ids d i j k p u v one).1
        (has_v at ids d i j k p u v one).1 level (to_left at ids d i j k p u v one s.w (s.member.0, level) s.not_u s.not_v)) (has_u at ids d i j k p u v one).1)
        (seen_from at A a b c u v s.w q g (level_along (at a) (at b) (at c) (at u) (at v) (at s.w) r.area (has_u at ids d a b c q u v two).1
        (has_v at ids d a b c q u v two).1 s.member.1 s.turns) (has_u at ids d a b c q u v two).1)
      where
        lhs : vol (at u) (at v) (at w.w) (at s.w) ≤ℤ pos 0
        lhs = at_most _ _ _ _ (square at ids d i j k p u v one) (over at ids d i j k p u v one w.w (at s.w) w.member.1)
            (positive_le _ w.turns) (t.supports s.w s.member.0.0)

        rhs : vol (at u) (at v) (at s.w) (at w.w) ≤ℤ pos 0
        rhs = at_most _ _ _ _ (square at ids d a b c q u v two) (over at ids d a b c q u v two s.w (at w.w) s.member.1)
            (positive_le _ s.turns) (r.supports w.w w.member.0.0)

        flat : left (cross (at i) (at j) (at k)) (at u) (at v) (at w.w) *ℤ vol (at i) (at j) (at k) (at s.w) ≡ pos 0
        flat = sym (over at ids d i j k p u v one w.w (at s.w) w.member.1)
            ∙ product_zero _ (vol (at u) (at v) (at w.w) (at s.w)) (omega (arith, ints, vol-swap_last (at u) (at v) (at w.w) (at s.w), lhs, rhs))

        level : vol (at i) (at j) (at k) (at s.w) ≡ pos 0
        level = cancel-zero _ _ w.turns flat

-- only one of the faces of a set has the step from u to v
pub one_face_a_step : (at : ℕ → Vector) (ids : List ℕ) (qs : List (List ℕ)) → HasDistinctPoints at (Members ids) → AreFaces at (Members ids) qs
    → (p q : List ℕ) → In p qs → In q qs → (u v : ℕ) → Follows u v p → Follows u v q → p ≡ q
one_face_a_step at ids qs d faces p q i j u v f g = let x = faces.only p i in let y = faces.only q j in
    one_face_each_way at ids x.0 x.1 x.2 y.0 y.1 y.2 p q u v d x.3 y.3 x.4 y.4 f g
