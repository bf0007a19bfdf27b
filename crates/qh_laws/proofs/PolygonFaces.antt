-- A convex polygon along sharp edges is a face: a point in its plane is past none of its sides.
use Rattle.qh_model.proofs.Common.{◌≡◌, ◌≢◌, ℕ, refl, sym, ap, subst, ◌∙◌, arith, List, [], ◌∷◌, ◌⊎◌, inl, inr, ints, by_lt_z, ℤ, pos, ◌+ℤ◌, ◌-ℤ◌, ◌*ℤ◌, neg_ℤ}
use Rattle.qh_model.proofs.Common.{◌≤ℤ◌, ◌<ℤ◌, Triple, HasDistinctPoints, Combination, Extreme, Others, Follows, IsFacePolygon, cross, vol, In, Members}
use Rattle.qh_model.proofs.Common.{OnPlane, Vector, minus, cross_product, dot, Separator}
use Rattle.qh_model.specs.headline.Predicates.{left}
use Rattle.qh_model.proofs.{algebra.Integers.zero_mul, extremes.Faces.extremes_of_face}
use Rattle.qh_model.proofs.algebra.Order.{cancel-zero, mul-neg_neg, mul-pos_neg, mul-nonneg, mul-nonneg_nonpos, product_zero}
use Rattle.qh_model.proofs.{algebra.Ring.ring, extremes.ExtremeIds.listed_itself, extremes.ExtremeIds.alternative_in, extremes.ExtremeIds.combination_within}
use Rattle.qh_model.proofs.{algebra.Ring.Expr.add, combinations.Alternatives.all_lower, extremes.Directions.square-positive, polygons.PlaneTurns.level_volume}
use Rattle.qh_model.proofs.{algebra.Signs.less_le, algebra.Signs.negated_positive, polygons.Neighbours.follows_members, polygons.Neighbours.next_member}
use Rattle.qh_model.proofs.algebra.VectorIdentities.{vec, put, dotE, vol-linear, dot-minus, opposite, dot-opposite, left-turn, left-flip, in_line-left}
use Rattle.qh_model.proofs.algebra.VectorIdentities.{in_line-twice, vol-second, vol-third}
use Rattle.qh_laws.specs.contract.LocallyConvex.{IsRound, HasLowNeighbour, IsSharpEdge, IsSharpPolygon, IsLocallyConvex, HasAllUnder}
use Rattle.qh_laws.specs.laws.ConvexLaws.{SharpPolygonIsFace}
use Rattle.qh_laws.proofs.{Convex.member_below, Convex.local_supports, Highest.rise, Highest.rise_round, Highest.past_edge, NoneAbove.vol-from, NoneAbove.plusE}
use Rattle.qh_laws.proofs.{Cycles.in_or_not, Cycles.before_member, Cycles.third_member, Cycles.beyond_volume, Cycles.none_ahead, UnderTriangles.above_sum}
use Rattle.qh_laws.proofs.{InTriangles.at_corner, OffPoints.plus, Rounds.vol-round, Rounds.vol-outwards}

-- the scalar products of a sum
pub dot-plus : (a b p : Vector) → dot (plus a b) p ≡ dot a p +ℤ dot b p
dot-plus a b p = ring (put a (put b (put p []))) (dotE (plusE (vec 0) (vec 1)) (vec 2)) (add (dotE (vec 0) (vec 2)) (dotE (vec 1) (vec 2))) refl

module _ (at : ℕ → Vector) (ids : List ℕ) (ts : List Triple) (z d : Vector) (c : IsLocallyConvex at ts z d) (all : HasAllUnder at ids ts z) where
  -- no member in the plane of a triangle is past a sharp edge
  not_past : (s : Triple) → In s ts → (u v w : ℕ) → IsRound s u v w → (n : HasLowNeighbour at ts s u v) → rise at s (at n.third) <ℤ pos 0
      → (l : ℕ) → In l ids → rise at s (at l) ≡ pos 0 → pos 0 ≤ℤ vol z (at u) (at v) (at l)
  not_past s i u v w r n low l m e = by_lt_z (vol z (at u) (at v) (at l)) (pos 0) (λ h. absurd (past h)) (λ h. h)
    where
      deep : (v : ℤ) → v <ℤ pos 0 → pos 0 ≤ℤ neg_ℤ v
      deep v h = omega (arith, ints)

      plain : (hn hs ds dn k : ℤ) → hn *ℤ ds -ℤ hs *ℤ dn ≡ k → hs ≡ pos 0 → hn ≤ℤ pos 0 → pos 0 ≤ℤ ds → pos 0 <ℤ k → ⊥
      plain hn hs ds dn k e f g h l =
          omega (arith, ints, mul-nonneg_nonpos ds hn h g, ap (λ m. m *ℤ dn) f ∙ zero_mul dn)

      past : vol z (at u) (at v) (at l) <ℤ pos 0 → ⊥
      past h =
          plain (rise at n.next (at l)) (rise at s (at l)) (neg_ℤ (rise at s z)) (neg_ℤ (rise at n.next z))
          (rise at s (at n.third) *ℤ vol z (at u) (at v) (at l)) (past_edge at z (at l) ts s u v w r n) e
          (member_below at ids ts z d c all l m n.next n.there) (deep (rise at s z) (c.inside s i))
          (mul-neg_neg (rise at s (at n.third)) (vol z (at u) (at v) (at l)) low h)

  module _ (distinct : HasDistinctPoints at (Members ids)) (t : Triple) (i : In t ts) (q : List ℕ) (p : IsSharpPolygon at ts t q) where
    -- the members in the plane
    abbrev Level : ℕ → Type 0
    Level = OnPlane at (Members ids) t.i t.j t.k

    abbrev normal : Vector
    normal = cross (at t.i) (at t.j) (at t.k)

    -- the square of the normal
    square : pos 0 <ℤ dot normal normal
    square = square-positive normal ((local_supports at ids ts z d c all).0.area t i)

    -- corners of the polygon are corners of triangles
    corner_member : (l : ℕ) → In l q → In l ids
    corner_member l m = from (next_member l q m)
      where
        from : (v : ℕ) × Follows l v q → In l ids
        from (v, f) = let e = p.edges l v f in all.corners l (e.side, e.there, place e.side e.third e.round)
          where
            place : (s : Triple) (w : ℕ) → IsRound s l v w → In l (s.i ∷ s.j ∷ s.k ∷ [])
            place s w (inl r) = inl (sym r.0)
            place s w (inr (inl r)) = inr (inl (sym r.0))
            place s w (inr (inr r)) = inr (inr (inl (sym r.0)))

    corner_level : (l : ℕ) → In l q → Level l
    corner_level l m = (corner_member l m, p.level l m)

    -- four points of the plane have no volume
    flat : (a b e l : Vector) → rise at t a ≡ pos 0 → rise at t b ≡ pos 0 → rise at t e ≡ pos 0 → rise at t l ≡ pos 0 → vol a b e l ≡ pos 0
    flat a b e l ha hb he hl =
        cancel-zero (dot normal normal) (vol a b e l) square
        (level_volume (at t.i) (at t.j) (at t.k) a b e l ha hb he ∙ product_zero (left normal a b e) (rise at t l) hl)

    -- no member of the plane is past a side
    sides : (l : ℕ) → Level l → (u v : ℕ) → Follows u v q → pos 0 ≤ℤ vol z (at u) (at v) (at l)
    sides l m u v f =
        not_past e.side e.there u v e.third e.round e.over e.below l m.0
        (rise_round at e.side u v e.third e.round (at l) ∙ flat (at u) (at v) (at e.third) (at l) (p.level u k.0) (p.level v k.1) e.level m.1)
      where
        e : IsSharpEdge at ts t u v
        e = p.edges u v f

        k : In u q × In v q
        k = follows_members u v q f

    -- no corner comes after itself
    not_itself : (v : ℕ) → Follows v v q → ⊥
    not_itself v f = let w = third_member q p.three p.once v v in
        zero (left normal (at v) (at v) (at w.0)) (in_line-left normal (at v) (at v) (at w.0) (in_line-twice (at v) (at w.0))) (p.round v v f w.0 w.1 w.2 w.3)
      where
        zero : (a : ℤ) → a ≡ pos 0 → pos 0 <ℤ a → ⊥
        zero a e h = omega (arith, ints)

    -- no corner comes both right before and right after another
    no_return : (u v : ℕ) → Follows u v q → Follows v u q → ⊥
    no_return u v f g = let w = third_member q p.three p.once u v in
        let turn = left-turn normal (at v) (at w.0) (at u) ∙ left-turn normal (at w.0) (at u) (at v) in
        omega (arith, ints, left-flip normal (at v) (at u) (at w.0), turn, p.round v u g w.0 w.1 w.3 w.2, p.round u v f w.0 w.1 w.2 w.3)

    -- the polygon turns at each corner, seen from z
    turns : (u v x : ℕ) → Follows u v q → Follows v x q → pos 0 <ℤ vol z (at u) (at v) (at x)
    turns u v x f g =
        let under = below (dot normal normal) (vol (at u) (at v) (at x) z) (left normal (at u) (at v) (at x) *ℤ rise at t z) square
        (level_volume (at t.i) (at t.j) (at t.k) (at u) (at v) (at x) z (p.level u k.0) (p.level v k.1) (p.level x m))
        (mul-pos_neg (left normal (at u) (at v) (at x)) (rise at t z) (p.round u v f x m not_u not_v) (c.inside t i)) in
        omega (arith, ints, vol-outwards z (at u) (at v) (at x))
      where
        k : In u q × In v q
        k = follows_members u v q f

        m : In x q
        m = (follows_members v x q g).1

        not_u : x ≢ u
        not_u e = no_return u v f (subst (λ y. Follows v y q) e g)

        not_v : x ≢ v
        not_v e = not_itself v (subst (λ y. Follows v y q) e g)

        below : (n a b : ℤ) → pos 0 <ℤ n → n *ℤ a ≡ b → b <ℤ pos 0 → a <ℤ pos 0
        below n a b h e l = by_lt_z a (pos 0) (λ k. k) (λ k. absurd (clash (n *ℤ a) b e l (mul-nonneg n a (less_le (pos 0) n h) k)))
          where
            clash : (a b : ℤ) → a ≡ b → b <ℤ pos 0 → pos 0 ≤ℤ a → ⊥
            clash a b e h k = omega (arith, ints)

    -- ---- an extreme id of the plane is a corner
    -- the distance from z along the normal
    distance : (l : ℕ) → rise at t (at l) ≡ pos 0 → dot normal (minus (at l) z) ≡ neg_ℤ (rise at t z)
    distance l e = plain (rise at t (at l)) (dot normal (minus (at l) z)) (rise at t z) (vol-from (at t.i) (at t.j) (at t.k) z (at l)) e
      where
        plain : (a b k : ℤ) → a ≡ b +ℤ k → a ≡ pos 0 → b ≡ neg_ℤ k
        plain a b k e f = omega (arith, ints)

    -- no direction puts the id beyond all corners
    none_beyond : (l : ℕ) → Level l → Separator at (Members q) (at l) → ⊥
    none_beyond l m s =
        let w = third_member q p.three p.once 0 0 in
        none_ahead at z (at l) q (sides l m) turns (plus z (cross_product s.w normal)) ahead w.0 w.1
      where
        ahead : (v : ℕ) → In v q → pos 0 <ℤ vol z (at l) (at v) (plus z (cross_product s.w normal))
        ahead v k =
            beyond_volume z (at l) (at v) s.w normal (negated_positive (dot normal (minus (at l) z)) (rise at t z) (distance l m.1) (c.inside t i))
            (distance v (p.level v k) ∙ sym (distance l m.1)) (omega (arith, ints, dot-minus s.w (at v) z, dot-minus s.w (at l) z, s.past v k))

    extreme_corner : (l : ℕ) → OnPlane at (Extreme at (Members ids)) t.i t.j t.k l → In l q
    extreme_corner l (e, level) = pick (in_or_not l q)
      where
        pick : In l q ⊎ (¬ (In l q)) → In l q
        pick (inl m) = m
        pick (inr o) = absurd (either (alternative_in at (Members q) q (listed_itself q) (at l)))
          where
            either : Combination at (Members q) (at l) ⊎ Separator at (Members q) (at l) → ⊥
            either (inl m) =
                e.1 (combination_within at (Members q) (Others (Members ids) l) (at l) m (λ j k. (corner_member j k, λ f. o (subst (λ x. In x q) f k))))
            either (inr s) = none_beyond l (e.0, level) s

    -- ---- a corner is extreme
    -- a point that is past neither side at a corner is that corner, or further inwards from one of the sides
    at_vertex : (a v b : ℕ) → Follows a v q → Follows v b q → (x : ℕ) → Level x
        → (vol z (at a) (at v) (at x) +ℤ vol z (at v) (at b) (at x)) ≤ℤ pos 0 → at x ≡ at v
    at_vertex a v b f g x m h =
        at_corner z (at v) (at b) (at a) (at x) out (record {
          level = level;
          first = sides x m v b g;
          second = omega (arith, ints, far, out);
          third = sides x m a v f;
        }) (omega (arith, ints, far))
      where
        out : pos 0 <ℤ vol z (at v) (at b) (at a)
        out = subst (λ k. pos 0 <ℤ k) (vol-round z (at a) (at v) (at b)) (turns a v b f g)

        level : vol (at v) (at b) (at a) (at x) ≡ pos 0
        level =
            flat (at v) (at b) (at a) (at x) (p.level v (follows_members v b q g).0) (p.level b (follows_members v b q g).1)
            (p.level a (follows_members a v q f).0) m.1

        far : vol z (at b) (at a) (at x) ≡ vol z (at v) (at b) (at a)
        far = omega (arith, ints, level, sides x m a v f, sides x m v b g, above_sum z (at v) (at b) (at a) (at x))

    corner_extreme : (v : ℕ) → In v q → OnPlane at (Extreme at (Members ids)) t.i t.j t.k v
    corner_extreme v m = from (before_member v q m) (next_member v q m)
      where
        from : (a : ℕ) × Follows a v q → (b : ℕ) × Follows v b q → OnPlane at (Extreme at (Members ids)) t.i t.j t.k v
        from (a, f) (b, g) =
            (extremes_of_face at ids t.i t.j t.k (λ l k. member_below at ids ts z d c all l k t i) v).0
            (corner_level v m, λ k. all_lower at (Others Level v) (at v) tilt k (lower k.a k.has_a) (lower k.b k.has_b) (lower k.c k.has_c) (lower k.d k.has_d))
          where
            tilt : Vector
            tilt = opposite (plus (cross z (at a) (at v)) (cross z (at v) (at b)))

            tilted : (x : Vector) → dot tilt x
                ≡ neg_ℤ (vol z (at a) (at v) x +ℤ vol z (at v) (at b) x) +ℤ neg_ℤ (dot (cross z (at a) (at v)) z +ℤ dot (cross z (at v) (at b)) z)
            tilted x =
                dot-opposite (plus (cross z (at a) (at v)) (cross z (at v) (at b))) x ∙ ap neg_ℤ (dot-plus (cross z (at a) (at v)) (cross z (at v) (at b)) x)
                ∙ plain (dot (cross z (at a) (at v)) x) (dot (cross z (at v) (at b)) x) (dot (cross z (at a) (at v)) z) (dot (cross z (at v) (at b)) z)
                (vol z (at a) (at v) x) (vol z (at v) (at b) x) (vol-linear z (at a) (at v) x) (vol-linear z (at v) (at b) x)
              where
                plain : (s u k n r y : ℤ) → r ≡ s +ℤ neg_ℤ k → y ≡ u +ℤ neg_ℤ n → neg_ℤ (s +ℤ u) ≡ neg_ℤ (r +ℤ y) +ℤ neg_ℤ (k +ℤ n)
                plain s u k n r y e f = omega (arith, ints)

            lower : (x : ℕ) → Others Level v x → dot tilt (at x) <ℤ dot tilt (at v)
            lower x (k, other) =
                by_lt_z (pos 0) (vol z (at a) (at v) (at x) +ℤ vol z (at v) (at b) (at x))
                (λ h. plain (dot tilt (at x)) (dot tilt (at v)) (vol z (at a) (at v) (at x) +ℤ vol z (at v) (at b) (at x))
                (vol z (at a) (at v) (at v)) (vol z (at v) (at b) (at v)) (dot (cross z (at a) (at v)) z +ℤ dot (cross z (at v) (at b)) z)
                (tilted (at x)) (tilted (at v)) (vol-third z (at a) (at v)) (vol-second z (at v) (at b)) h)
                (λ h. absurd (other (distinct x v k.0 (corner_member v m) (at_vertex a v b f g x k h))))
              where
                plain : (x v s r u k : ℤ) → x ≡ neg_ℤ s +ℤ neg_ℤ k → v ≡ neg_ℤ (r +ℤ u) +ℤ neg_ℤ k → r ≡ pos 0 → u ≡ pos 0 → pos 0 <ℤ s → x <ℤ v
                plain x v s r u k e f g h l = omega (arith, ints)

    -- the polygon
    pub face : IsFacePolygon at (Members ids) t.i t.j t.k q
    face = record { members = λ l. (corner_extreme l, extreme_corner l); once = p.once; round = p.round; least = p.least }

-- proof of the law `SharpPolygonIsFace`
pub sharp_polygon_is_face : SharpPolygonIsFace
sharp_polygon_is_face at ids ts z d c all distinct t i q p = face at ids ts z d c all distinct t i q p
