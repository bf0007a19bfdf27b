-- The edges of a solid: another face has the reversed step, found by turning a plane about the edge.
use Rattle.qh_model.proofs.Common.{◌≡◌, ◌≢◌, ℕ, arith, sym, subst, ◌∙◌, inl, inr, ⊎_elim, List, Bool, true, ints, by_lt_z, ℕ_discrete, dite, ℤ, pos, ◌-ℤ◌, ◌*ℤ◌}
use Rattle.qh_model.proofs.Common.{◌≤ℤ◌, ◌<ℤ◌, HasDistinctPoints, HasTetrahedron, Follows, IsFacePolygon, cross, vol, AreInLine, In, Members}
use Rattle.qh_model.proofs.Common.{IsSupportingTriple, Vector, dot}
use Rattle.qh_model.specs.{headline.Predicates.left, laws.EdgeLaws.OtherFace}
use Rattle.qh_model.proofs.{Decisions.test, Decisions.told, Decisions.holds, Decisions.less_or_not, surfaces.VisibleFacets.Least, surfaces.VisibleFacets.least}
use Rattle.qh_model.proofs.{algebra.Integers.mul_comm, algebra.Signs.less_differ, polygons.PlaneTurns.level_volume}
use Rattle.qh_model.proofs.algebra.Order.{mul-pos, cancel-zero, le_antisym, neg-positive, positive_le, product_zero}
use Rattle.qh_model.proofs.algebra.VectorIdentities.{edge_product, vol-first, vol-second, vol-flip, vol-swap_last, left-flip, in_line-vol, in_line-left}
use Rattle.qh_model.proofs.algebra.VectorIdentities.{in_line-twice}
use Rattle.qh_model.proofs.{extremes.Directions.square-positive, polygons.Neighbours.follows_members, polygons.Neighbours.next_member}
use Rattle.qh_model.proofs.polygons.LeftOfEdge.{at_most, below, turn_sign, Way, Third, has_u, has_v, third, square, over, not_right}

-- a volume with reversed edge and with its last two points swapped is the same
vol-both : (u v x y : Vector) → vol v u y x ≡ vol u v x y
vol-both u v x y = omega (arith, ints, vol-flip v u y x, vol-swap_last u v y x)

-- of two points, the one beyond the plane through the other and the line u v comes first, by their volumes with a and b
gift_wrap : (u v a b p y : Vector) → pos 0 <ℤ vol u v a b → pos 0 <ℤ vol u v p y → pos 0 <ℤ (vol u v a p *ℤ vol u v b y -ℤ vol u v b p *ℤ vol u v a y)
gift_wrap = grind (arith, mul_comm, edge_product, mul-pos)

module _ (at : ℕ → Vector) (ids : List ℕ) (d : HasDistinctPoints at (Members ids))
    (solid : HasTetrahedron at (Members ids)) (i j k : ℕ) (q : List ℕ) (u v : ℕ)
    (way : Way at (Members ids) i j k q u v) (x : Third at (Members ids) i j k u v) where
  abbrev height : ℕ → ℤ
  height l = vol (at i) (at j) (at k) (at l)

  -- below the plane, volumes over the face's triangle are below 0
  under : (l : ℕ) → height l <ℤ pos 0 → vol (at u) (at v) (at x.w) (at l) <ℤ pos 0
  under l h = below _ _ _ _ (square at ids d i j k q u v way) (over at ids d i j k q u v way x.w (at l) x.member.1) x.turns h

  -- no member has a volume above 0
  not_over : (l : ℕ) → Members ids l → vol (at u) (at v) (at x.w) (at l) ≤ℤ pos 0
  not_over l h = at_most _ _ _ _ (square at ids d i j k q u v way) (over at ids d i j k q u v way x.w (at l) x.member.1)
      (positive_le _ x.turns) (way.triple.supports l h)

  -- over the reversed edge the volumes are above 0
  turned : (l : ℕ) → height l <ℤ pos 0 → pos 0 <ℤ vol (at v) (at u) (at x.w) (at l)
  turned l h = rw (vol-flip (at v) (at u) (at x.w) (at l)) (neg-positive _ (under l h))

  -- a member below the plane, with no member below the plane beyond the plane of the edge and this member
  record Next : Type 0 where
    w : ℕ
    has_w : Members ids w
    low : height w <ℤ pos 0
    first : (l : ℕ) → Members ids l → height l <ℤ pos 0 → vol (at v) (at u) (at w) (at l) ≤ℤ pos 0

  -- some member is below the plane
  some_below : ((l : ℕ) → Members ids l → height l <ℤ pos 0 → ⊥) → ⊥
  some_below none = solid.volume (cancel-zero _ _ (square at ids d i j k q u v way) (product ∙ product_zero _ _ (level solid.l solid.has_l)))
    where
      level : (l : ℕ) → Members ids l → height l ≡ pos 0
      level l h = by_lt_z (height l) (pos 0) (λ r. absurd (none l h r)) (λ r. le_antisym (height l) (pos 0) (way.triple.supports l h) r)

      product : dot (cross (at i) (at j) (at k)) (cross (at i) (at j) (at k))
          *ℤ vol (at solid.i) (at solid.j) (at solid.k) (at solid.l)
          ≡ left (cross (at i) (at j) (at k)) (at solid.i) (at solid.j) (at solid.k) *ℤ height solid.l
      product = level_volume (at i) (at j) (at k) (at solid.i) (at solid.j) (at solid.k) (at solid.l)
          (level solid.i solid.has_i) (level solid.j solid.has_j) (level solid.k solid.has_k)

  abbrev marked : ℕ → Bool
  marked l = test (less_or_not (height l) (pos 0))

  -- the plane turned about the edge up to the first member
  next : Next
  next =
      ⊎_elim (λ f. absurd (none f)) (λ b. ⊎_elim (λ f. absurd (none f)) (λ m. from_both b m)
      (least marked (λ l. vol (at v) (at u) (at x.w) (at l)) (λ l. vol (at v) (at u) (at b.m) (at l)) ids positive))
      (least marked (λ l. vol (at v) (at u) (at x.w) (at l)) (λ l. pos 0) ids positive)
    where
      positive : (g : ℕ) → In g ids → marked g ≡ true → pos 0 <ℤ vol (at v) (at u) (at x.w) (at g)
      positive g m e = turned g (holds (less_or_not (height g) (pos 0)) e)

      none : ((g : ℕ) → In g ids → marked g ≡ true → ⊥) → ⊥
      none f = some_below (λ l h r. f l h (told (less_or_not (height l) (pos 0)) r))

      -- the member that comes first by its volumes with x and with the first member found
      from_both : (b : Least marked (λ l. vol (at v) (at u) (at x.w) (at l)) (λ l. pos 0) ids)
          → Least marked (λ l. vol (at v) (at u) (at x.w) (at l)) (λ l. vol (at v) (at u) (at b.m) (at l)) ids → Next
      from_both b m = record {
        w = m.m;
        has_w = m.there;
        low = holds (less_or_not (height m.m) (pos 0)) m.marked;
        first = λ l h r. by_lt_z (pos 0) (vol (at v) (at u) (at m.m) (at l)) (λ s. absurd (m.least l h (told (less_or_not (height l) (pos 0)) r)
            (gift_wrap (at v) (at u) (at x.w) (at b.m) (at m.m) (at l) (positive b.m b.there b.marked) s))) (λ s. s);
      }

  -- the plane of the edge and that member supports the set
  triple : (w : Next) → IsSupportingTriple at (Members ids) v u w.w
  triple w = record {
    has_i = (has_v at ids d i j k q u v way).0.0;
    has_j = (has_u at ids d i j k q u v way).0.0;
    has_k = w.has_w;
    area = area;
    supports = supports;
  }
    where
      area : ¬ (AreInLine (at v) (at u) (at w.w))
      area e = less_differ _ (pos 0) (under w.w w.low) (sym (vol-both (at u) (at v) (at x.w) (at w.w)) ∙ in_line-vol (at v) (at u) (at w.w) (at x.w) e)

      supports : (l : ℕ) → Members ids l → vol (at v) (at u) (at w.w) (at l) ≤ℤ pos 0
      supports l h = by_lt_z (height l) (pos 0) (w.first l h) (λ r. level (le_antisym (height l) (pos 0) (way.triple.supports l h) r))
        where
          level : height l ≡ pos 0 → vol (at v) (at u) (at w.w) (at l) ≤ℤ pos 0
          level e = subst (λ y. y ≤ℤ pos 0) (sym (vol-both (at u) (at v) (at l) (at w.w)))
              (at_most _ _ _ _ (square at ids d i j k q u v way) (over at ids d i j k q u v way l (at w.w) e)
              (not_right at ids d i j k q u v way l (h, e)) (way.triple.supports w.w w.has_w))

  -- in the polygon of this plane u comes after v
  comes_back : (w : Next) (p : List ℕ) → IsFacePolygon at (Members ids) v u w.w p → Follows v u p
  comes_back w p f =
      let y = next_member v p ((f.members v).1 ((has_v at ids d i j k q u v way).0, vol-first (at v) (at u) (at w.w))) in
      let has = (f.members u).1 ((has_u at ids d i j k q u v way).0, vol-second (at v) (at u) (at w.w)) in
      dite (ℕ_discrete u y.0) (λ e. subst (λ t. Follows v t p) (sym e) y.1) (λ n. absurd (omega (
        arith,
        ints,
        left-flip (cross (at v) (at u) (at w.w)) (at v) (at y.0) (at u),
        f.round v y.0 y.1 u has differ n,
        not_right' y.0 (follows_members v y.0 p y.1).1,
      )))
    where
      differ : u ≢ v
      differ e =
          let line = subst (λ t. AreInLine (at u) (at t) (at x.w)) e (in_line-twice (at u) (at x.w)) in
          omega (arith, ints, x.turns, in_line-left (cross (at i) (at j) (at k)) (at u) (at v) (at x.w) line)

      -- no member of the new plane lies to the right of the reversed edge
      not_right' : (y : ℕ) → In y p → pos 0 ≤ℤ left (cross (at v) (at u) (at w.w)) (at v) (at u) (at y)
      not_right' y m = let o = (f.members y).0 m in
          turn_sign _ _ _ _ (square-positive (cross (at v) (at u) (at w.w)) (triple w).area)
          (level_volume (at v) (at u) (at w.w) (at v) (at u) (at y) (at x.w) (vol-first (at v) (at u) (at w.w)) (vol-second (at v) (at u) (at w.w)) o.1)
          (subst (λ z. z <ℤ pos 0) (sym (vol-both (at u) (at v) (at x.w) (at w.w))) (under w.w w.low))
          (subst (λ z. z ≤ℤ pos 0) (sym (vol-both (at u) (at v) (at x.w) (at y))) (not_over y o.0.0))

-- proof of the law `OtherFace`
pub other_face : OtherFace
other_face at ids qs d (inr (inl e)) faces q m u v f = absurd (omega arith)
other_face at ids qs d (inr (inr (inl e))) faces q m u v f = absurd (omega arith)
other_face at ids qs d (inr (inr (inr e))) faces q m u v f = absurd (omega arith)
other_face at ids qs d (inl solid) faces q m u v f =
    let (i, j, k, t, g) = faces.only q m in
    let way : Way at (Members ids) i j k q u v = record { triple = t; face = g; follows = f } in
    let x = third at ids d i j k q u v way in
    let w = next at ids d solid.1 i j k q u v way x in
    let r = faces.each v u w.w (triple at ids d solid.1 i j k q u v way x w) in
    (r.0, r.1, comes_back at ids d solid.1 i j k q u v way x w r.0 r.2)
