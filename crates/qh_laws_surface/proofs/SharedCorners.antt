-- Two faces of a solid share no diagonal: two corners that they share are neighbours in both.
use Rattle.qh_model.proofs.Common.{◌≡◌, ◌≢◌, ℕ, arith, refl, sym, ap, subst, ◌∙◌, inl, inr, ⊎_elim, ◌⊎◌, List, [], ◌∷◌, ints, by_lt_z, ℤ, pos, ◌*ℤ◌, neg_ℤ}
use Rattle.qh_model.proofs.Common.{◌≤ℤ◌, ◌<ℤ◌, ℕ_discrete, HasDistinctPoints, IsAlong, IsDimension, HasTetrahedron, Extreme, Follows, IsFacePolygon, In}
use Rattle.qh_model.proofs.Common.{Members, IsSupportingTriple, OnPlane, minus, dot, Vector, cross, vol}
use Rattle.qh_model.specs.headline.Predicates.{left}
use Rattle.qh_model.proofs.{Decisions.Decided, Decisions.same_id, polygons.PlaneTurns.level_volume, polygons.PlaneTurns.level_parallel}
use Rattle.qh_model.proofs.algebra.Order.{cancel-zero, product_zero, le_antisym, mul-pos_neg, mul-nonneg_nonpos, mul-pos}
use Rattle.qh_model.proofs.{algebra.Integers.mul_neg, polygons.LeftOfEdge.below, polygons.Unique.one_polygon}
use Rattle.qh_model.proofs.algebra.VectorIdentities.{opposite, dot-opposite, vol-dot, vol-swap_last, vol-first, vol-second, vol-third, left-turn, left-flip}
use Rattle.qh_model.proofs.extremes.Directions.{square-positive, from_plane, along_or_opposite, dot_along}
use Rattle.qh_model.proofs.polygons.{Edges.seen_from, Edges.one_face_each_way, Neighbours.next_member, Neighbours.follows_members}
use Rattle.qh_laws_surface.proofs.ConvexLists.{Turn, turned, no_back, first_two, not_first, not_second, IsTurn}

-- equality of two lists is decided
pub same_list : (p q : List ℕ) → Decided (p ≡ q)
same_list [] [] = inl refl
same_list [] (v ∷ q) = inr (λ e. cc)
same_list (u ∷ p) [] = inr (λ e. cc)
same_list (u ∷ p) (v ∷ q) = by_decision (same_id u v) (same_list p q)
  where
    by_decision : Decided (u ≡ v) → Decided (p ≡ q) → Decided ((u ∷ p) ≡ (v ∷ q))
    by_decision (inl e) (inl f) = inl cc
    by_decision (inr x) f = inr (λ e. x cc)
    by_decision e (inr x) = inr (λ e. x cc)

-- four members that are not in one plane
pub tetrahedron : (at : ℕ → Vector) (A : ℕ → Type 0) → IsDimension at A 3 → HasTetrahedron at A
tetrahedron at A (inl h) = h.1
tetrahedron at A (inr (inl h)) = absurd (omega (arith, h.0))
tetrahedron at A (inr (inr (inl h))) = absurd (omega (arith, h.0))
tetrahedron at A (inr (inr (inr h))) = absurd (omega (arith, h.0))

module _ (at : ℕ → Vector) (ids : List ℕ) (solid : IsDimension at (Members ids) 3) where
  -- ---- one plane
  module _ {i j k : ℕ} (plane : IsSupportingTriple at (Members ids) i j k) where
    abbrev height : ℕ → ℤ
    height l = vol (at i) (at j) (at k) (at l)

    level : (l : ℕ) → Members ids l → pos 0 ≤ℤ height l → height l ≡ pos 0
    level l m h = le_antisym (height l) (pos 0) (plane.supports l m) h

    -- a member lies below
    some_below : (l : ℕ) × Members ids l × (height l <ℤ pos 0)
    some_below = by_corner (tetrahedron at (Members ids) solid)
      where
        by_corner : HasTetrahedron at (Members ids) → (l : ℕ) × Members ids l × (height l <ℤ pos 0)
        by_corner s = by_lt_z (height s.i) (pos 0) (λ h. (s.i, s.has_i, h)) (λ hi. by_lt_z (height s.j) (pos 0) (λ h. (s.j, s.has_j, h))
            (λ hj. by_lt_z (height s.k) (pos 0) (λ h. (s.k, s.has_k, h)) (λ hk. by_lt_z (height s.l) (pos 0) (λ h. (s.l, s.has_l, h))
            (λ hl. absurd (s.volume (cancel-zero _ _ (square-positive (cross (at i) (at j) (at k)) plane.area)
            (level_volume (at i) (at j) (at k) (at s.i) (at s.j) (at s.k) (at s.l) (level s.i s.has_i hi) (level s.j s.has_j hj) (level s.k s.has_k hk)
            ∙ product_zero _ _ (level s.l s.has_l hl))))))))

    -- a supporting triple that lies in the plane has the same side outside
    pub same_plane : {u v w : ℕ} → IsSupportingTriple at (Members ids) u v w → height u ≡ pos 0 → height v ≡ pos 0 → height w ≡ pos 0
        → IsAlong (cross (at i) (at j) (at k)) (cross (at u) (at v) (at w))
    same_plane {u} {v} {w} t hu hv hw =
        ⊎_elim (λ l. l) (λ l. absurd (opposed l)) (along_or_opposite (cross (at i) (at j) (at k)) (cross (at u) (at v) (at w)) plane.area t.area
        (level_parallel (at i) (at j) (at k) (at u) (at v) (at w) hu hv hw))
      where
        opposed : IsAlong (cross (at i) (at j) (at k)) (opposite (cross (at u) (at v) (at w))) → ⊥
        opposed l =
            let b = some_below in
            let scale = dot_along (cross (at i) (at j) (at k)) (opposite (cross (at u) (at v) (at w))) l (minus (at b.0) (at u)) in
            let here = from_plane (at i) (at j) (at k) (at u) (at b.0) hu in
            let there = dot-opposite (cross (at u) (at v) (at w)) (minus (at b.0) (at u)) in
            let volume = vol-dot (at u) (at v) (at w) (at b.0) in
            let below = mul-pos_neg (pos l.s) (height b.0) (omega (arith, ints, l.some_s)) b.2 in
            let above = mul-nonneg_nonpos (pos l.t) (vol (at u) (at v) (at w) (at b.0)) (omega (arith, ints)) (t.supports b.0 b.1) in
            negative (pos l.s) (pos l.t) (height b.0) (vol (at u) (at v) (at w) (at b.0)) below above
            (ap (λ x. pos l.s *ℤ x) (sym here) ∙ scale ∙ ap (λ x. pos l.t *ℤ x) (there ∙ ap neg_ℤ (sym volume)))
          where
            negative : (s t h v : ℤ) → (s *ℤ h) <ℤ pos 0 → (t *ℤ v) ≤ℤ pos 0 → s *ℤ h ≡ t *ℤ neg_ℤ v → ⊥
            negative s t h v p q e = omega (arith, ints, p, q, e, mul_neg t v)

    -- this triple has the same polygon
    pub same_face : {u v w : ℕ} {F G : List ℕ} → IsSupportingTriple at (Members ids) u v w → height u ≡ pos 0 → height v ≡ pos 0 → height w ≡ pos 0
        → IsFacePolygon at (Members ids) i j k F → IsFacePolygon at (Members ids) u v w G → F ≡ G
    same_face {u} {v} {w} {F} {G} t hu hv hw f g =
        one_polygon at (OnPlane at (Extreme at (Members ids)) u v w) (cross (at u) (at v) (at w)) F G
        (seen_from at (Members ids) i j k u v w F f (same_plane t hu hv hw) hu) g

  -- ---- two planes
  module _ {i j k a b c : ℕ} {F G : List ℕ} (plane : IsSupportingTriple at (Members ids) i j k) (other : IsSupportingTriple at (Members ids) a b c)
      (f : IsFacePolygon at (Members ids) i j k F) (g : IsFacePolygon at (Members ids) a b c G) (apart : F ≢ G) where
    abbrev n : Vector
    n = cross (at i) (at j) (at k)

    abbrev m : Vector
    m = cross (at a) (at b) (at c)

    -- a member of the second lies below the first
    lower : (l : ℕ) × Members ids l × (vol (at a) (at b) (at c) (at l) ≡ pos 0) × (vol (at i) (at j) (at k) (at l) <ℤ pos 0)
    lower = by_lt_z (height plane a) (pos 0) (λ h. (a, other.has_i, vol-first (at a) (at b) (at c), h))
        (λ ha. by_lt_z (height plane b) (pos 0) (λ h. (b, other.has_j, vol-second (at a) (at b) (at c), h))
        (λ hb. by_lt_z (height plane c) (pos 0) (λ h. (c, other.has_k, vol-third (at a) (at b) (at c), h))
        (λ hc. absurd (apart (same_face plane other (level plane a other.has_i ha) (level plane b other.has_j hb) (level plane c other.has_k hc) f g)))))

    -- if a corner of the first lies to the left of two shared ones, this member lies to their right in the second
    to_right : (u v w : ℕ) → In u F → In v F → In u G → In v G → In w F → Turn n at u v w → left m (at u) (at v) (at lower.0) <ℤ pos 0
    to_right u v w fu fv gu gv fw t = by_lt_z turn (pos 0) (λ h. h) (λ h. absurd (omega (
      arith,
      ints,
      level_volume (at a) (at b) (at c) (at u) (at v) (at lower.0) (at w) ((g.members u).0 gu).1 ((g.members v).0 gv).1 lower.2,
      mul-nonneg_nonpos turn (vol (at a) (at b) (at c) (at w)) h (other.supports w ((f.members w).0 fw).0.0),
      mul-pos (dot m m) (vol (at u) (at v) (at lower.0) (at w)) (square-positive m other.area) over,
    )))
      where
        turn : ℤ
        turn = left m (at u) (at v) (at lower.0)

        over : pos 0 <ℤ vol (at u) (at v) (at lower.0) (at w)
        over = omega (
          arith,
          ints,
          vol-swap_last (at u) (at v) (at w) (at lower.0),
          below _ _ _ _ (square-positive n plane.area)
              (level_volume (at i) (at j) (at k) (at u) (at v) (at w) (at lower.0)
              ((f.members u).0 fu).1 ((f.members v).0 fv).1 ((f.members w).0 fw).1) t lower.3,
        )

    -- so the shared corners are no diagonal of the first
    no_diagonal : (u v w x : ℕ) → In u F → In v F → In u G → In v G → In w F → In x F → Turn n at u v w → Turn n at v u x → ⊥
    no_diagonal u v w x fu fv gu gv fw fx tw tx = omega (
      arith,
      ints,
      to_right u v w fu fv gu gv fw tw,
      to_right v u x fv fu gv gu fx tx,
      left-flip m (at v) (at u) (at lower.0),
      left-turn m (at u) (at v) (at lower.0),
      left-turn m (at v) (at lower.0) (at u),
    )

    -- the shared corners are neighbours
    pub neighbours : (u v : ℕ) → u ≢ v → In u F → In v F → In u G → In v G → Follows u v F ⊎ Follows v u F
    neighbours u v ne fu fv gu gv = by_next (next_member u F fu) (next_member v F fv)
      where
        by_next : (y : ℕ) × Follows u y F → (z : ℕ) × Follows v z F → Follows u v F ⊎ Follows v u F
        by_next (y, p) (z, q) = by_decision (ℕ_discrete v y) (ℕ_discrete u z)
          where
            by_decision : Dec (v ≡ y) → Dec (u ≡ z) → Follows u v F ⊎ Follows v u F
            by_decision (yes e) r = inl (subst (λ t. Follows u t F) (sym e) p)
            by_decision (no e) (yes h) = inr (subst (λ t. Follows v t F) (sym h) q)
            by_decision (no e) (no h) =
                let right = f.round u y p v fv (λ s. ne (sym s)) e in
                let leftward = f.round v z q u fu ne h in
                absurd (no_diagonal u v z y fu fv gu gv (follows_members v z F q).1 (follows_members u y F p).1
                (turned n at z u v (turned n at v z u leftward)) (turned n at y v u (turned n at u y v right)))

  -- if a third corner of the face lies to the left, the second follows the first
  forward : (i j k : ℕ) {F : List ℕ} → IsFacePolygon at (Members ids) i j k F → {u v : ℕ} → IsTurn (cross (at i) (at j) (at k)) at F u v
      → Follows u v F ⊎ Follows v u F → Follows u v F
  forward i j k f t (inl h) = h
  forward i j k f {u} {v} t (inr h) =
      let n = cross (at i) (at j) (at k) in
      absurd (no_back n at v t.w u (turned n at u v t.w t.turns)
      (f.round v u h t.w t.has_w (not_second n at u v t.w t.turns) (not_first n at u v t.w t.turns)))

  -- two faces with a common step are equal
  pub shared_step : HasDistinctPoints at (Members ids) → {i j k a b c : ℕ} {F G : List ℕ}
      → IsSupportingTriple at (Members ids) i j k → IsSupportingTriple at (Members ids) a b c
      → IsFacePolygon at (Members ids) i j k F → IsFacePolygon at (Members ids) a b c G
      → {u v : ℕ} → IsTurn (cross (at i) (at j) (at k)) at F u v → IsTurn (cross (at a) (at b) (at c)) at G u v → F ≡ G
  shared_step d {i} {j} {k} {a} {b} {c} {F} {G} plane other f g {u} {v} s t = by_decision (same_list F G)
    where
      by_decision : Decided (F ≡ G) → F ≡ G
      by_decision (inl e) = e
      by_decision (inr x) =
          let ne = first_two (cross (at i) (at j) (at k)) at u v s.w s.turns in
          let here = forward i j k f s (neighbours plane other f g x u v ne s.has_u s.has_v t.has_u t.has_v) in
          let there = forward a b c g t (neighbours other plane g f (λ e. x (sym e)) u v ne t.has_u t.has_v s.has_u s.has_v) in
          one_face_each_way at ids i j k a b c F G u v d plane other f g here there
