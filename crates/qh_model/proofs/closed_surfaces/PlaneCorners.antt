-- Supporting triangles that close up have a triangle at each extreme id of a plane that has one of them. Otherwise, with weights by a direction that puts the
-- id beyond the other members of the plane, the terms of the triangles in the plane and those of the edges of the others would not cancel.
use Rattle.qh_model.proofs.Common.{◌≡◌, ◌≢◌, ℕ, arith, refl, sym, subst, ◌∙◌, inl, inr, ⊎_elim, List, [], ◌∷◌, ints, ℤ, pos, ◌+ℤ◌, ◌-ℤ◌, ◌*ℤ◌, neg_ℤ, ◌≤ℤ◌}
use Rattle.qh_model.proofs.Common.{◌<ℤ◌, filter, Triple, IsClosedSurface, Others, Extreme, cross, vol, In, Members, IsSupportingTriple, OnPlane, Vector, dot}
use Rattle.qh_model.proofs.Common.{AreSupporting, Separator}
use Rattle.qh_model.specs.headline.Predicates.{left}
use Rattle.qh_model.proofs.Decisions.{Decided, test, told, holds, both, contrary, same_id, in_or_not, each_or_not, some_or_none}
use Rattle.qh_model.proofs.{Members.each_of_three, Members.every_of, lists.Filters.in_filter, lists.Filters.of_filter, extremes.Directions.square-positive}
use Rattle.qh_model.proofs.{extremes.ExtremeIds.separated, algebra.Signs.equal_le, polygons.PlaneTurns.level_volume}
use Rattle.qh_model.proofs.{algebra.Integers.neg_mul, algebra.Integers.zero_mul, polygons.LeftOfEdge.at_most, polygons.LeftOfEdge.turn_sign}
use Rattle.qh_model.proofs.algebra.Order.{mul-nonneg, mul-pos, mul-nonpos_nonneg, cancel-zero, product_zero, zero_or_not, le_less, positive_le, negative_le}
use Rattle.qh_model.proofs.algebra.VectorIdentities.{vec, put, dotE, volE, VE, vol-first, vol-second, vol-third, vol-flip, vol-flip_last, vol-swap_last}
use Rattle.qh_model.proofs.closed_surfaces.Cancellation.{edge_part, edge_part-back, round_sign, prod_z, prod-pos, others, others-pos, others-same}
use Rattle.qh_model.proofs.closed_surfaces.SignedVolume.{around, none_lower, vol_at}
use Rattle.qh_model.proofs.algebra.Ring.{Expr, ring, Expr.con, Expr.add, Expr.sub as less, Expr.mul}

-- 1 at l, and below 0 at points that are before l along w
abbrev past : (w l x : Vector) → ℤ
past w l x = pos 2 *ℤ (dot w x -ℤ dot w l) +ℤ pos 1

-- the volume of a triangle, by those of its edges with l
past_split : (w a b c l q : Vector) → vol a b c q
    ≡ vol a b l q *ℤ past w l c +ℤ vol b c l q *ℤ past w l a +ℤ vol c a l q *ℤ past w l b +ℤ past w l q *ℤ vol a b c l
unfolding vol cross
past_split w a b c l q =
    let A = vec 0 in let B = vec 1 in let C = vec 2 in let L = vec 3 in let Q = vec 4 in let W = vec 5 in
    let D : VE → Expr = λ x. add (mul (con (pos 2)) (less (dotE W x) (dotE W L))) (con (pos 1)) in
    ring (put a (put b (put c (put l (put q (put w [])))))) (volE A B C Q) (add (add (add (mul (volE A B L Q) (D C)) (mul (volE B C L Q) (D A)))
    (mul (volE C A L Q) (D B))) (mul (D Q) (volE A B C L))) refl

module _ (at : ℕ → Vector) (ids : List ℕ) (ts : List Triple) (closed : IsClosedSurface at ts) (supporting : AreSupporting at (Members ids) ts)
    (t0 : Triple) (there : In t0 ts) (q : ℕ) (has_q : Members ids q) (low : vol (at t0.i) (at t0.j) (at t0.k) (at q) <ℤ pos 0)
    (l : ℕ) (extreme : OnPlane at (Extreme at (Members ids)) t0.i t0.j t0.k l) where
  abbrev height : ℕ → ℤ
  height x = vol (at t0.i) (at t0.j) (at t0.k) (at x)

  abbrev corners : Triple → List ℕ
  corners t = t.i ∷ t.j ∷ t.k ∷ []

  abbrev IsLevel : Triple → Type 0
  IsLevel t = (x : ℕ) → In x (corners t) → height x ≡ pos 0

  -- a triangle of the list in the plane, with the corner l
  abbrev HasCorner : Triple → Type 0
  HasCorner t = IsLevel t × In l (corners t)

  level_or_not : (t : Triple) → Decided (IsLevel t)
  level_or_not t = each_or_not (λ x. height x ≡ pos 0) (λ x. zero_or_not (height x)) (corners t)

  none : (((t : Triple) × In t ts × HasCorner t) → ⊥) → ⊥
  unfolding edge_part
  none never =
      none_lower part (edge_part-back V co m (λ a b. vol-flip (at b) (at a) (at l) (at q))) ts closed.closed (λ t r. by_level t r (level_or_not t)) t0 there
      ((sign t0 there own).1 low)
    where
      plane : IsSupportingTriple at (Members ids) t0.i t0.j t0.k
      plane = supporting t0 there

      n : Vector
      n = cross (at t0.i) (at t0.j) (at t0.k)

      s : Separator at (Others (Members ids) l) (at l)
      s = separated at ids l extreme.0

      D : ℕ → ℤ
      D x = past s.w (at l) (at x)

      V : ℕ → ℕ → ℤ
      V a b = vol (at a) (at b) (at l) (at q)

      square : pos 0 <ℤ dot n n
      square = square-positive n plane.area

      -- a member of the plane other than l
      Kept : ℕ → Type 0
      Kept x = (height x ≡ pos 0) × (x ≢ l)

      kept : (x : ℕ) → Decided (Kept x)
      kept x = both (height x ≡ pos 0) (x ≢ l) (zero_or_not (height x)) (contrary (x ≡ l) (same_id x l))

      all : List ℕ
      all = filter (λ x. test (kept x)) ids

      f : ℕ → ℤ
      f x = neg_ℤ (D x)

      f_pos : (x : ℕ) → In x all → pos 0 <ℤ f x
      f_pos x i = let r = of_filter (λ x. test (kept x)) ids x i in omega (arith, ints, s.past x (r.0, (holds (kept x) r.1).1))

      m : ℤ
      m = neg_ℤ (prod_z f all)

      m_neg : m ≤ℤ pos 0
      m_neg = let p = prod-pos f all (every_of (λ x. pos 0 <ℤ f x) all f_pos) in omega (arith, ints, p)

      weight : (x : ℕ) → Decided (Kept x) → ℤ
      weight x (inl k) = others f all x
      weight x (inr n) = pos 0

      fair : (x : ℕ) → Members ids x → Kept x → (d : Decided (Kept x)) → (pos 0 <ℤ weight x d) × (D x *ℤ weight x d ≡ m)
      fair x h k (inr n) = absurd (n k)
      fair x h k (inl _) = (
        others-pos f all f_pos x,
        omega (arith, ints, others-same f all x (in_filter (λ x. test (kept x)) ids x h (told (kept x) k)), neg_mul (D x) (others f all x)),
      )

      co : ℕ → ℤ
      co x = weight x (kept x)

      part : (ℕ × ℕ) → ℤ
      part = edge_part V co m

      -- ---- a triangle in the plane
      sign : (t : Triple) → In t ts → IsLevel t
          → (vol_at at (at q) t ≤ℤ pos 0 → around part t ≤ℤ pos 0) × (vol_at at (at q) t <ℤ pos 0 → around part t <ℤ pos 0)
      sign t r h =
          let own = supporting t r in let i = h t.i (inl refl) in let j = h t.j (inr (inl refl)) in let k = h t.k (inr (inr (inl refl))) in
          let flat = cancel-zero _ _ square (level_volume (at t0.i) (at t0.j) (at t0.k) (at t.i) (at t.j) (at t.k) (at l) i j k ∙ product_zero _ _ extreme.1) in
          round_sign V D co m (vol_at at (at q) t) (pos 1) t (omega (arith, ints))
          (omega (arith, ints, past_split s.w (at t.i) (at t.j) (at t.k) (at l) (at q), product_zero (D q) _ flat)) (λ x i.
          fair x (each_of_three (Members ids) t.i t.j t.k own.has_i own.has_j own.has_k x i)
          (h x i, λ e. never (t, r, (h, subst (λ y. In y (corners t)) e i))) (kept x))

      own : IsLevel t0
      own = each_of_three (λ x. height x ≡ pos 0) t0.i t0.j t0.k (vol-first (at t0.i) (at t0.j) (at t0.k)) (vol-second (at t0.i) (at t0.j) (at t0.k))
          (vol-third (at t0.i) (at t0.j) (at t0.k))

      -- ---- an edge of another triangle
      edge : (a b c : ℕ) → Members ids c → vol (at a) (at b) (at c) (at l) ≤ℤ pos 0 → (height a ≡ pos 0 → height b ≡ pos 0 → ¬ (height c ≡ pos 0))
          → part (a, b) ≤ℤ pos 0
      edge a b c has under off = mul-nonpos_nonneg m _ m_neg (by_kept (kept a) (kept b))
        where
          no_weight : (x : ℤ) → x ≡ pos 0 → pos 0 ≤ℤ (V a b *ℤ x)
          no_weight x e = equal_le (pos 0) _ (sym (product_zero (V a b) x e))

          by_kept : (d : Decided (Kept a)) (e : Decided (Kept b)) → pos 0 ≤ℤ (V a b *ℤ (weight a d *ℤ weight b e))
          by_kept (inr n) e = no_weight _ (zero_mul (weight b e))
          by_kept (inl k) (inr n) = no_weight _ (product_zero (others f all a) (pos 0) refl)
          by_kept (inl (d, _)) (inl (e, _)) = mul-nonneg (V a b) _ upward (positive_le _ (mul-pos _ _ (others-pos f all f_pos a) (others-pos f all f_pos b)))
            where
              -- the volume from the edge back, by the height of its last point
              turn : (x : ℕ) → dot n n *ℤ vol (at b) (at a) (at l) (at x) ≡ left n (at b) (at a) (at l) *ℤ height x
              turn x = level_volume (at t0.i) (at t0.j) (at t0.k) (at b) (at a) (at l) (at x) e d extreme.1

              upward : pos 0 ≤ℤ V a b
              upward =
                  let inside : pos 0 ≤ℤ left n (at b) (at a) (at l) = turn_sign _ _ _ _ square (turn c) (le_less _ _ (plane.supports c has) (off d e))
                  (omega (arith, ints, vol-flip (at b) (at a) (at l) (at c), vol-swap_last (at a) (at b) (at c) (at l), under)) in
                  omega (arith, ints, vol-flip (at a) (at b) (at l) (at q), at_most _ _ _ _ square (turn q) inside (negative_le _ low))

      -- the three edges of a triangle
      by_level : (t : Triple) → In t ts → Decided (IsLevel t) → around part t ≤ℤ pos 0
      by_level t r (inl h) = (sign t r h).0 ((supporting t r).supports q has_q)
      by_level t r (inr off) =
          omega (
            arith,
            ints,
            edge t.i t.j t.k own.has_k under (λ a b c. off (level a b c)),
            edge t.j t.k t.i own.has_i (omega (arith, ints, vol-flip_last (at t.j) (at t.i) (at t.k) (at l), vol-flip (at t.j) (at t.i) (at t.k) (at l), under))
                (λ b c a. off (level a b c)),
            edge t.k t.i t.j own.has_j (omega (arith, ints, vol-flip (at t.k) (at t.i) (at t.j) (at l), vol-flip_last (at t.i) (at t.j) (at t.k) (at l), under))
                (λ c a b. off (level a b c)),
          )
        where
          own : IsSupportingTriple at (Members ids) t.i t.j t.k
          own = supporting t r

          under : vol (at t.i) (at t.j) (at t.k) (at l) ≤ℤ pos 0
          under = own.supports l extreme.0.0

          level : height t.i ≡ pos 0 → height t.j ≡ pos 0 → height t.k ≡ pos 0 → IsLevel t
          level = each_of_three (λ x. height x ≡ pos 0) t.i t.j t.k

  -- a triangle of the list in the plane has the corner l
  pub corner_in_plane : (t : Triple) × In t ts × HasCorner t
  corner_in_plane = ⊎_elim (λ r. r) (λ n. absurd (none n))
      (some_or_none HasCorner (λ t. both (IsLevel t) (In l (corners t)) (level_or_not t) (in_or_not l (corners t))) ts)
