-- The polygon of three points that are not in line.
use Rattle.qh_model.proofs.Common.{AreInLine, Extreme, In, IsPolygon, List, Members, Vector, [], ap, arith, common_steps, cond, cross, dot, false, get_or, inl}
use Rattle.qh_model.proofs.Common.{inr, ints, length, minus, ne_of_lt, origin, place, pos, refl, subst, sym, true, ℕ, ℤ, ◌*ℤ◌, ◌<ℤ◌, ◌<◌, ◌↔◌, ◌∙◌, ◌∷◌, ◌≡◌}
use Rattle.qh_model.proofs.{Common.◌≢◌, algebra.Integers.zero_mul, algebra.Order.cancel-zero, algebra.Order.le_less}
use Rattle.qh_model.proofs.algebra.VectorIdentities.{dot_comm, in_line-last, in_line-twice, left-dot, left-flip, left-turn, vector_path}
use Rattle.qh_model.proofs.extremes.Directions.{Parallel, in_line-flip, parallel_normal, square-positive}
use Rattle.qh_model.specs.headline.Predicates.{left}
use Rattle.qh_polygon.proofs.LinesAndPlanes.{same_point, three_line}
use Rattle.qh_polygon.proofs.polygons.{Chain.is_left-no, Chain.is_left-yes, ComponentTurns.turns_agree, LeftCycles.cycle_polygon, LeftCycles.side_of}
use Rattle.qh_polygon.proofs.polygons.{LeftCycles.third_of, PlanarIds.flat_of, Turns.IsFlat}
use Rattle.qh_polygon.specs.{contract.PlanarSets.IsPlanarSet, steps.Chains.is_left, steps.Chains.triangle, steps.Chains.turn_of}

-- three members that turn left, beginning with the least, are their polygon
pub left_triangle : (n : Vector) (at : ℕ → Vector) (A : ℕ → Type 0) (a b c : ℕ) → ((x : ℕ) → A x ↔ In x (a ∷ b ∷ c ∷ []))
    → a < b → a < c → b ≢ c → pos 0 <ℤ left n (at a) (at b) (at c) → IsPolygon at (Extreme at A) n (a ∷ b ∷ c ∷ [])
left_triangle n at A a b c l ab ac bc h =
    let hb = subst (λ t. pos 0 <ℤ t) (left-turn n (at a) (at b) (at c)) h in let hc = subst (λ t. pos 0 <ℤ t) (left-turn n (at b) (at c) (at a)) hb in
    cycle_polygon n at A a (b ∷ c ∷ []) l (third_of a b c [] (ne_of_lt ab) (ne_of_lt ac) bc)
    (grind (arith, common_steps, ab, ac, bc)) (λ v i. grind (arith, common_steps, i, ab, ac)) (
      side_of n at (a ∷ b ∷ c ∷ []) c a b c (λ x i u v. grind (arith, common_steps, i, u, v)) hc h,
      (
        side_of n at (a ∷ b ∷ c ∷ []) a b c a (λ x i u v. grind (arith, common_steps, i, u, v)) h hb,
        side_of n at (a ∷ b ∷ c ∷ []) b c a b (λ x i u v. grind (arith, common_steps, i, u, v)) hb hc,
      ),
    )

-- ---- three ids of a planar set turn one way or the other
-- no turn about the normal of the plane: the three are in line
turn_zero : (n a b c : Vector) → pos 0 <ℤ dot n n → dot n (minus b a) ≡ pos 0 → dot n (minus c a) ≡ pos 0 → left n a b c ≡ pos 0 → AreInLine a b c
turn_zero n a b c s p q z =
    vector_path (cross a b c) origin (none n.x (cross a b c).x along.x) (none n.y (cross a b c).y along.y) (none n.z (cross a b c).z along.z)
  where
    along : Parallel n (cross a b c)
    along = parallel_normal n a b c p q

    none : (x y : ℤ) → dot n n *ℤ y ≡ dot n (cross a b c) *ℤ x → y ≡ pos 0
    none x y e = cancel-zero (dot n n) y s (e ∙ ap (λ t. t *ℤ x) (dot_comm n (cross a b c) ∙ sym (left-dot n a b c) ∙ z) ∙ zero_mul x)

module _ (pts : List Vector) (n : Vector) (i j k : ℕ) (h : IsPlanarSet pts (i ∷ j ∷ k ∷ []) n) (ij : i < j) (jk : j < k) where
  -- they are flat across the normal
  flat : IsFlat n (place pts) (λ x. In x (i ∷ j ∷ k ∷ []))
  flat = flat_of pts (i ∷ j ∷ k ∷ []) n h

  -- the three of them do turn
  turns : left n (place pts i) (place pts j) (place pts k) ≡ pos 0 → ⊥
  turns z =
      let at = place pts in
      let line = turn_zero n (at i) (at j) (at k) flat.some (flat.even i j (inl refl) (inr (inl refl))) (flat.even i k (inl refl) (inr (inr (inl refl)))) z in
      let apart = square-positive (minus (at j) (at i))
      (λ e. ne_of_lt ij (h.set.distinct i j (inl refl) (inr (inl refl)) (same_point (at i) (at j) e))) in
      let each : (x : ℕ) → In x (i ∷ j ∷ k ∷ []) → AreInLine (at i) (at j) (at x) = (λ x. elim [
        | inl e ↦ subst (λ t. AreInLine (at i) (at j) (at t)) (sym e) (in_line-flip (at i) (at j) (at i) (in_line-twice (at i) (at j)))
        | inr (inl e) ↦ subst (λ t. AreInLine (at i) (at j) (at t)) (sym e) (in_line-last (at i) (at j))
        | inr (inr (inl e)) ↦ subst (λ t. AreInLine (at i) (at j) (at t)) (sym e) line
        | inr (inr (inr m)) ↦ absurd m
      ]) in
      h.area (three_line (at i) (at j) (at h.i) (at h.j) (at h.k) apart (each h.i h.has_i) (each h.j h.has_j) (each h.k h.has_k))

  -- so one order of them is their polygon
  pub triangle_polygon : IsPolygon (place pts) (Extreme (place pts) (Members (i ∷ j ∷ k ∷ []))) n (triangle (turn_of pts n) i j k)
  triangle_polygon =
      let ik : i < k = omega arith in let at = place pts in
      elim (is_left (turn_of pts n i j k)) as (λ b. is_left (left n (at i) (at j) (at k)) ≡ b
      → IsPolygon at (Extreme at (Members (i ∷ j ∷ k ∷ []))) n (cond b (i ∷ j ∷ k ∷ []) (i ∷ k ∷ j ∷ []))) [
        | true ↦ λ e. left_triangle n at (Members (i ∷ j ∷ k ∷ [])) i j k (λ x. (λ m. m, λ m. m)) ij ik (ne_of_lt jk) (is_left-yes _ e)
        | false ↦ λ e. left_triangle n at (Members (i ∷ j ∷ k ∷ [])) i k j
            (λ x. (λ m. grind (arith, m), λ m. grind (arith, m))) ik ij (λ q. ne_of_lt jk (sym q))
            (let l = le_less _ _ (is_left-no _ e) turns in omega (arith, ints, left-flip n (at i) (at k) (at j), l))
      ] (sym (turns_agree pts n (λ x. In x (i ∷ j ∷ k ∷ [])) flat i j k (inl refl) (inr (inl refl)) (inr (inr (inl refl)))))

-- ---- the same for a list of three
three_ids : (ids : List ℕ) (i j k : ℕ) → length ids ≡ 3 → i ≡ get_or ids 0 i → j ≡ get_or ids 1 j → k ≡ get_or ids 2 k → ids ≡ i ∷ j ∷ k ∷ []
three_ids (a ∷ b ∷ c ∷ []) i j k l p q r = cc
three_ids ids i j k l p q r = absurd (omega arith)

-- the polygon of a planar set of three, as the code reads it
pub polygon_of_three : (pts : List Vector) (ids : List ℕ) (n : Vector) (i j k : ℕ) (q : List ℕ) → length ids ≡ 3
    → i ≡ get_or ids 0 i → j ≡ get_or ids 1 j → k ≡ get_or ids 2 k
    → q ≡ triangle (turn_of pts n) i j k → IsPlanarSet pts ids n → IsPolygon (place pts) (Extreme (place pts) (Members ids)) n q
polygon_of_three pts ids n i j k q l pi pj pk e h =
    let is = three_ids ids i j k l pi pj pk in let set = subst (λ t. IsPlanarSet pts t n) is h in
    subst (λ t. IsPolygon (place pts) (Extreme (place pts) (Members t)) n q) (sym is)
    (subst (IsPolygon (place pts) (Extreme (place pts) (Members (i ∷ j ∷ k ∷ []))) n) (sym e)
    (triangle_polygon pts n i j k set (set.set.rising 0 (omega arith)) (set.set.rising 1 (omega arith))))
