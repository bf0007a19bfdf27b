-- The polygon of four points that turn left one after the other.
use Rattle.qh_model.proofs.Common.{◌≡◌, ◌≢◌, ℕ, ◌<◌, List, [], ◌∷◌, arith, sym, subst, ◌∙◌, inl, inr, refl, length, get_or, true, ne_of_lt, and_parts}
use Rattle.qh_model.proofs.Common.{common_steps, pos, ◌<ℤ◌, ◌↔◌, Extreme, IsPolygon, place, In, Members, Vector}
use Rattle.qh_model.specs.headline.Predicates.{left}
use Rattle.qh_polygon.proofs.polygons.{Chain.is_left-yes, ComponentTurns.turns_agree, LeftCycles.cycle_polygon, LeftCycles.side_of, LeftCycles.third_of}
use Rattle.qh_polygon.proofs.polygons.PlanarIds.{flat_of}
use Rattle.qh_polygon.specs.{contract.PlanarSets.IsPlanarSet, steps.Chains.is_left, steps.Chains.turn_of, steps.Chains.IsLeftCycle}

-- four members that turn left, beginning with the least, are their polygon
pub left_quadrilateral : (n : Vector) (at : ℕ → Vector) (A : ℕ → Type 0) (a b c d : ℕ) → ((x : ℕ) → A x ↔ In x (a ∷ b ∷ c ∷ d ∷ []))
    → a < b → a < c → a < d → b ≢ c → b ≢ d → c ≢ d
    → pos 0 <ℤ left n (at a) (at b) (at c) → pos 0 <ℤ left n (at b) (at c) (at d)
    → pos 0 <ℤ left n (at c) (at d) (at a) → pos 0 <ℤ left n (at d) (at a) (at b)
    → IsPolygon at (Extreme at A) n (a ∷ b ∷ c ∷ d ∷ [])
left_quadrilateral n at A a b c d l ab ac ad bc bd cd abc bcd cda dab =
    cycle_polygon n at A a (b ∷ c ∷ d ∷ []) l (third_of a b c (d ∷ []) (ne_of_lt ab) (ne_of_lt ac) bc)
    (grind (arith, common_steps, ab, ac, ad, bc, bd, cd)) (λ v i. grind (arith, common_steps, i, ab, ac, ad)) (
      side_of n at (a ∷ b ∷ c ∷ d ∷ []) d a b c (λ x i u v. grind (arith, common_steps, i, u, v)) dab abc,
      (
        side_of n at (a ∷ b ∷ c ∷ d ∷ []) a b c d (λ x i u v. grind (arith, common_steps, i, u, v)) abc bcd,
        (
          side_of n at (a ∷ b ∷ c ∷ d ∷ []) b c d a (λ x i u v. grind (arith, common_steps, i, u, v)) bcd cda,
          side_of n at (a ∷ b ∷ c ∷ d ∷ []) c d a b (λ x i u v. grind (arith, common_steps, i, u, v)) cda dab,
        ),
      ),
    )

-- ---- the same for a list of four, as the code reads it
four_ids : (ids : List ℕ) (i j k l : ℕ) → length ids ≡ 4 → i ≡ get_or ids 0 i → j ≡ get_or ids 1 j → k ≡ get_or ids 2 k → l ≡ get_or ids 3 l
    → ids ≡ i ∷ j ∷ k ∷ l ∷ []
four_ids (a ∷ b ∷ c ∷ d ∷ []) i j k l e p q r s = cc
four_ids ids i j k l e p q r s = absurd (omega arith)

module _ (pts : List Vector) (n : Vector) (i j k l : ℕ) (h : IsPlanarSet pts (i ∷ j ∷ k ∷ l ∷ []) n) (ij : i < j) (jk : j < k) (kl : k < l) where
  -- a left turn of three of them
  left_turn : (u v w : ℕ) → In u (i ∷ j ∷ k ∷ l ∷ []) → In v (i ∷ j ∷ k ∷ l ∷ []) → In w (i ∷ j ∷ k ∷ l ∷ [])
      → is_left (turn_of pts n u v w) ≡ true → pos 0 <ℤ left n (place pts u) (place pts v) (place pts w)
  left_turn u v w hu hv hw e =
      is_left-yes _ (sym (turns_agree pts n (λ x. In x (i ∷ j ∷ k ∷ l ∷ [])) (flat_of pts (i ∷ j ∷ k ∷ l ∷ []) n h) u v w hu hv hw) ∙ e)

  pub left_cycle : (q : List ℕ) → IsLeftCycle (turn_of pts n) i j k l q → IsPolygon (place pts) (Extreme (place pts) (Members (i ∷ j ∷ k ∷ l ∷ []))) n q
  left_cycle q (a, b, c, e, turns, same) =
      let in_a = (same a).1 (inl refl) in let in_b = (same b).1 (inr (inl refl)) in let in_c = (same c).1 (inr (inr (inl refl))) in
      let t = and_parts _ _ turns in let u = and_parts _ _ t.0 in let v = and_parts _ _ u.0 in
      subst (IsPolygon (place pts) (Extreme (place pts) (Members (i ∷ j ∷ k ∷ l ∷ []))) n) (sym e)
      (left_quadrilateral n (place pts) (Members (i ∷ j ∷ k ∷ l ∷ [])) i a b c
      (λ x. (elim [ inl e ↦ inl e | inr m ↦ inr ((same x).0 m) ], elim [ inl e ↦ inl e | inr m ↦ inr ((same x).1 m) ]))
      (above a in_a) (above b in_b) (above c in_c) apart.0 apart.1 apart.2
      (left_turn i a b (inl refl) (inr in_a) (inr in_b) v.0) (left_turn a b c (inr in_a) (inr in_b) (inr in_c) v.1)
      (left_turn b c i (inr in_b) (inr in_c) (inl refl) u.1) (left_turn c i a (inr in_c) (inl refl) (inr in_a) t.1))
    where
      above : (x : ℕ) → In x (j ∷ k ∷ l ∷ []) → i < x
      above x m = grind (arith, common_steps, m, ij, jk, kl)

      apart : (a ≢ b) × (a ≢ c) × (b ≢ c)
      apart = let x = (same j).0 (inl refl) in let y = (same k).0 (inr (inl refl)) in let z = (same l).0 (inr (inr (inl refl))) in
          (grind (arith, common_steps, x, y, z, jk, kl), grind (arith, common_steps, x, y, z, jk, kl), grind (arith, common_steps, x, y, z, jk, kl))

-- the polygon of a planar set of four
pub polygon_of_four : (pts : List Vector) (ids : List ℕ) (n : Vector) (i j k l : ℕ) (q : List ℕ) → length ids ≡ 4
    → i ≡ get_or ids 0 i → j ≡ get_or ids 1 j → k ≡ get_or ids 2 k → l ≡ get_or ids 3 l → IsLeftCycle (turn_of pts n) i j k l q
    → IsPlanarSet pts ids n → IsPolygon (place pts) (Extreme (place pts) (Members ids)) n q
polygon_of_four pts ids n i j k l q e pi pj pk pl o h =
    let is = four_ids ids i j k l e pi pj pk pl in let set = subst (λ t. IsPlanarSet pts t n) is h in
    subst (λ t. IsPolygon (place pts) (Extreme (place pts) (Members t)) n q) (sym is)
    (left_cycle pts n i j k l set (set.set.rising 0 (omega arith)) (set.set.rising 1 (omega arith)) (set.set.rising 2 (omega arith)) q o)
