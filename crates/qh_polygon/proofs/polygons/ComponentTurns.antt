-- In one plane, a turn computed from one component of the normal is to the left exactly if the turn itself is; so both have the same chains.
use Rattle.qh_model.proofs.Common.{In, List, Vector, [], ap, arith, cond, false, inl, inr, place, refl, reverse, subst, sym, true, ℕ, ℤ, ⊎_elim, ◌∙◌, ◌∷◌, ◌≡◌}
use Rattle.qh_model.proofs.algebra.Signs.{less_differ}
use Rattle.qh_polygon.proofs.polygons.{Cycles.turned_onto-in, Stacks.reverse-turned_onto, Turns.IsFlat, Turns.turn_about}
use Rattle.qh_polygon.specs.steps.Chains.{chain, is_left, joined, kept_below, turn_of}
use Rattle.qh_pred.proofs.Turns.{turn_sign}

-- turns of members of A that are to the left at the same time
abbrev pub Agree : (ℕ → Type 0) → (ℕ → ℕ → ℕ → ℤ) → (ℕ → ℕ → ℕ → ℤ) → Type 0
Agree A turn other = (u v w : ℕ) → A u → A v → A w → is_left (turn u v w) ≡ is_left (other u v w)

module _ (A : ℕ → Type 0) (turn other : ℕ → ℕ → ℕ → ℤ) (agree : Agree A turn other) where
  -- either keeps the same ids, which were there
  kept_below-same : (y t : ℕ) (s : List ℕ) → A y → ((x : ℕ) → In x (t ∷ s) → A x)
      → (kept_below turn y t s ≡ kept_below other y t s) × ((x : ℕ) → In x (kept_below other y t s) → A x)
  kept_below-same y t [] ay all = (refl, all)
  kept_below-same y t (r ∷ s) ay all = let k = kept_below-same y r s ay (λ x i. all x (inr i)) in (
    ap (λ b. cond b (t ∷ r ∷ s) (kept_below turn y r s)) (agree r t y (all r (inr (inl refl))) (all t (inl refl)) ay)
        ∙ ap (λ v. cond (is_left (other r t y)) (t ∷ r ∷ s) v) k.0,
    elim (is_left (other r t y)) as (λ b. (x : ℕ) → In x (cond b (t ∷ r ∷ s) (kept_below other y r s)) → A x) [ true ↦ all | false ↦ k.1 ],
  )

  -- so chains are the same
  chain-same : (t : ℕ) (s xs : List ℕ) → ((x : ℕ) → In x (t ∷ s) → A x) → ((x : ℕ) → In x xs → A x) → chain turn (t ∷ s) xs ≡ chain other (t ∷ s) xs
  chain-same t s [] all more = refl
  chain-same t s (y ∷ ys) all more = let k = kept_below-same y t s (more y (inl refl)) all in
      ap (λ v. chain turn (y ∷ v) ys) k.0
      ∙ chain-same y (kept_below other y t s) ys (λ x. elim [ inl e ↦ more x (inl e) | inr j ↦ k.1 x j ]) (λ x i. more x (inr i))

-- in one plane, the component of the normal determines the turn
pub turns_agree : (pts : List Vector) (n : Vector) (A : ℕ → Type 0) → IsFlat n (place pts) A → Agree A (turn_of pts n) (turn_about n (place pts))
turns_agree = grind (arith, less_differ, turn_sign)

-- the cycle of two chains in one plane
pub joined-same : (pts : List Vector) (n : Vector) (A : ℕ → Type 0) (xs : List ℕ) → IsFlat n (place pts) A → ((x : ℕ) → In x xs → A x)
    → joined (chain (turn_about n (place pts)) [] xs) (chain (turn_about n (place pts)) [] (reverse xs))
    ≡ joined (chain (turn_of pts n) [] xs) (chain (turn_of pts n) [] (reverse xs))
joined-same pts n A xs flat all =
    sym (ap (λ c. joined c (chain (turn_of pts n) [] (reverse xs))) (same xs all)
    ∙ ap (λ c. joined (chain (turn_about n (place pts)) [] xs) c) (same (reverse xs) back))
  where
    same : (ys : List ℕ) → ((x : ℕ) → In x ys → A x) → chain (turn_of pts n) [] ys ≡ chain (turn_about n (place pts)) [] ys
    same [] in_a = refl
    same (y ∷ ys) in_a = chain-same A (turn_of pts n) (turn_about n (place pts)) (turns_agree pts n A flat) y [] ys
        (λ x. elim [ inl e ↦ in_a x (inl e) | inr i ↦ absurd i ]) (λ x i. in_a x (inr i))

    back : (x : ℕ) → In x (reverse xs) → A x
    back x i = all x (⊎_elim (λ j. j) (λ j. absurd j) (turned_onto-in xs [] x (subst (λ ys. In x ys) (reverse-turned_onto xs) i)))
