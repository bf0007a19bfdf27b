-- Lists with each member once: their members determine their length, and a member determines its position.
use Rattle.qh_model.proofs.Common.{In, List, Once, [], ap, arith, get_or, inl, inr, length, refl, subst, suc, sym, zero, ℕ, ⊎_elim, ◌+◌, ◌<◌, ◌↔◌, ◌∙◌, ◌∷◌}
use Rattle.qh_model.proofs.{Common.◌≡◌, Common.◌≤◌, Common.◌⊎◌, Members.In-get_or}

-- the list without the member at this position
without : {X : Type 0} (x : X) (xs : List X) → In x xs → List X
without x [] i = []
without x (y ∷ ys) (inl e) = ys
without x (y ∷ ys) (inr i) = y ∷ without x ys i

-- this list is shorter by one
without-length : {X : Type 0} (x : X) (xs : List X) (i : In x xs) → length xs ≡ length (without x xs i) + 1
unfolding without
without-length x [] i = absurd i
without-length x (y ∷ ys) (inl e) = omega arith
without-length x (y ∷ ys) (inr i) = let h = without-length x ys i in omega arith

-- every other member stays in this list
without-others : {X : Type 0} (x : X) (xs : List X) (i : In x xs) (y : X) → In y xs → (y ≡ x) ⊎ In y (without x xs i)
unfolding without
without-others x [] i y j = absurd i
without-others x (z ∷ xs) (inl e) y (inl d) = inl (d ∙ sym e)
without-others x (z ∷ xs) (inl e) y (inr j) = inr j
without-others x (z ∷ xs) (inr i) y (inl d) = inr (inl d)
without-others {X} x (z ∷ xs) (inr i) y (inr j) = ⊎_elim (λ e. inl e) (λ k. inr (inr k)) (without-others x xs i y j)

-- a list with each member once is no longer than a list that has its members
pub once_within : {X : Type 0} (xs ys : List X) → Once xs → ((z : X) → In z xs → In z ys) → length xs ≤ length ys
once_within [] ys o h = omega arith
once_within {X} (x ∷ xs) ys o h =
    let e = without-length x ys there in
    let r = once_within xs (without x ys there) o.1 (λ z i. other z i (without-others x ys there z (h z (inr i)))) in omega arith
  where
    there : In x ys
    there = h x (inl refl)

    other : (z : X) → In z xs → (z ≡ x) ⊎ In z (without x ys there) → In z (without x ys there)
    other z i (inl e) = absurd (o.0 (subst (λ t. In t xs) e i))
    other z i (inr j) = j

-- lists with the same members, each once, have the same length
pub once_length : {X : Type 0} (xs ys : List X) → Once xs → Once ys → ((z : X) → In z xs ↔ In z ys) → length xs ≡ length ys
once_length = grind (arith, once_within)

-- a member that occurs once has one position
pub once_place : {X : Type 0} (d : X) (xs : List X) → Once xs → (i j : ℕ) → i < length xs → j < length xs → get_or xs i d ≡ get_or xs j d → i ≡ j
once_place d [] o i j l m e = absurd (omega arith)
once_place d (x ∷ xs) o zero zero l m e = refl
once_place d (x ∷ xs) o zero (suc j) l m e = absurd (o.0 (subst (λ y. In y xs) (sym e) (In-get_or xs j d (omega arith))))
once_place d (x ∷ xs) o (suc i) zero l m e = absurd (o.0 (subst (λ y. In y xs) e (In-get_or xs i d (omega arith))))
once_place d (x ∷ xs) o (suc i) (suc j) l m e = ap suc (once_place d xs o.1 i j (omega arith) (omega arith) e)
