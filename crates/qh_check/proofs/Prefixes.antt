-- Members of the first elements of a list, with one more element.
use Rattle.qh_model.proofs.Common.{◌≡◌, ℕ, ◌+◌, ◌<◌, ◌⊎◌, List, [], ◌∷◌, get_or, length, take, refl, sym, subst, ◌∙◌, inl, inr, take_more, In}
use Rattle.qh_model.proofs.lists.Joined.{in_append, of_append}

-- a member is one of the previous elements, or the last
pub of_more : {X : Type 0} (xs : List X) (i : ℕ) (d x : X) → i < length xs → In x (take (i + 1) xs) → In x (take i xs) ⊎ (x ≡ get_or xs i d)
of_more {X} xs i d x l m = last (of_append (take i xs) (get_or xs i d ∷ []) x (subst (λ ys. In x ys) (take_more xs i d l) m))
  where
    last : In x (take i xs) ⊎ In x (get_or xs i d ∷ []) → In x (take i xs) ⊎ (x ≡ get_or xs i d)
    last (inl h) = inl h
    last (inr (inl e)) = inr e
    last (inr (inr h)) = absurd h

-- a member of the previous elements stays a member
pub in_more : {X : Type 0} (xs : List X) (i : ℕ) (d x : X) → i < length xs → In x (take i xs) → In x (take (i + 1) xs)
in_more xs i d x l m = subst (λ ys. In x ys) (sym (take_more xs i d l)) (in_append (take i xs) (get_or xs i d ∷ []) x (inl m))

-- the last element is a member
pub last_more : {X : Type 0} (xs : List X) (i : ℕ) (d : X) → i < length xs → In (get_or xs i d) (take (i + 1) xs)
last_more xs i d l =
    subst (λ ys. In (get_or xs i d) ys) (sym (take_more xs i d l)) (in_append (take i xs) (get_or xs i d ∷ []) (get_or xs i d) (inr (inl refl)))

-- a fact about the previous elements and about the last holds for all
pub each_more : {X : Type 0} (P : X → Type 0) (xs : List X) (i : ℕ) (own d : X) → i < length xs → own ≡ get_or xs i d
    → ((x : X) → In x (take i xs) → P x) → P own → (x : X) → In x (take (i + 1) xs) → P x
each_more {X} P xs i own d l is f p x m = held (of_more xs i d x l m)
  where
    held : In x (take i xs) ⊎ (x ≡ get_or xs i d) → P x
    held (inl h) = f x h
    held (inr e) = subst P (sym (e ∙ sym is)) p
