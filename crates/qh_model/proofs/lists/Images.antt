-- The image of a list: its members, also if each occurs once, and its growth.
use Rattle.qh_model.proofs.Common.{◌≡◌, ℕ, ◌+◌, ◌<◌, List, [], ◌∷◌, ◌++◌, length, get_or, map, take, ap, sym, ◌∙◌, refl, subst, inl, inr, take_more, map-append}
use Rattle.qh_model.proofs.Common.{In, Once}

-- the image of a member is a member of the image
pub in_map : {X Y : Type 0} (f : X → Y) (xs : List X) (x : X) → In x xs → In (f x) (map f xs)
in_map f [] x m = absurd m
in_map f (y ∷ xs) x (inl e) = inl (ap f e)
in_map f (y ∷ xs) x (inr m) = inr (in_map f xs x m)

-- a member of an image is the image of a member
pub of_map : {X Y : Type 0} (f : X → Y) (xs : List X) (y : Y) → In y (map f xs) → (x : X) × In x xs × (y ≡ f x)
of_map f [] y m = absurd m
of_map f (x ∷ xs) y (inl e) = (x, inl refl, e)
of_map f (x ∷ xs) y (inr m) = let r = of_map f xs y m in (r.0, inr r.1, r.2)

-- one more element of an image
pub map-more : (f : ℕ → ℕ) (xs : List ℕ) (i d v : ℕ) (ks : List ℕ) → i < length xs → ks ≡ map f (take i xs)
    → v ≡ f (get_or xs i d) → ks ++ v ∷ [] ≡ map f (take (i + 1) xs)
map-more f xs i d v ks h e k = ap (λ t. t ++ v ∷ []) e ∙ ap (λ t. map f (take i xs) ++ t ∷ []) k
    ∙ sym (map-append f (take i xs) (get_or xs i d ∷ [])) ∙ ap (map f) (sym (take_more xs i d h))

-- the image of a list with each member once under a function with different values at its members has each member once
pub once_map : {X Y : Type 0} (f : X → Y) (xs : List X) → ((x y : X) → In x xs → In y xs → f x ≡ f y → x ≡ y) → Once xs → Once (map f xs)
once_map f [] apart o = tt
once_map f (x ∷ xs) apart o = (
  (λ m. let r = of_map f xs (f x) m in o.0 (subst (λ y. In y xs) (sym (apart x r.0 (inl refl) (inr r.1) r.2)) r.1)),
  once_map f xs (λ y z i j. apart y z (inr i) (inr j)) o.1,
)
