-- Two lists, one after the other: their members, and the condition that each occurs once.
use Rattle.qh_model.proofs.Common.{List, [], ◌∷◌, ◌++◌, ◌≡◌, ◌⊎◌, append_assoc, inl, inr, refl, subst, ⊎_elim, flat_map, In, Once, arith}

-- a member of either list is a member of both joined
pub in_append : {X : Type 0} (xs ys : List X) (x : X) → In x xs ⊎ In x ys → In x (xs ++ ys)
in_append [] ys x (inl h) = absurd h
in_append [] ys x (inr h) = h
in_append (y ∷ xs) ys x (inl (inl e)) = inl e
in_append (y ∷ xs) ys x (inl (inr h)) = inr (in_append xs ys x (inl h))
in_append (y ∷ xs) ys x (inr h) = inr (in_append xs ys x (inr h))

-- the converse
pub of_append : {X : Type 0} (xs ys : List X) (x : X) → In x (xs ++ ys) → In x xs ⊎ In x ys
of_append [] ys x h = inr h
of_append (y ∷ xs) ys x (inl e) = inl (inl e)
of_append {X} (y ∷ xs) ys x (inr h) = ⊎_elim (λ k. inl (inr k)) (λ k. inr k) (of_append xs ys x h)

-- lists with each member once and no member in common, joined, have each member once
pub once_append : {X : Type 0} (xs ys : List X) → Once xs → Once ys → ((x : X) → In x xs → In x ys → ⊥) → Once (xs ++ ys)
once_append [] ys o p n = p
once_append {X} (x ∷ xs) ys o p n = (λ i. ⊎_elim (λ i. o.0 i) (λ i. n x (inl refl) i) (of_append xs ys x i), once_append xs ys o.1 p (λ y i j. n y (inr i) j))

-- a member of the list of a member is a member of all these lists joined
pub in_flat_map : {X Y : Type 0} (f : X → List Y) (xs : List X) (x : X) (y : Y) → In x xs → In y (f x) → In y (flat_map f xs)
in_flat_map f [] x y m h = absurd m
in_flat_map f (z ∷ xs) x y (inl e) h = in_append (f z) (flat_map f xs) y (inl (subst (λ t. In y (f t)) e h))
in_flat_map f (z ∷ xs) x y (inr m) h = in_append (f z) (flat_map f xs) y (inr (in_flat_map f xs x y m h))

-- the converse
pub of_flat_map : {X Y : Type 0} (f : X → List Y) (xs : List X) (y : Y) → In y (flat_map f xs) → (x : X) × In x xs × In y (f x)
of_flat_map f [] y m = absurd m
of_flat_map f (z ∷ xs) y m =
    ⊎_elim (λ h. (z, inl refl, h)) (λ h. let r = of_flat_map f xs y h in (r.0, inr r.1, r.2)) (of_append (f z) (flat_map f xs) y m)

-- a loop over a list that appends the list of each member: after that of the first is appended, those of the rest remain
pub join_next : {X Y : Type 0} (f : X → List Y) (old new all : List Y) (x : X) (xs rest : List X) → xs ≡ x ∷ rest
    → new ≡ old ++ f x → old ++ flat_map f xs ≡ all → new ++ flat_map f rest ≡ all
join_next = grind (arith, append_assoc)

-- a beginning of a list with each member once has each member once
pub once_left : {X : Type 0} (xs ys : List X) → Once (xs ++ ys) → Once xs
once_left [] ys o = tt
once_left (x ∷ xs) ys o = ((λ i. o.0 (in_append xs ys x (inl i))), once_left xs ys o.1)
