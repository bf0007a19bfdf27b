-- The members that a filter keeps, and a filter of an image.
use Rattle.qh_model.proofs.Common.{◌≡◌, ap, sym, ◌∙◌, refl, Bool, true, false, cond, inl, inr, List, [], ◌∷◌, map, filter, cases_Bool, In, Once}

module _ {X : Type 0} (p : X → Bool) where
  -- a member that passes is kept
  pub in_filter : (xs : List X) (x : X) → In x xs → p x ≡ true → In x (filter p xs)
  in_filter [] x i e = i
  in_filter (y ∷ xs) x (inl q) e = rw (ap p (sym q) ∙ e) (inl q)
  in_filter (y ∷ xs) x (inr i) e =
      elim (p y) as (λ b. In x (cond b (y ∷ filter p xs) (filter p xs))) [ true ↦ inr (in_filter xs x i e) | false ↦ in_filter xs x i e ]

  -- a kept member passes
  pub of_filter : (xs : List X) (x : X) → In x (filter p xs) → In x xs × (p x ≡ true)
  of_filter [] x i = absurd i
  of_filter (y ∷ xs) x i = elim (cases_Bool (p y)) [
    | inl e ↦ elim (rw e at i) [ inl q ↦ (inl q, ap p q ∙ e) | inr j ↦ (inr (of_filter xs x j).0, (of_filter xs x j).1) ]
    | inr e ↦ (let j = rw e at i in (inr (of_filter xs x j).0, (of_filter xs x j).1))
  ]

  -- the filter of a list with each member once has each member once
  pub once_filter : (xs : List X) → Once xs → Once (filter p xs)
  once_filter [] o = tt
  once_filter (y ∷ xs) o = elim (p y) as (λ b. Once (cond b (y ∷ filter p xs) (filter p xs))) [
    | true ↦ ((λ i. o.0 (of_filter xs y i).0), once_filter xs o.1)
    | false ↦ once_filter xs o.1
  ]

-- a filter of an image is the image of a filter, if each member passes exactly if its image does
pub filter_image : {X Y : Type 0} (p : Y → Bool) (q : X → Bool) (f g : X → Y) (xs : List X)
    → ((x : X) → In x xs → (f x ≡ g x) × (p (f x) ≡ q x)) → filter p (map f xs) ≡ map g (filter q xs)
filter_image p q f g [] h = refl
filter_image p q f g (x ∷ xs) h =
    let k = h x (inl refl) in let r = filter_image p q f g xs (λ y i. h y (inr i)) in
    elim (cases_Bool (q x)) [ inl t ↦ rw (k.1, t) (λ i. k.0 i ∷ r i) | inr t ↦ rw (k.1, t) r ]
