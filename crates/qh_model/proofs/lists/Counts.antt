-- The number of members of a list that pass: for its images, for members with twins, and before a position of the list.
use Rattle.qh_model.proofs.Common.{◌≡◌, ℕ, zero, suc, ◌+◌, ◌<◌, ◌≤◌, inl, inr, arith, ap, sym, ◌∙◌, refl, subst, add-one, Bool, true, cond, List, [], ◌∷◌}
use Rattle.qh_model.proofs.Common.{length, get_or, map, take, cases_Bool, cases_lt, cases_order, get_or-take, length-take-le, length-map, sum_by-cons, count_by}
use Rattle.qh_model.proofs.Common.{filter, In, Once}
use Rattle.std.proofs.lemmas.List.{take-take, Sums.sum_by_more_le, Sums.count_by_more_yes, Sums.count_by_more_no, Sums.length-filter}
use Rattle.qh_model.proofs.lists.{Filters.in_filter, Filters.of_filter, Filters.once_filter, Images.of_map, Images.once_map, OnceEach.once_within}

-- an image has the count of its list
pub count-map : {X Y : Type 0} (f : X → Y) (p : Y → Bool) (xs : List X) → count_by p (map f xs) ≡ count_by (λ x. p (f x)) xs
count-map f p [] = refl
count-map f p (x ∷ xs) =
    sum_by-cons (λ y. cond (p y) 1 0) (f x) (map f xs) ∙ ap (λ n. cond (p (f x)) 1 0 + n) (count-map f p xs)
    ∙ sym (sum_by-cons (λ y. cond (p (f y)) 1 0) x xs)

-- if each member that passes p has a twin that passes q, no more members pass p than q
pub count_twins : {X : Type 0} (twin : X → X) (p q : X → Bool) (xs : List X) → Once xs
    → ((x : X) → In x xs → p x ≡ true → In (twin x) xs × (q (twin x) ≡ true) × (twin (twin x) ≡ x)) → count_by p xs ≤ count_by q xs
count_twins {X} twin p q xs o h =
    let t = λ (x : X) (i : In x (filter p xs)). let k = of_filter p xs x i in h x k.0 k.1 in
    let images = once_map twin (filter p xs) (λ x y i j e. sym (t x i).2 ∙ ap twin e ∙ (t y j).2) (once_filter p xs o) in
    let within = once_within (map twin (filter p xs)) (filter q xs) images (λ y i. let r = of_map twin (filter p xs) y i in
    subst (λ z. In z (filter q xs)) (sym r.2) (in_filter q xs (twin r.0) (t r.0 r.1).0 (t r.0 r.1).1)) in
    omega (arith, length-filter p xs, length-filter q xs, length-map (filter p xs) twin)

module _ {X : Type 0} (p : X → Bool) (d : X) where
  -- a member that passes adds one to the count
  pub counted : (xs : List X) (i : ℕ) → i < length xs → p (get_or xs i d) ≡ true → count_by p (take i xs) < count_by p xs
  counted xs i l e = let h = rw e at (sum_by_more_le (λ x. cond (p x) 1 0) xs i d l) in omega (arith, h)

  -- the same among the first n
  counted-first : (xs : List X) (i n : ℕ) → i < n → n ≤ length xs → p (get_or xs i d) ≡ true → count_by p (take i xs) < count_by p (take n xs)
  counted-first xs i n l m e = subst (λ ys. count_by p ys < count_by p (take n xs)) (take-take i n xs (omega arith))
      (counted (take n xs) i (let q = length-take-le n xs m in omega arith) (ap p (get_or-take n xs i d l) ∙ e))

  -- so the number of members that pass before it determines it
  pub counted_apart : (xs : List X) (i j : ℕ) → i < length xs → j < length xs → p (get_or xs i d) ≡ true → p (get_or xs j d) ≡ true
      → count_by p (take i xs) ≡ count_by p (take j xs) → i ≡ j
  counted_apart = grind (arith, cases_order, counted-first)

  -- each number below the count of the first n is the count before some member that passes
  pub counted_at : (xs : List X) (r n : ℕ) → n ≤ length xs → r < count_by p (take n xs)
      → (i : ℕ) × (i < length xs) × (p (get_or xs i d) ≡ true) × (count_by p (take i xs) ≡ r)
  counted_at xs r zero l h = absurd (omega arith)
  counted_at xs r (suc n) l h = let k = rw (← add-one n) at h in elim (cases_lt r (count_by p (take n xs))) [
    | inl g ↦ counted_at xs r n (omega arith) g
    | inr g ↦ elim (cases_Bool (p (get_or xs n d))) [
      | inl t ↦ (let e = count_by_more_yes p xs n d (omega arith) t in (n, omega arith, t, omega arith))
      | inr f ↦ (let e = count_by_more_no p xs n d (omega arith) f in absurd (omega arith))
    ]
  ]
