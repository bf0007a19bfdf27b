-- Sums of whole numbers over a list, determined by the number of times that each element occurs.
use Rattle.qh_model.proofs.Common.{Bool, List, [], ap, arith, cases_Bool, cond, count_by, false, filter, inl, inr, pos, refl, sum_by-cons, sym, true, ℕ, ℤ}
use Rattle.qh_model.proofs.{Common.◌+ℤ◌, Common.◌+◌, Common.◌<◌, Common.◌∙◌, Common.◌∷◌, Common.◌≡◌, algebra.Integers.add_swap}

-- the sum of f over a list
abbrev pub sum_z : {X : Type 0} → (X → ℤ) → List X → ℤ
sum_z f [] = pos 0
sum_z f (x ∷ xs) = f x +ℤ sum_z f xs

-- the number of elements that pass p
abbrev pub count : {X : Type 0} → (X → Bool) → List X → ℕ
count p [] = 0
count p (x ∷ xs) = cond (p x) 1 0 + count p xs

-- the list without the first element that passes
abbrev pub drop_first : {X : Type 0} → (X → Bool) → List X → List X
drop_first p [] = []
drop_first p (x ∷ xs) = cond (p x) xs (x ∷ drop_first p xs)

-- a test of equality
pub record Tests {X : Type 0} (eq : X → X → Bool) : Type 0 where
  pub same : (x y : X) → eq x y ≡ true → x ≡ y
  pub itself : (x : X) → eq x x ≡ true

-- a function of lists to which each element adds, in any order, with one element removed
pub taken_out : {X S : Type 0} (eq : X → X → Bool) → Tests eq → (op : X → S → S) → ((x y : X) (s : S) → op x (op y s) ≡ op y (op x s))
    → (v : List X → S) → ((x : X) (xs : List X) → v (x ∷ xs) ≡ op x (v xs))
    → (x : X) (ys : List X) → 0 < count (eq x) ys → v ys ≡ op x (v (drop_first (eq x) ys))
taken_out eq t op swap v more x [] h = absurd (omega arith)
taken_out eq t op swap v more x (y ∷ ys) h = elim (cases_Bool (eq x y)) [
  | inl e ↦ rw e (more y ys ∙ ap (λ z. op z (v ys)) (sym (t.same x y e)))
  | inr e ↦ (let k = rw e at h in rw e (
      more y ys ∙ ap (op y) (taken_out eq t op swap v more x ys (omega (arith, k)))
      ∙ swap y x (v (drop_first (eq x) ys)) ∙ ap (op x) (sym (more y (drop_first (eq x) ys)))
      ))
]

-- the first element of a list is in it
pub one_there : {X : Type 0} (eq : X → X → Bool) → Tests eq → (x : X) (n : ℕ) → 0 < cond (eq x x) 1 0 + n
one_there eq t x n = rw (t.itself x) (omega arith)

-- lists with the same counts have the same sum
pub sum_z-same_counts : {X : Type 0} (eq : X → X → Bool) → Tests eq → (f : X → ℤ) (xs ys : List X)
    → ((z : X) → count (eq z) xs ≡ count (eq z) ys) → sum_z f xs ≡ sum_z f ys
sum_z-same_counts eq t f [] [] h = refl
sum_z-same_counts eq t f [] (y ∷ ys) h = let p = one_there eq t y (count (eq y) ys) in let e = h y in absurd (omega arith)
sum_z-same_counts eq t f (x ∷ xs) ys h =
    let there : 0 < count (eq x) ys = (let p = one_there eq t x (count (eq x) xs) in let e = h x in omega arith) in
    let ih = sum_z-same_counts eq t f xs (drop_first (eq x) ys)
    (λ z. omega (arith, h z ∙ taken_out eq t (λ y n. cond (eq z y) 1 0 + n) (λ a b n. omega arith) (count (eq z)) (λ y ys. refl) x ys there)) in
    rw ih (sym (taken_out eq t (λ y s. f y +ℤ s) (λ a b s. add_swap (f a) (f b) s) (sum_z f) (λ y ys. refl) x ys there))

-- the count of the definitions is that of std
pub count-is : {X : Type 0} (p : X → Bool) (xs : List X) → count p xs ≡ count_by p xs
count-is p [] = refl
count-is p (x ∷ xs) = rw (count-is p xs) (sym (sum_by-cons (λ y. cond (p y) 1 0) x xs))

-- a filter keeps the count if all counted elements pass
pub count_kept : {X : Type 0} (f p : X → Bool) → ((k : X) → f k ≡ true → p k ≡ true) → (ks : List X) → count f (filter p ks) ≡ count f ks
count_kept f p h [] = refl
count_kept f p h (k ∷ ks) = elim (cases_Bool (p k)) [
  | inl t ↦ rw t (ap (λ n. cond (f k) 1 0 + n) (count_kept f p h ks))
  | inr t ↦ rw t (count_kept f p h ks ∙ skip (f k) refl t)
]
  where
    skip : (b : Bool) → f k ≡ b → p k ≡ false → count f ks ≡ cond b 1 0 + count f ks
    skip true e t = let q = h k e in cc
    skip false e t = omega arith
