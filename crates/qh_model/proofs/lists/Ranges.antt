-- The positions of a list: their numbers, the list as their image, and a bound for distinct numbers.
use Rattle.qh_model.proofs.Common.{◌≡◌, ◌≢◌, ◌≤◌, ℕ, zero, suc, ◌+◌, ◌<◌, refl, arith, sym, subst, ◌∙◌, zero-add, inl, inr, List, length, map, slice_index}
use Rattle.qh_model.proofs.Common.{cases_order, get_or-range_with_len, length-range_with_len, range_with_len, In, Once}
use Rattle.std.proofs.lemmas.List.FromFn.{fill_by_all, length-map-range_with_len}
use Rattle.qh_model.proofs.{Members.In-get_or, Members.rising_once, lists.Images.of_map, lists.Images.once_map, lists.OnceEach.once_within}

-- a member of a range is below its end
range_end : (a n l : ℕ) → In l (range_with_len a n) → l < a + n
range_end a zero l m = absurd m
range_end a (suc n) l (inl e) = omega arith
range_end a (suc n) l (inr m) = let h = range_end (a + 1) n l m in omega arith

-- a member of the first n numbers is below n
pub range_below : (n l : ℕ) → In l (range_with_len 0 n) → l < n
range_below n l m = let h = range_end 0 n l m in omega arith

-- the image of all positions, under any function that returns the element at a position, is the list
pub range_named : (name : ℕ → ℕ) (xs : List ℕ) → ((l : ℕ) → l < length xs → name l ≡ slice_index xs l) → map name (range_with_len 0 (length xs)) ≡ xs
range_named name xs same = sym (fill_by_all name xs (length xs) 0 refl (λ k h. sym (same k h)))

-- each number below n is a member of the first n
pub range_has : (n l : ℕ) → l < n → In l (range_with_len 0 n)
range_has n l h = subst (λ (k : ℕ). In k (range_with_len 0 n)) (get_or-range_with_len 0 n l 0 h ∙ zero-add l)
    (In-get_or (range_with_len 0 n) l 0 (let e = length-range_with_len 0 n in omega (arith, e, h)))

-- each number below n occurs once in the first n
pub range_once : (n : ℕ) → Once (range_with_len 0 n)
range_once = grind (arith, rising_once, length-range_with_len, get_or-range_with_len)

-- there are at most N distinct numbers below N
pub pigeon : (N k : ℕ) (f : ℕ → ℕ) → ((i : ℕ) → i < k → f i < N) → ((i j : ℕ) → i < j → j < k → f i ≢ f j) → k ≤ N
pigeon N k f below apart =
    let w = once_within (map f (range_with_len 0 k)) (range_with_len 0 N) (once_map f (range_with_len 0 k) same (range_once k)) within in
    omega (arith, length-map-range_with_len f 0 k, length-range_with_len 0 N)
  where
    same : (i j : ℕ) → In i (range_with_len 0 k) → In j (range_with_len 0 k) → f i ≡ f j → i ≡ j
    same i j p q e = elim (cases_order i j) [
      | inl h ↦ h
      | inr (inl h) ↦ absurd (apart i j h (range_below k j q) e)
      | inr (inr h) ↦ absurd (apart j i h (range_below k i p) (sym e))
    ]

    within : (z : ℕ) → In z (map f (range_with_len 0 k)) → In z (range_with_len 0 N)
    within z i = let r = of_map f (range_with_len 0 k) z i in
        range_has N z (subst (λ y. y < N) (sym r.2) (below r.0 (range_below k r.0 r.1)))
