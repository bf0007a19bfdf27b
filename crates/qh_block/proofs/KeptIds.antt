-- The ids of a set that remain without those whose points a region holds.
use Rattle.qh_model.proofs.Common.{ℕ, ◌+◌, ◌<◌, ⊎_elim, inl, inr, List, [], ◌∷◌, ◌++◌, arith, length, subst, get_or-append_right, common_steps}
use Rattle.qh_model.proofs.Common.{get_or_append_left, IsStrictlyIncreasing, Vector, place, In, Members, Extreme}
use Rattle.qh_model.proofs.{Members.in_at, Members.rising_tail, Members.rising_first, lists.Joined.in_append, lists.Joined.of_append}
use Rattle.qh_model.proofs.lists.Rising.{rising_append, rising_back, rising_between, rising_front}
use Rattle.qh_block.specs.contract.KeptIds.{HasNoExtreme, IsKept, KeepsExtremes}

-- a member of a list without one of its numbers is a member of the list
wider : (xs : List ℕ) (x : ℕ) (ys : List ℕ) (y : ℕ) → In y (xs ++ ys) → In y (xs ++ x ∷ ys)
wider xs x ys y i = in_append xs (x ∷ ys) y (⊎_elim (λ k. inl k) (λ k. inr (inr k)) (of_append xs ys y i))

-- a rising list without one of its numbers rises
rising_without : (xs : List ℕ) (x : ℕ) (ys : List ℕ) → IsStrictlyIncreasing (xs ++ x ∷ ys) → IsStrictlyIncreasing (xs ++ ys)
rising_without [] x ys h = rising_tail x ys h
rising_without (z ∷ xs) x ys h =
    rising_append (z ∷ []) (xs ++ ys) (λ k l. absurd (omega (arith, l))) (rising_without xs x ys (rising_tail z (xs ++ x ∷ ys) h))
    (λ u y m i. let above = rising_first z (xs ++ x ∷ ys) h y (wider xs x ys y i) in grind (arith, m, above))

-- the back of a rising list is above the front
rising_across : (xs ys : List ℕ) → IsStrictlyIncreasing (xs ++ ys) → (x y : ℕ) → In x xs → In y ys → x < y
rising_across xs ys h x y m n =
    let a = in_at xs x m in let b = in_at ys y n in let p = a.1 in let q = b.1 in
    let step = rising_between (xs ++ ys) a.0 (length xs + b.0) h (grind (arith, p, q)) (grind (arith, common_steps, p, q)) in
    grind (arith, step, get_or_append_left xs ys 0 a.0, get_or-append_right xs ys (length xs + b.0) 0, a.2, b.2, p, q)

-- the ids kept together with the ids that were not tested are also kept if an id that is not extreme is removed
pub inner_goes : (pts : List Vector) (all ids kept rest : List ℕ) (x : ℕ) → ¬ (Extreme (place pts) (Members all) x)
    → IsKept pts all ids (kept ++ x ∷ rest) → IsKept pts all ids (kept ++ rest)
inner_goes pts all ids kept rest x inner h = record {
  rising = λ r. rising_without kept x rest (h.rising r);
  within = λ i m. h.within i (wider kept x rest i m);
  extremes = λ i m e. in_append kept rest i (⊎_elim (λ k. inl k)
      (λ k. ⊎_elim (λ q. absurd (inner (subst (Extreme (place pts) (Members all)) q e))) (λ n. inr n) k) (of_append kept (x ∷ rest) i (h.extremes i m e)));
}

-- all ids are kept if no id was tested
pub all_kept : (pts : List Vector) (held : Vector → Type 0) (ids : List ℕ) → KeepsExtremes pts held ids ids
all_kept pts held ids = record { each = λ all sub none. record { rising = λ r. r; within = λ i m. m; extremes = λ i m e. m } }

-- an id of the set whose point is held is removed
pub held_goes : (pts : List Vector) (held : Vector → Type 0) (ids kept rest : List ℕ) (x : ℕ) → In x ids → held (place pts x)
    → KeepsExtremes pts held ids (kept ++ x ∷ rest) → KeepsExtremes pts held ids (kept ++ rest)
held_goes pts held ids kept rest x member is_held h = record {
  each = λ all sub none. inner_goes pts all ids kept rest x (none x (sub x member) is_held) (h.each all sub none);
}

-- the ids kept of two parts are kept of both together
pub both_kept : (pts : List Vector) (held : Vector → Type 0) (front back one two : List ℕ) → KeepsExtremes pts held front one
    → KeepsExtremes pts held back two → KeepsExtremes pts held (front ++ back) (one ++ two)
both_kept pts held front back one two a b = record { each = each }
  where
    each : (all : List ℕ) → ((i : ℕ) → In i (front ++ back) → In i all) → HasNoExtreme pts all held
        → IsKept pts all (front ++ back) (one ++ two)
    each all sub none =
        let p = a.each all (λ i m. sub i (in_append front back i (inl m))) none in
        let q = b.each all (λ i m. sub i (in_append front back i (inr m))) none in
        record {
          rising = λ r. rising_append one two (p.rising (rising_front front back r)) (q.rising (rising_back front back r))
              (λ x y m n. rising_across front back r x y (p.within x m) (q.within y n));
          within = λ i m. in_append front back i (⊎_elim (λ k. inl (p.within i k)) (λ k. inr (q.within i k)) (of_append one two i m));
          extremes = λ i m e. in_append one two i (⊎_elim (λ k. inl (p.extremes i k e)) (λ k. inr (q.extremes i k e)) (of_append front back i m));
        }
