-- Rising lists of the ids for which a decided claim holds: distinct ids and extreme ids.
use Rattle.qh_model.proofs.Common.{◌≡◌, ◌≢◌, ℕ, ◌<◌, inl, inr, List, [], ◌∷◌, length, sym, subst, arith, ⊎_elim, range_with_len, IsStrictlyIncreasing, ◌↔◌}
use Rattle.qh_model.proofs.Common.{Combination, IsDistinctId, AreDistinctIds, Others, AreExtremes, place, In, Members, Vector}
use Rattle.qh_model.proofs.{Decisions.Decided, Decisions.contrary, Decisions.each_or_not, Decisions.same_vector, Members.rising_first, Members.rising_tail}
use Rattle.qh_model.proofs.combinations.Alternatives.{all_lower}
use Rattle.qh_model.proofs.extremes.ExtremeIds.{Listed, listed_itself, listed_part, apart, alternative_in}
use Rattle.qh_model.proofs.lists.{Ranges.range_below, Ranges.range_has, Rising.range_rises, Rising.rising_append}

-- the rising list of the members for which P holds
pub record Passing (P : ℕ → Type 0) (xs : List ℕ) : Type 0 where
  pub list : List ℕ
  pub rising : IsStrictlyIncreasing list
  pub members : (i : ℕ) → In i list ↔ In i xs × P i

-- a rising list has this list for a decided claim
pub passing : (P : ℕ → Type 0) → ((i : ℕ) → Decided (P i)) → (xs : List ℕ) → IsStrictlyIncreasing xs → Passing P xs
passing P d [] r = record { list = []; rising = r; members = λ i. (λ m. absurd m, λ h. absurd h.0) }
passing P d (x ∷ xs) r = by_decision (d x) (passing P d xs (rising_tail x xs r))
  where
    alone : IsStrictlyIncreasing (x ∷ [])
    alone k h = absurd (omega arith)

    by_decision : Decided (P x) → Passing P xs → Passing P (x ∷ xs)
    by_decision (inl p) s = record { list = x ∷ s.list; rising = rising_append (x ∷ []) s.list alone s.rising below; members = λ i. (there i, back i) }
      where
        below : (a b : ℕ) → In a (x ∷ []) → In b s.list → a < b
        below a b (inl e) j = subst (λ n. n < b) (sym e) (rising_first x xs r b ((s.members b).0 j).0)
        below a b (inr i) j = absurd i

        there : (i : ℕ) → In i (x ∷ s.list) → In i (x ∷ xs) × P i
        there i (inl e) = (inl e, subst P (sym e) p)
        there i (inr m) = let h = (s.members i).0 m in (inr h.0, h.1)

        back : (i : ℕ) → In i (x ∷ xs) × P i → In i (x ∷ s.list)
        back i (inl e, q) = inl e
        back i (inr m, q) = inr ((s.members i).1 (m, q))
    by_decision (inr n) s = record { list = s.list; rising = s.rising; members = λ i. (there i, back i) }
      where
        there : (i : ℕ) → In i s.list → In i (x ∷ xs) × P i
        there i m = let h = (s.members i).0 m in (inr h.0, h.1)

        back : (i : ℕ) → In i (x ∷ xs) × P i → In i s.list
        back i (inl e, q) = absurd (n (subst P e q))
        back i (inr m, q) = (s.members i).1 (m, q)

-- each list of points has a list of its distinct ids
pub distinct_ids_of : (pts : List Vector) → (ids : List ℕ) × AreDistinctIds pts ids
distinct_ids_of pts = (p.list, record { rising = p.rising; members = λ i. (there i, back i) })
  where
    differ : (i j : ℕ) → Decided (place pts j ≢ place pts i)
    differ i j = contrary (place pts j ≡ place pts i) (same_vector (place pts j) (place pts i))

    p : Passing (λ i. (j : ℕ) → In j (range_with_len 0 i) → place pts j ≢ place pts i) (range_with_len 0 (length pts))
    p = passing (λ i. (j : ℕ) → In j (range_with_len 0 i) → place pts j ≢ place pts i)
        (λ i. each_or_not (λ j. place pts j ≢ place pts i) (differ i) (range_with_len 0 i)) (range_with_len 0 (length pts)) (range_rises (length pts))

    there : (i : ℕ) → In i p.list → IsDistinctId pts i
    there i m = let h = (p.members i).0 m in (range_below (length pts) i h.0, λ j l. h.1 j (range_has i j l))

    back : (i : ℕ) → IsDistinctId pts i → In i p.list
    back i h = (p.members i).1 (range_has (length pts) i h.0, λ j m. h.1 j (range_below i j m))

-- decides whether a point is a convex combination of a listed set
pub combination_or_not : (at : ℕ → Vector) (A : ℕ → Type 0) (xs : List ℕ) → Listed A xs → (p : Vector) → Decided (Combination at A p)
combination_or_not at A xs l p = ⊎_elim (λ m. inl m)
    (λ s. inr (λ m. all_lower at A p s.w m (s.past m.a m.has_a) (s.past m.b m.has_b) (s.past m.c m.has_c) (s.past m.d m.has_d))) (alternative_in at A xs l p)

-- each rising list of ids has a list of its extreme ids
pub extremes_of : (at : ℕ → Vector) (ids : List ℕ) → IsStrictlyIncreasing ids → (es : List ℕ) × AreExtremes at (Members ids) es
extremes_of at ids r = (p.list, record { rising = p.rising; members = λ i. ((p.members i).0, (p.members i).1) })
  where
    decided : (i : ℕ) → Decided (¬ (Combination at (Others (Members ids) i) (at i)))
    decided i =
        let k = listed_part (Members ids) (λ j. j ≢ i) (apart i) ids (listed_itself ids) in
        contrary (Combination at (Others (Members ids) i) (at i)) (combination_or_not at (Others (Members ids) i) k.0 k.1 (at i))

    p : Passing (λ i. ¬ (Combination at (Others (Members ids) i) (at i))) ids
    p = passing (λ i. ¬ (Combination at (Others (Members ids) i) (at i))) decided ids r
