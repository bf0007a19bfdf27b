-- Points that are equal to an earlier one: found key by key, joined from parts of the hashes, and removed.
use Rattle.qh_model.proofs.Common.{◌≡◌, ◌≢◌, ℕ, ◌+◌, ◌-◌, ◌*◌, ◌/◌, ◌%◌, ◌<◌, ◌≤◌, ◌⊎◌, inl, inr, List, [], ◌∷◌, ◌++◌, Bool, true, false, length, get_or, set}
use Rattle.qh_model.proofs.Common.{arith, ap, sym, subst, ◌∙◌, refl, get_or-set_same, get_or-set_other, ⊎_elim, cases_lt, length-set, ℕ_discrete, IsDistinctId}
use Rattle.qh_model.proofs.{Common.AreDistinctIds, Common.place, Common.In, Common.Vector, Common.get_or_past, lists.Joined.in_append, lists.Joined.of_append}
use Rattle.qh_plane.proofs.DistinctLists.{all_distinct, marked_distinct}
use Rattle.qh_plane.proofs.RepeatedPlaces.{none_related, one_related, none_more, all_related}
use Rattle.qh_plane.specs.declared.hashed_keys.TheConstants.{ID_ROOM, NO_HASH}
use Rattle.qh_plane.specs.steps.HashedKeys.{place_hash, hash_at, PartHashes, WithHashes, IsRepeat, RepeatsTold}
use Rattle.qh_plane.specs.steps.{PlaceKeys.AllIds, Repeats.Ids, Repeats.PartsBelow, Repeats.IsRepeatedId, Repeats.AreRepeats, Repeats.AreAllRepeats}
use Rattle.{qh_plane.specs.steps.Repeats.MarksWithout, qh_polygon.specs.contract.Marks.marked_ids}
use Rattle.std.proofs.{Math.Nat.div-lt_iff_lt-mul, Math.Nat.mul-lt-mul_of_pos_right, lemmas.Bool.false≢true}

-- ---- key by key
-- the first key is not a repeat
pub none_told : (pts : List Vector) (keys : List ℕ) → RepeatsTold pts keys 1 []
none_told pts keys = record { tells = λ j l. absurd (omega (arith, l)); listed = none_related (IsRepeat pts) ID_ROOM keys }

module _ (pts : List Vector) (keys : List ℕ) (j : ℕ) (ids : List ℕ) (some : 1 ≤ j) (told : RepeatsTold pts keys j ids) where
  abbrev key : ℕ → ℕ
  key k = get_or keys k 0

  -- a key that repeats the key before is listed
  pub repeat_told : j < length keys → IsRepeat pts (key (j - 1)) (key j) → RepeatsTold pts keys (j + 1) (ids ++ key j % ID_ROOM ∷ [])
  repeat_told within here = record {
    tells = λ i l w e. tells i l w e (ℕ_discrete (i + 2) j);
    listed = one_related (IsRepeat pts) ID_ROOM keys j ids some told.listed within here;
  }
    where
      tells : (i : ℕ) → i + 2 < j + 1 → i + 2 < length keys → key i / ID_ROOM ≡ key (i + 2) / ID_ROOM → Dec (i + 2 ≡ j)
          → IsRepeat pts (key (i + 1)) (key (i + 2))
      tells i l w e (yes q) =
          let before : j - 1 ≡ i + 1 = omega (arith, q) in
          subst (λ m. IsRepeat pts (key (i + 1)) (key m)) (sym q) (subst (λ m. IsRepeat pts (key m) (key j)) before here)
      tells i l w e (no ne) = told.tells i (omega (arith, l, ne)) w e

  -- a key that does not is not listed, if it is not the third of its hash
  pub new_told : (IsRepeat pts (key (j - 1)) (key j) → ⊥) → (2 ≤ j → key (j - 2) / ID_ROOM ≢ key j / ID_ROOM) → RepeatsTold pts keys (j + 1) ids
  new_told new apart = record {
    tells = λ i l w e. tells i l w e (ℕ_discrete (i + 2) j);
    listed = none_more (IsRepeat pts) ID_ROOM keys j ids some told.listed new;
  }
    where
      tells : (i : ℕ) → i + 2 < j + 1 → i + 2 < length keys → key i / ID_ROOM ≡ key (i + 2) / ID_ROOM → Dec (i + 2 ≡ j)
          → IsRepeat pts (key (i + 1)) (key (i + 2))
      tells i l w e (yes q) =
          let third : j - 2 ≡ i = omega (arith, q) in
          absurd (apart (omega (arith, q)) (ap (λ m. key m / ID_ROOM) third ∙ e ∙ ap (λ m. key m / ID_ROOM) q))
      tells i l w e (no ne) = told.tells i (omega (arith, l, ne)) w e

-- in the end all keys are decided
pub told_all : (pts : List Vector) (keys : List ℕ) (n : ℕ) (ids : List ℕ) → length keys ≤ n → RepeatsTold pts keys n ids
    → RepeatsTold pts keys (length keys) ids
told_all pts keys n ids h told = record {
  tells = λ j l w. told.tells j (omega (arith, h, w)) w;
  listed = all_related (IsRepeat pts) ID_ROOM keys n ids h told.listed;
}

-- ---- part by part
-- no parts have no repeats
pub no_repeats : (pts : List Vector) (part : ℕ → Ids) → AreRepeats pts (PartsBelow part 0) []
no_repeats pts part = record { has = λ i s. absurd (omega (arith, s.1)); only = λ i m. absurd m }

-- the repeats of some parts and those of the next one are those of both
pub repeats_joined : (pts : List Vector) (part : ℕ → Ids) (n : ℕ) (xs ys : List ℕ)
    → AreRepeats pts (PartsBelow part n) xs → AreRepeats pts (part n) ys → AreRepeats pts (PartsBelow part (n + 1)) (xs ++ ys)
repeats_joined pts part n xs ys a b = record {
  has = λ i s r. in_append xs ys i (listed i r s.0 s.2 (below_next s.0 n s.1));
  only = λ i m. told i (of_append xs ys i m);
}
  where
    below_next : (q i : ℕ) → q < i + 1 → (q < i) ⊎ (q ≡ i)
    below_next q i h = ⊎_elim (λ l. inl l) (λ g. inr (omega (arith, h, g))) (cases_lt q i)

    listed : (i : ℕ) → IsRepeatedId pts i → (k : ℕ) → part k i → (k < n) ⊎ (k ≡ n) → In i xs ⊎ In i ys
    listed i r k s (inl l) = inl (a.has i (k, l, s) r)
    listed i r k s (inr e) = inr (b.has i (subst (λ v. part v i) e s) r)

    told : (i : ℕ) → In i xs ⊎ In i ys → IsRepeatedId pts i
    told i (inl m) = a.only i m
    told i (inr m) = b.only i m

-- the repeats of more parts include those of fewer
pub repeats_of_fewer : (pts : List Vector) (part : ℕ → Ids) (n k : ℕ) (ids : List ℕ) → n ≤ k → AreRepeats pts (PartsBelow part k) ids
    → AreRepeats pts (PartsBelow part n) ids
repeats_of_fewer pts part n k ids h r = record { has = λ i s. r.has i (s.0, omega (arith, s.1, h), s.2); only = r.only }

-- if each id lies in a part, they are all repeats
pub repeats_of_parts : (pts : List Vector) (part : ℕ → Ids) (n : ℕ) (ids : List ℕ) → ((i : ℕ) → PartsBelow part n i)
    → AreRepeats pts (PartsBelow part n) ids → AreAllRepeats pts ids
repeats_of_parts pts part n ids each r = record { has = λ i s. r.has i (each i); only = r.only }

place_hash_small : (p : Vector) → place_hash p < NO_HASH
unfolding place_hash
place_hash_small p = omega arith

part_small : (h n : ℕ) → h < NO_HASH → 0 < n → h * n / NO_HASH < n
part_small h n l some =
    (div-lt_iff_lt-mul (omega arith)).1 (let below = mul-lt-mul_of_pos_right l some in omega (arith, below))

-- the part of the hashes in which an id lies
pub hash_part : (pts : List Vector) (n : ℕ) → 0 < n → (i : ℕ) → PartsBelow (λ k. WithHashes pts (PartHashes n k)) n i
hash_part pts n some i = (hash_at pts i * n / NO_HASH, part_small (hash_at pts i) n (place_hash_small (place pts i)) some, refl)

-- ---- removed
-- if no point is equal to an earlier one, all ids are distinct
pub none_repeated : (pts : List Vector) (all ids : List ℕ) → AllIds (length pts) all → AreAllRepeats pts ids → ids ≡ [] → AreDistinctIds pts all
none_repeated pts all ids a r none = all_distinct pts all a (λ i j l h e. subst (In j) none (r.has j tt (h, i, l, e)))

-- one more mark is cleared
pub mark_taken : (count : ℕ) (ids : List ℕ) (marks : List Bool) (k : ℕ) → k < count → MarksWithout count ids marks
    → MarksWithout count (ids ++ k ∷ []) (set marks k false)
mark_taken count ids marks k h m = record {
  len = length-set marks k false ∙ m.len;
  has = λ i l n. get_or-set_other marks k i false false (λ e. n (in_append ids (k ∷ []) i (inr (inl e))))
      ∙ m.has i l (λ a. n (in_append ids (k ∷ []) i (inl a)));
  only = λ i e a. by_decision i e (of_append ids (k ∷ []) i a) (ℕ_discrete i k);
}
  where
    here : k < length marks
    here = subst (λ v. k < v) (sym m.len) h

    by_decision : (i : ℕ) → get_or (set marks k false) i false ≡ true → In i ids ⊎ In i (k ∷ []) → Dec (i ≡ k) → ⊥
    by_decision i e a (yes q) = false≢true (sym (ap (λ v. get_or (set marks k false) v false) q ∙ get_or-set_same marks k false false here) ∙ e)
    by_decision i e (inl a) (no ne) = m.only i (sym (get_or-set_other marks k i false false ne) ∙ e) a
    by_decision i e (inr (inl q)) (no ne) = ne q
    by_decision i e (inr (inr a)) (no ne) = a

-- the remaining marks are those of the distinct ids
pub distinct_left : (pts : List Vector) (ids : List ℕ) (marks : List Bool) → AreAllRepeats pts ids → MarksWithout (length pts) ids marks
    → AreDistinctIds pts (marked_ids 0 marks)
distinct_left pts ids marks r m = marked_distinct pts marks (λ i. (only i, has i))
  where
    within : (i : ℕ) → get_or marks i false ≡ true → (i < length marks) ⊎ (length marks ≤ i) → i < length pts
    within i e (inl l) = subst (λ v. i < v) m.len l
    within i e (inr g) = absurd (false≢true (sym (get_or_past marks i false g) ∙ e))

    only : (i : ℕ) → get_or marks i false ≡ true → IsDistinctId pts i
    only i e = let lt = within i e (cases_lt i (length marks)) in (lt, λ j l q. m.only i e (r.has i tt (lt, j, l, q)))

    has : (i : ℕ) → IsDistinctId pts i → get_or marks i false ≡ true
    has i f = m.has i f.0 (λ a. let q = r.only i a in f.1 q.1 q.2 q.3)
