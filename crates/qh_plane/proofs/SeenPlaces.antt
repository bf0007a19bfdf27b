-- Points that are entered into slots, one after the other: the contents of the slots, and the distinct ids.
use Rattle.qh_model.proofs.Common.{◌≡◌, ◌≢◌, ◌∙◌, ℕ, zero, suc, ◌+◌, ◌<◌, ◌≤◌, ◌⊎◌, inl, inr, List, [], ◌∷◌, ◌++◌, length, set, slice_index_or, arith}
use Rattle.qh_model.proofs.Common.{ap, sym, subst, get_or-set_same, get_or-set_other, get_or_read, length-set, IsStrictlyIncreasing, ℕ_discrete, IsDistinctId}
use Rattle.qh_model.proofs.{Common.AreDistinctIds, Common.place, Common.In, Common.Vector, Common.origin, lists.Joined.in_append, lists.Joined.of_append}
use Rattle.qh_model.{proofs.lists.Rising.rising_append, specs.declared.limits.TheConstants.POINT_LIMIT}
use Rattle.qh_plane.specs.declared.{close_points.CloseBox.CloseBox, first_ids.TheConstants.NO_ID}
use Rattle.qh_plane.specs.steps.{CloseBoxes.slot_of, FirstIds.slot_at, FirstIds.HasFirst, FirstIds.HaveFirsts, Repeats.IsRepeatedId}

-- a point that was read is that of its id
pub point_read : (pts : List Vector) (k : ℕ) (p : Vector) → k < length pts → p ≡ slice_index_or pts k p → p ≡ place pts k
unfolding place
point_read pts k p l e = get_or_read pts k p l e origin

-- an id of the points is not the content of an empty slot
id_is_none : (k n : ℕ) → k < n → n ≤ POINT_LIMIT → k ≢ NO_ID
id_is_none k n l h e = omega (arith, l, h, e)

module _ (pts : List Vector) (b : CloseBox) (slots : List ℕ) (k : ℕ) (ids : List ℕ) (old : HaveFirsts pts b slots k ids) where
  -- an id that is read from a slot was processed
  pub seen_id : (s n : ℕ) → s < length slots → n ≡ slice_index_or slots s n → n ≢ NO_ID → n < k
  seen_id s n room e ne = below (old.held s room)
    where
      read : n ≡ slot_at slots s
      read = get_or_read slots s n room e NO_ID

      below : (slot_at slots s ≡ NO_ID) ⊎ (slot_at slots s < k) → n < k
      below (inl q) = absurd (ne (read ∙ q))
      below (inr l) = subst (λ m. m < k) (sym read) l

  module _ (within : k < length pts) (few : length pts ≤ POINT_LIMIT) where
    -- a point processed earlier has the same equal point
    more_seen : (p : Vector) → HasFirst pts b slots k p → HasFirst pts b slots (k + 1) p
    more_seen p h = record { first = h.first; seen = omega (arith, h.seen); is = h.is; same = h.same }

    -- an empty slot: one more distinct id
    module _ (room : slot_of b (place pts k) < length slots) (free : slot_at slots (slot_of b (place pts k)) ≡ NO_ID) where
      abbrev here : ℕ
      here = slot_of b (place pts k)

      abbrev after : List ℕ
      after = set slots here k

      other_slot : (j : ℕ) → j < k → slot_of b (place pts j) ≢ here
      other_slot j l e = let f = old.firsts j l in
          id_is_none f.first (length pts) (omega (arith, f.seen, within)) few (sym f.is ∙ ap (slot_at slots) e ∙ free)

      -- so no earlier point is equal
      new_place : (j : ℕ) → j < k → place pts j ≢ place pts k
      new_place j l e = other_slot j l (ap (slot_of b) e)

      firsts_after : (j : ℕ) → j < k + 1 → HasFirst pts b after (k + 1) (place pts j)
      firsts_after j l = by_decision (ℕ_discrete j k)
        where
          by_decision : Dec (j ≡ k) → HasFirst pts b after (k + 1) (place pts j)
          by_decision (yes e) = record {
            first = k;
            seen = omega arith;
            is = ap (λ (n : ℕ). slot_at after (slot_of b (place pts n))) e ∙ get_or-set_same slots here k NO_ID room;
            same = ap (place pts) (sym e);
          }
          by_decision (no ne) =
              let below : j < k = omega (arith, l, ne) in let f = old.firsts j below in
              record {
                first = f.first;
                seen = omega (arith, f.seen);
                is = get_or-set_other slots here (slot_of b (place pts j)) k NO_ID (other_slot j below) ∙ f.is;
                same = f.same;
              }

      held_after : (s : ℕ) → s < length after → (slot_at after s ≡ NO_ID) ⊎ (slot_at after s < k + 1)
      held_after s l = by_decision (ℕ_discrete s here)
        where
          lower : (n m : ℕ) → n ≡ m → m < k → n < k + 1
          lower n m e h = omega (arith, e, h)

          likewise : (n m : ℕ) → n ≡ m → (m ≡ NO_ID) ⊎ (m < k) → (n ≡ NO_ID) ⊎ (n < k + 1)
          likewise n m e (inl h) = inl (e ∙ h)
          likewise n m e (inr h) = inr (lower n m e h)

          own : (n : ℕ) → n ≡ k → n < k + 1
          own n e = omega (arith, e)

          by_decision : Dec (s ≡ here) → (slot_at after s ≡ NO_ID) ⊎ (slot_at after s < k + 1)
          by_decision (yes e) = inr (own (slot_at after s) (ap (slot_at after) e ∙ get_or-set_same slots here k NO_ID room))
          by_decision (no ne) = likewise (slot_at after s) (slot_at slots s) (get_or-set_other slots here s k NO_ID ne)
              (old.held s (subst (λ (n : ℕ). s < n) (length-set slots here k) l))

      pub new_seen : HaveFirsts pts b after (k + 1) (ids ++ k ∷ [])
      new_seen =
          let to : (i : ℕ) → In i (ids ++ k ∷ []) → IsDistinctId pts i × (i < k + 1) = λ i m. one i (of_append ids (k ∷ []) i m) in
          record { firsts = firsts_after; held = held_after; rising = rises; members = λ i. (to i, from i) }
        where
          one : (i : ℕ) → In i ids ⊎ In i (k ∷ []) → IsDistinctId pts i × (i < k + 1)
          one i (inl m) = let h = (old.members i).0 m in (h.0, omega (arith, h.1))
          one i (inr (inl e)) = subst (λ (n : ℕ). IsDistinctId pts n × (n < k + 1)) (sym e) ((within, new_place), omega arith)
          one i (inr (inr m)) = absurd m

          from : (i : ℕ) → IsDistinctId pts i × (i < k + 1) → In i (ids ++ k ∷ [])
          from i h = by_decision (ℕ_discrete i k)
            where
              by_decision : Dec (i ≡ k) → In i (ids ++ k ∷ [])
              by_decision (yes e) = in_append ids (k ∷ []) i (inr (inl e))
              by_decision (no ne) = in_append ids (k ∷ []) i (inl ((old.members i).1 (h.0, omega (arith, h.1, ne))))

          rises : IsStrictlyIncreasing (ids ++ k ∷ [])
          rises = rising_append ids (k ∷ []) old.rising (λ n l. absurd (omega (arith, l))) (λ x y m i. below x y m i)
            where
              below : (x y : ℕ) → In x ids → In y (k ∷ []) → x < y
              below x y m (inl e) = subst (λ (n : ℕ). x < n) (sym e) (((old.members x).0 m).1)
              below x y m (inr n) = absurd n

    -- a point that is equal to an earlier one: no more distinct id
    pub repeat_seen : (i : ℕ) → i < k → place pts i ≡ place pts k → HaveFirsts pts b slots (k + 1) ids
    repeat_seen i l e = record {
      firsts = λ j h. firsts j h (ℕ_discrete j k);
      held = λ s h. later s (old.held s h);
      rising = old.rising;
      members = λ j. (to j, from j);
    }
      where
        firsts : (j : ℕ) → j < k + 1 → Dec (j ≡ k) → HasFirst pts b slots (k + 1) (place pts j)
        firsts j h (yes q) = subst (HasFirst pts b slots (k + 1)) (e ∙ ap (place pts) (sym q)) (more_seen (place pts i) (old.firsts i l))
        firsts j h (no ne) = more_seen (place pts j) (old.firsts j (omega (arith, h, ne)))

        later : (s : ℕ) → (slot_at slots s ≡ NO_ID) ⊎ (slot_at slots s < k) → (slot_at slots s ≡ NO_ID) ⊎ (slot_at slots s < k + 1)
        later s (inl h) = inl h
        later s (inr h) = inr (omega (arith, h))

        to : (j : ℕ) → In j ids → IsDistinctId pts j × (j < k + 1)
        to j m = let h = (old.members j).0 m in (h.0, omega (arith, h.1))

        from : (j : ℕ) → IsDistinctId pts j × (j < k + 1) → In j ids
        from j h = by_decision (ℕ_discrete j k)
          where
            by_decision : Dec (j ≡ k) → In j ids
            by_decision (yes q) = absurd ((subst (IsDistinctId pts) q h.0).1 i l e)
            by_decision (no ne) = (old.members j).1 (h.0, omega (arith, h.1, ne))

-- points that are all equal to earlier ones: no more distinct id
pub repeats_seen : (pts : List Vector) (b : CloseBox) (slots : List ℕ) (k m : ℕ) (ids : List ℕ) → HaveFirsts pts b slots k ids → length pts ≤ POINT_LIMIT
    → ((i : ℕ) → i < m → IsRepeatedId pts (k + i)) → HaveFirsts pts b slots (k + m) ids
repeats_seen pts b slots k zero ids old few each = subst (λ n. HaveFirsts pts b slots n ids) {x = k} {y = k + 0} (omega arith) old
repeats_seen pts b slots k (suc m) ids old few each =
    let r = each m (omega arith) in
    subst (λ n. HaveFirsts pts b slots n ids) {x = k + m + 1} {y = k + suc m} (omega arith)
    (repeat_seen pts b slots (k + m) ids (repeats_seen pts b slots k m ids old few (λ i l. each i (omega (arith, l)))) r.0 few r.1 r.2 r.3)

-- after all points were processed, the ids are the distinct ones
pub all_seen : (pts : List Vector) (b : CloseBox) (slots : List ℕ) (k : ℕ) (ids : List ℕ) → HaveFirsts pts b slots k ids → length pts ≤ k
    → AreDistinctIds pts ids
all_seen pts b slots k ids h l = record { rising = h.rising; members = λ i. ((λ m. ((h.members i).0 m).0), (λ d. (h.members i).1 (d, omega (arith, d.0, l)))) }
