-- Parts of a set that contain all its extreme ids, collected block after block.
use Rattle.qh_model.proofs.Common.{ℕ, ◌≡◌, ◌∙◌, ◌⊎◌, inl, inr, List, ◌++◌, take, drop, subst, sym, ap, take-append-drop, ◌↔◌, AreIndices, IsIdSet, Vector}
use Rattle.qh_model.proofs.Common.{place, In, Members, Extreme, Others, AreExtremes, HasExtremes}
use Rattle.qh_model.proofs.{extremes.ExtremeIds.combination_within, hulls.ExtremeParts.part_indices}
use Rattle.qh_model.proofs.lists.{Joined.in_append, Joined.of_append, Rising.rising_back, Rising.rising_front}
use Rattle.qh_run.specs.steps.Parts.{HasExtremesBefore}

-- ---- block after block
-- the front of a set of ids is a set of ids
pub set_front : (pts : List Vector) (xs ys : List ℕ) → IsIdSet pts (xs ++ ys) → IsIdSet pts xs
set_front pts xs ys s =
    record {
      rising = rising_front xs ys s.rising;
      distinct = λ i j m n e. s.distinct i j (in_append xs ys i (inl m)) (in_append xs ys j (inl n)) e;
    }

-- so is the rest
set_back : (pts : List Vector) (xs ys : List ℕ) → IsIdSet pts (xs ++ ys) → IsIdSet pts ys
set_back pts xs ys s =
    record {
      rising = rising_back xs ys s.rising;
      distinct = λ i j m n e. s.distinct i j (in_append xs ys i (inr m)) (in_append xs ys j (inr n)) e;
    }

-- after the extreme ids of a block are added, only the ids after the block remain
pub block_kept : (pts : List Vector) (ids block later kept found : List ℕ)
    → HasExtremesBefore pts ids (block ++ later) kept → AreExtremes (place pts) (Members block) found
    → HasExtremesBefore pts ids later (kept ++ found)
block_kept pts ids block later kept found h x = record {
  set = set_back pts block later h.set;
  later = λ i m. h.later i (in_append block later i (inr m));
  within = λ i m. inside i (of_append kept found i m);
  extremes = λ i e. sorted i e (h.extremes i e);
}
  where
    inside : (i : ℕ) → In i kept ⊎ In i found → In i ids
    inside i (inl m) = h.within i m
    inside i (inr m) = h.later i (in_append block later i (inl ((x.members i).0 m).0))

    of_block : (i : ℕ) → Extreme (place pts) (Members ids) i → In i block → Extreme (place pts) (Members block) i
    of_block i e m = (
      m,
      λ c. e.1 (combination_within (place pts) (Others (Members block) i) (Others (Members ids) i) (place pts i) c
          (λ j o. (h.later j (in_append block later j (inl o.0)), o.1))),
    )

    split : (i : ℕ) → Extreme (place pts) (Members ids) i → In i block ⊎ In i later → In i (kept ++ found) ⊎ In i later
    split i e (inl m) = inl (in_append kept found i (inr ((x.members i).1 (of_block i e m))))
    split i e (inr m) = inr m

    sorted : (i : ℕ) → Extreme (place pts) (Members ids) i → In i kept ⊎ In i (block ++ later) → In i (kept ++ found) ⊎ In i later
    sorted i e (inl m) = inl (in_append kept found i (inl m))
    sorted i e (inr m) = split i e (of_append block later i m)

-- the same for a block that was cut off
pub cut_kept : (pts : List Vector) (ids rest block later kept given found grown : List ℕ) (n : ℕ) → block ≡ take n rest
    → later ≡ drop n rest → given ≡ found → grown ≡ kept ++ given
    → HasExtremesBefore pts ids rest kept → (IsIdSet pts block → AreExtremes (place pts) (Members block) found) → HasExtremesBefore pts ids later grown
cut_kept pts ids rest block later kept given found grown n e f same more h x =
    let h' : HasExtremesBefore pts ids (block ++ later) kept = subst (λ r. HasExtremesBefore pts ids r kept) (sym (rw (e, f) (take-append-drop n rest))) h in
    subst (HasExtremesBefore pts ids later) (sym (more ∙ ap (λ v. kept ++ v) same))
    (block_kept pts ids block later kept found h' (x (set_front pts block later h'.set)))

-- the remaining ids are indices
pub left_indices : (pts : List Vector) (ids rest kept : List ℕ) → AreIndices pts ids → HasExtremesBefore pts ids rest kept → AreIndices pts rest
left_indices pts ids rest kept indices h = part_indices pts ids rest indices h.later

-- after all remaining ids are added, none remains
pub rest_kept : (pts : List Vector) (ids rest kept : List ℕ) → HasExtremesBefore pts ids rest kept → HasExtremes pts ids (kept ++ rest)
rest_kept pts ids rest kept h = record { within = λ i m. inside i (of_append kept rest i m); extremes = λ i e. in_append kept rest i (h.extremes i e) }
  where
    inside : (i : ℕ) → In i kept ⊎ In i rest → In i ids
    inside i (inl m) = h.within i m
    inside i (inr m) = h.later i m

-- ---- the part
-- a part in another order
pub part_as : (pts : List Vector) (ids kept part : List ℕ) → ((i : ℕ) → In i part ↔ In i kept) → HasExtremes pts ids kept → HasExtremes pts ids part
part_as pts ids kept part same h = record { within = λ i m. h.within i ((same i).0 m); extremes = λ i e. (same i).1 (h.extremes i e) }
