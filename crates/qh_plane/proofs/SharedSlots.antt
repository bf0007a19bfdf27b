-- Slots of a table for hashes: point by point, and the result of the whole table.
use Rattle.qh_model.proofs.Common.{◌≡◌, ℕ, ◌+◌, ◌<◌, List, Bool, true, false, ◌||◌, length, arith, ap, sym, subst, ◌∙◌, refl, get_or, set, get_or-set_same}
use Rattle.qh_model.proofs.Common.{get_or-set_other, length-set, ℕ_discrete, place, Vector}
use Rattle.qh_plane.specs.steps.{HashedKeys.place_hash, HashedKeys.hash_at, HashedKeys.WithHashes, Repeats.AreRepeats, Repeats.AreAllRepeats}
use Rattle.qh_plane.specs.steps.SharedSlots.{slot_in, MarkedHashes, AreTaken, AreShared}

-- a mark that is or was set is set
or_left : (a b : Bool) → a ≡ true → (a || b) ≡ true
or_left true b e = refl
or_left false b e = cc

or_right : (a b : Bool) → b ≡ true → (a || b) ≡ true
or_right true b e = refl
or_right false b e = e

-- a set mark stays set when another one is written
kept_mark : (marks : List Bool) (s k : ℕ) (b : Bool) → s < length marks → (get_or marks s false ≡ true → b ≡ true)
    → get_or marks k false ≡ true → get_or (set marks s b) k false ≡ true
kept_mark marks s k b within still e = by_decision (ℕ_discrete k s)
  where
    by_decision : Dec (k ≡ s) → get_or (set marks s b) k false ≡ true
    by_decision (yes q) = ap (λ v. get_or (set marks s b) v false) q ∙ get_or-set_same marks s b false within
        ∙ still (sym (ap (λ v. get_or marks v false) q) ∙ e)
    by_decision (no ne) = get_or-set_other marks s k b false ne ∙ e

module _ (pts : List Vector) (n slots s : ℕ) (is : s ≡ slot_in slots (hash_at pts n)) (within : s < slots) where
  -- the slot of one more point is taken
  pub taken_more : (taken : List Bool) → length taken ≡ slots → AreTaken pts n taken → AreTaken pts (n + 1) (set taken s true)
  taken_more taken len t i h = by_decision (ℕ_discrete i n)
    where
      here : s < length taken
      here = subst (λ v. s < v) (sym len) within

      same : length (set taken s true) ≡ slots
      same = length-set taken s true ∙ len

      by_decision : Dec (i ≡ n) → MarkedHashes (set taken s true) (hash_at pts i)
      by_decision (yes q) = ap (λ v. get_or (set taken s true) v false)
          (ap (λ v. slot_in v (hash_at pts i)) same ∙ ap (λ v. slot_in slots (hash_at pts v)) q ∙ sym is) ∙ get_or-set_same taken s true false here
      by_decision (no ne) = ap (λ v. get_or (set taken s true) (slot_in v (hash_at pts i)) false) (length-set taken s true)
          ∙ kept_mark taken s (slot_in (length taken) (hash_at pts i)) true here (λ e. refl) (t i (omega (arith, h, ne)))

  -- it is shared if it was taken before
  pub shared_more : (taken shared : List Bool) → length taken ≡ slots → length shared ≡ slots → AreTaken pts n taken → AreShared pts n shared
      → AreShared pts (n + 1) (set shared s (get_or shared s false || get_or taken s false))
  shared_more taken shared tlen slen t a i j l h e = by_decision (ℕ_discrete j n)
    where
      b : Bool
      b = get_or shared s false || get_or taken s false

      here : s < length shared
      here = subst (λ v. s < v) (sym slen) within

      same : length (set shared s b) ≡ slots
      same = length-set shared s b ∙ slen

      -- the slots are equal in a table of this size
      met : slot_in slots (hash_at pts i) ≡ slot_in slots (hash_at pts j)
      met = subst (λ v. slot_in v (hash_at pts i) ≡ slot_in v (hash_at pts j)) same e

      by_decision : Dec (j ≡ n) → MarkedHashes (set shared s b) (hash_at pts i)
      by_decision (yes q) = ap (λ v. get_or (set shared s b) v false)
          (ap (λ v. slot_in v (hash_at pts i)) same ∙ met ∙ ap (λ v. slot_in slots (hash_at pts v)) q ∙ sym is) ∙ get_or-set_same shared s b false here
          ∙ or_right (get_or shared s false) (get_or taken s false) before
        where
          before : get_or taken s false ≡ true
          before = ap (λ v. get_or taken v false)
              (is ∙ sym (ap (λ v. slot_in slots (hash_at pts v)) q) ∙ sym met ∙ ap (λ v. slot_in v (hash_at pts i)) (sym tlen)) ∙ t i (omega (arith, l, q))
      by_decision (no ne) = ap (λ v. get_or (set shared s b) (slot_in v (hash_at pts i)) false) (length-set shared s b)
          ∙ kept_mark shared s (slot_in (length shared) (hash_at pts i)) b here (λ w. or_left (get_or shared s false) (get_or taken s false) w)
          (a i j l (omega (arith, h, ne)) (subst (λ v. slot_in v (hash_at pts i) ≡ slot_in v (hash_at pts j)) (sym slen) met))

-- equal points have one slot, so those that are equal to an earlier one are among the points of shared slots
pub all_in_slots : (pts : List Vector) (shared : List Bool) (ids : List ℕ) → AreShared pts (length pts) shared
    → AreRepeats pts (WithHashes pts (MarkedHashes shared)) ids → AreAllRepeats pts ids
all_in_slots pts shared ids a r = record { has = λ i s q. r.has i (marked i q.1 q.0 q.2 q.3) q; only = r.only }
  where
    marked : (i j : ℕ) → i < length pts → j < i → place pts j ≡ place pts i → MarkedHashes shared (hash_at pts i)
    marked i j h l e = subst (MarkedHashes shared) (ap place_hash e) (a j i l h (ap (λ v. slot_in (length shared) (place_hash v)) e))
