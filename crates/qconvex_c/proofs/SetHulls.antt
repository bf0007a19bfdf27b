-- The hulls of sets, written one after the other.
use Rattle.{std.proofs.lemmas.List.drop-set-lt, qconvex_c.specs.declared.sets.Set.Set, qconvex_c.specs.declared.set_answer.SetAnswer.SetAnswer}
use Rattle.qconvex_c.proofs.SetParts.{same_part, same_end, kept_longer}
use Rattle.qconvex_c.specs.contract.Sets.{AreStarts, HaveRoom, IsSetHull, HasSetHull, AreKeptBetween, sets_in, offsets_start, corners_start}
use Rattle.qh_model.proofs.Common.{◌≡◌, ℕ, ◌+◌, ◌*◌, ◌-◌, ◌≤◌, ◌<◌, ◌≢◌, zero, suc, List, length, take, drop, slice_index}
use Rattle.qh_model.proofs.Common.{slice_index_or, slice_set, get_or-set_same, get_or-set_other, below_more, arith, ap, sym, subst, ◌∙◌, slice_range, Vector}

-- equal positions have equal starts
ap_le : (starts : List ℕ) {i j : ℕ} → i ≡ j → slice_index starts i ≤ slice_index starts j
ap_le starts {i} e = subst (λ n. slice_index starts i ≤ slice_index starts n) e (omega arith)

-- a start is at most any later one
pub rising_on : (count : ℕ) (starts : List ℕ) → AreStarts count starts → (j k : ℕ)
    → j + k < length starts → slice_index starts j ≤ slice_index starts (j + k)
rising_on count starts are j zero h = let same : j ≡ j + 0 = omega arith in ap_le starts same
rising_on count starts are j (suc k) h =
    let next = are.rising (j + k) (omega arith) in
    let same : j + suc k ≡ j + k + 1 = omega arith in
    subst (λ n. slice_index starts j ≤ slice_index starts n) (sym same) (omega (arith, rising_on count starts are j k (omega arith), next))

pub rising_to : (count : ℕ) (starts : List ℕ) → AreStarts count starts → (j i : ℕ)
    → j ≤ i → i < length starts → slice_index starts j ≤ slice_index starts i
rising_to count starts are j i h k =
    let same : j + (i - j) ≡ i = omega arith in
    subst (λ n. slice_index starts j ≤ slice_index starts n) same (rising_on count starts are j (i - j) (omega arith))

-- there is room for the parts of each set
pub record FitsPart (starts : List ℕ) (i count extremes offsets corners : ℕ) : Type 0 where
  pub rising : slice_index starts i ≤ slice_index starts (i + 1)
  pub within : slice_index starts (i + 1) ≤ count
  pub extremes_fit : slice_index starts (i + 1) ≤ extremes
  pub offsets_fit : 2 * slice_index starts (i + 1) + 2 * (i + 1) ≤ offsets
  pub corners_fit : 6 * slice_index starts (i + 1) + 4 * (i + 1) ≤ corners

pub fits_part : (starts : List ℕ) (count answers extremes offsets corners : ℕ)
    → AreStarts count starts → HaveRoom starts answers extremes offsets corners
    → (i : ℕ) → i < sets_in starts → FitsPart starts i count extremes offsets corners
fits_part starts count answers extremes offsets corners are room i h =
    let some = are.some in let last = rising_to count starts are (i + 1) (sets_in starts) (omega arith) (omega arith) in
    record {
      rising = are.rising i (omega arith);
      within = are.within (i + 1) (omega arith);
      extremes_fit = omega (arith, last, room.extremes);
      offsets_fit = omega (arith, last, room.offsets);
      corners_fit = omega (arith, last, room.corners);
    }

-- equal parts have the same hull
same_hull : (pts : List Vector) (a : SetAnswer) (e e' f o o' p c c' d : List ℕ) → e' ≡ f → o' ≡ p → c' ≡ d
    → IsSetHull pts a e f o p c d → IsSetHull pts a e e' o o' c c'
same_hull pts a e e' f o o' p c c' d se so sc h = rw (se, so, sc) h

same_before : (pts : List Vector) (a : SetAnswer) (e e' f o o' p c c' d : List ℕ) → e' ≡ e → o' ≡ o → c' ≡ c
    → IsSetHull pts a e' f o' p c' d → IsSetHull pts a e f o p c d
same_before pts a e e' f o o' p c c' d se so sc h =
    subst (λ t. IsSetHull pts a t f o p c d) se (subst (λ t. IsSetHull pts a e' f t p c d) so (subst (λ t. IsSetHull pts a e' f o' p t d) sc h))

module _ (pts : List Vector) (starts : List ℕ) (count : ℕ) (are : AreStarts count starts) (e e' o o' c c' : List ℕ) where
  -- the hull of a set is unchanged while later sets are written
  pub hull_stays : (f p d : List ℕ) (j i : ℕ) (a : SetAnswer) → HasSetHull pts starts j a e e' o o' c c' → j < i → i < length starts
      → take (slice_index starts i) f ≡ take (slice_index starts i) e' → take (offsets_start starts i) p ≡ take (offsets_start starts i) o'
      → take (corners_start starts i) d ≡ take (corners_start starts i) c' → HasSetHull pts starts j a e f o p c d
  hull_stays f p d j i a has h k te to tc =
      let up = are.rising j (omega arith) in let far = rising_to count starts are (j + 1) i (omega arith) k in
      record {
        hull = same_hull _ a _ _ _ _ _ _ _ _ _
            (same_part e' f (slice_index starts j) (slice_index starts (j + 1)) (slice_index starts i) te up far)
            (same_part o' p (offsets_start starts j) (offsets_start starts (j + 1)) (offsets_start starts i) to (omega (arith, up)) (omega (arith, far)))
            (same_part c' d (corners_start starts j) (corners_start starts (j + 1)) (corners_start starts i) tc (omega (arith, up)) (omega (arith, far)))
            has.hull;
      }

  -- the hull of a set is written where nothing was written before
  pub hull_written : (f p d : List ℕ) (i : ℕ) (a : SetAnswer)
      → drop (slice_index starts i) e' ≡ drop (slice_index starts i) e → drop (offsets_start starts i) o' ≡ drop (offsets_start starts i) o
      → drop (corners_start starts i) c' ≡ drop (corners_start starts i) c → HasSetHull pts starts i a e' f o' p c' d → HasSetHull pts starts i a e f o p c d
  hull_written f p d i a de do_ dc has = record {
    hull = same_before _ a _ _ _ _ _ _ _ _ _
        (ap (take (slice_index starts (i + 1) - slice_index starts i)) de) (ap (take (offsets_start starts (i + 1) - offsets_start starts i)) do_)
        (ap (take (corners_start starts (i + 1) - corners_start starts i)) dc)
        has.hull;
  }

-- the sets below n have their hulls, and nothing else was written
pub record WrittenSoFar (pts : List Vector) (starts : List ℕ) (n : ℕ) (answers answers' : List SetAnswer)
    (e e' o o' c c' : List ℕ) : Type 0 where
  pub each : (j : ℕ) (other : SetAnswer) → j < n → HasSetHull pts starts j (slice_index_or answers' j other) e e' o o' c c'
  pub answers_rest : drop n answers' ≡ drop n answers
  pub extremes_kept : AreKeptBetween (slice_index starts 0) (slice_index starts n) e e'
  pub offsets_kept : AreKeptBetween (2 * slice_index starts 0) (offsets_start starts n) o o'
  pub corners_kept : AreKeptBetween (6 * slice_index starts 0) (corners_start starts n) c c'

-- the set i, as the program represents it
abbrev set_of : List ℕ → ℕ → Set
set_of starts i = record { number = i; begin = slice_index starts i; end = slice_index starts (i + 1) }

-- the parts of the buffers of a set
abbrev IsHullIn : List Vector → SetAnswer → (e f o p c d : List ℕ) → Set → Type 0
IsHullIn pts a e f o p c d s = IsSetHull (slice_range pts s.begin s.end) a
    (slice_range e s.begin s.end) (slice_range f s.begin s.end) (slice_range o (2 * s.begin + 2 * s.number) (2 * s.end + 2 * (s.number + 1)))
    (slice_range p (2 * s.begin + 2 * s.number) (2 * s.end + 2 * (s.number + 1))) (slice_range c (6 * s.begin + 4 * s.number) (6 * s.end + 4 * (s.number + 1)))
    (slice_range d (6 * s.begin + 4 * s.number) (6 * s.end + 4 * (s.number + 1)))

-- one set more
pub written_more : (pts : List Vector) (starts : List ℕ) (count : ℕ) → AreStarts count starts
    → (i : ℕ) (answers answers' : List SetAnswer) (e e' f o o' p c c' d : List ℕ) (a : SetAnswer) (s : Set)
    → i < sets_in starts → i < length answers' → s ≡ set_of starts i → WrittenSoFar pts starts i answers answers' e e' o o' c c'
    → IsHullIn pts a e' f o' p c' d s → AreKeptBetween s.begin s.end e' f → AreKeptBetween (2 * s.begin + 2 * s.number) (2 * s.end + 2 * (s.number + 1)) o' p
    → AreKeptBetween (6 * s.begin + 4 * s.number) (6 * s.end + 4 * (s.number + 1)) c' d
    → WrittenSoFar pts starts (i + 1) answers (slice_set answers' i a) e f o p c d
written_more pts starts count are i answers answers' e e' f o o' p c c' d a s below place at so_far hull ke ko kc =
    let some = are.some in
    let he : AreKeptBetween (slice_index starts i) (slice_index starts (i + 1)) e' f =
    subst (λ t. AreKeptBetween t.begin t.end e' f) at ke in
    let ho : AreKeptBetween (offsets_start starts i) (offsets_start starts (i + 1)) o' p =
    subst (λ t. AreKeptBetween (2 * t.begin + 2 * t.number) (2 * t.end + 2 * (t.number + 1)) o' p) at ko in
    let hc : AreKeptBetween (corners_start starts i) (corners_start starts (i + 1)) c' d =
    subst (λ t. AreKeptBetween (6 * t.begin + 4 * t.number) (6 * t.end + 4 * (t.number + 1)) c' d) at kc in
    let now : HasSetHull pts starts i a e f o p c d =
    hull_written pts starts count are e e' o o' c c' f p d i a so_far.extremes_kept.rest so_far.offsets_kept.rest so_far.corners_kept.rest
    (record { hull = subst (IsHullIn pts a e' f o' p c' d) at hull }) in
    let first = rising_to count starts are 0 i (omega arith) (omega arith) in let next = are.rising i (omega arith) in
    record {
      each = λ j other h. below_more (λ k. HasSetHull pts starts k (slice_index_or (slice_set answers' i a) k other) e f o p c d) i
          (λ k l. let ne : k ≢ i = omega arith in
          rw (get_or-set_other answers' i k a other ne)
          (hull_stays pts starts count are e e' o o' c c' f p d k i (slice_index_or answers' k other) (so_far.each k other l) l (omega arith)
          he.front ho.front hc.front)) (subst (λ x. HasSetHull pts starts i x e f o p c d) (sym (get_or-set_same answers' i a other place)) now)
          j h;
      answers_rest = drop-set-lt (i + 1) answers' i a (omega arith) ∙ same_end answers answers' i (i + 1) so_far.answers_rest (omega arith);
      extremes_kept = kept_longer (slice_index starts 0) (slice_index starts i) (slice_index starts (i + 1)) e e' f
          so_far.extremes_kept he first next;
      offsets_kept = kept_longer (2 * slice_index starts 0) (offsets_start starts i) (offsets_start starts (i + 1)) o o' p
          so_far.offsets_kept ho (omega (arith, first)) (omega (arith, next));
      corners_kept = kept_longer (6 * slice_index starts 0) (corners_start starts i) (corners_start starts (i + 1)) c c' d
          so_far.corners_kept hc (omega (arith, first)) (omega (arith, next));
    }
