-- Pieces of a list: the points between the first ones of a piece are repeats, and the distinct points of a piece are its first ones.
use Rattle.qh_model.proofs.Common.{◌≡◌, ◌∙◌, ℕ, zero, suc, ◌+◌, ◌-◌, ◌*◌, ◌/◌, ◌%◌, ◌<◌, ◌≤◌, ◌⊎◌, inl, inr, List, length, get_or, min}
use Rattle.qh_model.proofs.Common.{arith, sym, subst, cases_lt, get_or_default, get_or_past, div-add-mod', IsChunk, AreDistinctIds, place, In, Vector, origin}
use native.Mathlib.Nat.{add-mul, one-mul, mod-lt}
use Rattle.qh_model.proofs.{Decisions.Decided, Decisions.same_vector, Members.in_at, Members.All-of, lists.Rising.rising_between}
use Rattle.qh_model.specs.declared.limits.TheConstants.{POINT_LIMIT}
use Rattle.qh_plane.{proofs.SeenPlaces.repeats_seen, specs.declared.close_points.CloseBox.CloseBox}
use Rattle.qh_plane.specs.steps.{FirstIds.HaveFirsts, FirstIds.AreFirstIds, Repeats.IsRepeatedId, Pieces.end_of}

module _ (pts : List Vector) (begin end : ℕ) (firsts : List ℕ) (order : begin ≤ end) (f : AreFirstIds pts begin end firsts) where
  -- the id of the first point with a number, or the end of the piece
  abbrev pub first_at : ℕ → ℕ
  first_at i = begin + get_or firsts i (end - begin)

  first_within : (i : ℕ) → first_at i ≤ end
  first_within i = by_decision (cases_lt i (length firsts))
    where
      by_decision : (i < length firsts) ⊎ (length firsts ≤ i) → first_at i ≤ end
      by_decision (inl l) = let h = f.below i (end - begin) l in omega (arith, h)
      by_decision (inr g) = omega (arith, get_or_past firsts i (end - begin) g, order)

  -- the first ones rise
  at_most : (i q : ℕ) → i ≤ q → q < length firsts → get_or firsts i 0 ≤ get_or firsts q 0
  at_most i q g l = by_order (cases_lt i q)
    where
      by_order : (i < q) ⊎ (q ≤ i) → get_or firsts i 0 ≤ get_or firsts q 0
      by_order (inl h) = omega (arith, rising_between firsts i q f.rising h l)
      by_order (inr h) = let e : i ≡ q = omega (arith, g, h) in subst (λ k. get_or firsts i 0 ≤ get_or firsts k 0) e (omega arith)

  -- none of them lies between two consecutive ones
  between : (i m : ℕ) → ((q : ℕ) → q < i → q < length firsts → get_or firsts q 0 < m) → begin + m < first_at i → IsRepeatedId pts (begin + m)
  between i m above before = told (f.others m (let h = first_within i in omega (arith, before, h)))
    where
      none_there : (q : ℕ) → q < length firsts → get_or firsts q 0 ≡ m → (q < i) ⊎ (i ≤ q) → ⊥
      none_there q l e (inl h) = omega (arith, above q h l, e)
      none_there q l e (inr g) =
          let here : i < length firsts = omega (arith, g, l) in
          let read : get_or firsts i (end - begin) ≡ get_or firsts i 0 = get_or_default firsts i (end - begin) 0 here in
          omega (arith, before, read, at_most i q g l, e)

      told : In m firsts ⊎ IsRepeatedId pts (begin + m) → IsRepeatedId pts (begin + m)
      told (inr r) = r
      told (inl in_) = let a = in_at firsts m in_ in absurd (none_there a.0 a.1 a.2 (cases_lt a.0 i))

  -- if the points before a point are processed, and none of the first ones lies between it and the next first one, the points before the next one are processed
  seen_before : (b : CloseBox) (slots ids : List ℕ) (i k : ℕ) → length pts ≤ POINT_LIMIT → HaveFirsts pts b slots (begin + k) ids
      → begin + k ≤ first_at i → ((q : ℕ) → q < i → q < length firsts → get_or firsts q 0 < k) → HaveFirsts pts b slots (first_at i) ids
  seen_before b slots ids i k few old l above =
      subst (λ n. HaveFirsts pts b slots n ids) {x = begin + k + (first_at i - (begin + k))} {y = first_at i} (omega (arith, l))
      (repeats_seen pts b slots (begin + k) (first_at i - (begin + k)) ids old few
      (λ m h. subst (IsRepeatedId pts) {x = begin + (k + m)} {y = begin + k + m} (omega arith)
      (between i (k + m) (λ q g n. omega (arith, above q g n)) (omega (arith, h, l)))))

  -- in the beginning those before the first one
  pub first_begun : (b : CloseBox) (slots ids : List ℕ) → length pts ≤ POINT_LIMIT → HaveFirsts pts b slots begin ids → HaveFirsts pts b slots (first_at 0) ids
  first_begun b slots ids few old =
      seen_before b slots ids 0 0 few (subst (λ n. HaveFirsts pts b slots n ids) {x = begin} {y = begin + 0} (omega arith) old) (omega arith)
      (λ q g n. absurd (omega (arith, g)))

  -- then, after one more first point, those before the next one
  pub first_passed : (b : CloseBox) (slots ids : List ℕ) (i : ℕ) → length pts ≤ POINT_LIMIT → i < length firsts
      → HaveFirsts pts b slots (first_at i + 1) ids → HaveFirsts pts b slots (first_at (i + 1)) ids
  first_passed b slots ids i few l old =
      seen_before b slots ids (i + 1) (get_or firsts i 0 + 1) few
      (subst (λ n. HaveFirsts pts b slots n ids) {x = first_at i + 1} {y = begin + (get_or firsts i 0 + 1)} (omega (arith, here)) old)
      (by_decision (cases_lt (i + 1) (length firsts))) above
    where
      here : get_or firsts i (end - begin) ≡ get_or firsts i 0
      here = get_or_default firsts i (end - begin) 0 l

      by_decision : (i + 1 < length firsts) ⊎ (length firsts ≤ i + 1) → begin + (get_or firsts i 0 + 1) ≤ first_at (i + 1)
      by_decision (inl h) = let read = get_or_default firsts (i + 1) (end - begin) 0 h in omega (arith, f.rising i h, read)
      by_decision (inr g) = omega (arith, get_or_past firsts (i + 1) (end - begin) g, f.below i (end - begin) l, here)

      above : (q : ℕ) → q < i + 1 → q < length firsts → get_or firsts q 0 < get_or firsts i 0 + 1
      above q h n = omega (arith, at_most q i (omega (arith, h)) l)

  -- after the last one the piece is processed
  pub piece_seen : (b : CloseBox) (slots ids : List ℕ) (i : ℕ) → length firsts ≤ i → HaveFirsts pts b slots (first_at i) ids → HaveFirsts pts b slots end ids
  piece_seen b slots ids i g old =
      subst (λ n. HaveFirsts pts b slots n ids) {x = first_at i} {y = end} (omega (arith, get_or_past firsts i (end - begin) g, order)) old

-- an earlier equal point, or none
stands_before : (pts : List Vector) (i n : ℕ) → Decided ((j : ℕ) × (j < n) × (place pts j ≡ place pts i))
stands_before pts i zero = inr (λ s. let l = s.1 in omega (arith, l))
stands_before pts i (suc n) = by_decision (stands_before pts i n) (same_vector (place pts n) (place pts i))
  where
    by_decision : Decided ((j : ℕ) × (j < n) × (place pts j ≡ place pts i)) → Decided (place pts n ≡ place pts i)
        → Decided ((j : ℕ) × (j < suc n) × (place pts j ≡ place pts i))
    by_decision (inl s) d = let l = s.1 in inl (s.0, omega (arith, l), s.2)
    by_decision (inr none) (inl e) = inl (n, omega arith, e)
    by_decision (inr none) (inr other) = inr (λ s. by_order s (cases_lt s.0 n))
      where
        by_order : (s : (j : ℕ) × (j < suc n) × (place pts j ≡ place pts i)) → (s.0 < n) ⊎ (n ≤ s.0) → ⊥
        by_order s (inl l) = none (s.0, l, s.2)
        by_order s (inr g) = let e : s.0 ≡ n = omega (arith, s.1, g) in other (subst (λ k. place pts k ≡ place pts i) e s.2)

module _ (pts piece : List Vector) (size n : ℕ) (ids : List ℕ) (c : IsChunk pts size (n * size) piece) (d : AreDistinctIds piece ids) where
  -- a point of the piece is a point of the list
  same_place : (k : ℕ) → k < length piece → place piece k ≡ place pts (n * size + k)
  unfolding place
  same_place k l = c.elements k origin l

  firsts_of : AreFirstIds pts (n * size) (n * size + length piece) ids
  firsts_of = record {
    rising = d.rising;
    below = All-of (λ i. n * size + i < n * size + length piece) ids (λ i m. let l = ((d.members i).0 m).0 in omega (arith, l));
    others = λ i l. other i (omega (arith, l)) (stands_before piece i i);
  }
    where
      other : (i : ℕ) → i < length piece → Decided ((j : ℕ) × (j < i) × (place piece j ≡ place piece i)) → In i ids ⊎ IsRepeatedId pts (n * size + i)
      other i l (inr none) = inl ((d.members i).1 (l, λ j h e. none (j, h, e)))
      other i l (inl s) =
          let before = s.1 in
          inr (
            omega (arith, l, c.in_bounds),
            n * size + s.0,
            omega (arith, before),
            sym (same_place s.0 (omega (arith, before, l))) ∙ s.2 ∙ same_place i l,
          )

  -- the distinct points of a piece are its first ones
  pub chunk_firsts : AreFirstIds pts (end_of pts size n) (end_of pts size (n + 1)) ids
  chunk_firsts =
      let within = c.in_bounds in let more : (n + 1) * size ≡ n * size + size = omega arith in
      subst (λ b. AreFirstIds pts b (end_of pts size (n + 1)) ids) {x = n * size} {y = end_of pts size n} (omega (arith, within))
      (subst (λ e. AreFirstIds pts (n * size) e ids) {x = n * size + length piece} {y = end_of pts size (n + 1)} (omega (arith, within, c.len, more)) firsts_of)

-- all chunks of a list reach its end
pub chunks_reach : (len size count : ℕ) → 0 < size → count ≡ len / size + min 1 (len % size) → len ≤ count * size
chunks_reach len size count some is = by_rest (cases_lt 0 (len % size))
  where
    parts : len / size * size + len % size ≡ len
    parts = div-add-mod' len size

    by_rest : (0 < len % size) ⊎ (len % size ≤ 0) → len ≤ count * size
    by_rest (inl l) =
        let e : count ≡ len / size + 1 = omega (arith, is, l) in let below : len % size < size = mod-lt len some in
        subst (λ n. len ≤ n * size) (sym e) (omega (arith, parts, below, add-mul (len / size) 1 size, one-mul size))
    by_rest (inr g) = let e : count ≡ len / size = omega (arith, is, g) in subst (λ n. len ≤ n * size) (sym e) (omega (arith, parts, g))

-- the end of a piece, which is not before its beginning
pub next_end : (pts : List Vector) (size n begin sum end : ℕ) → length pts ≤ POINT_LIMIT → begin ≡ end_of pts size n
    → sum ≡ min (begin + size) 18446744073709551615 → end ≡ min sum (length pts) → (end ≡ end_of pts size (n + 1)) × (begin ≤ end)
next_end pts size n begin sum end few is added least =
    let more : (n + 1) * size ≡ n * size + size = omega arith in (omega (arith, few, is, added, least, more), omega (arith, few, is, added, least))
