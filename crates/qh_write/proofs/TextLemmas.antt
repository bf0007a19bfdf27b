-- Texts that grow by pieces, and the numbers of vertices, found in a table or by a search.
use Rattle.qh_model.proofs.Common.{◌≡◌, ◌≢◌, ◌∙◌, ℕ, suc, ◌+◌, ◌-◌, ◌<◌, ◌≤◌, List, [], ◌∷◌, ◌++◌, length, arith, ap, sym, refl}
use Rattle.qh_model.proofs.Common.{subst, inl, inr, ◌⊎◌, get_or-set_same, get_or-set_other, set, length-set, get_or, eqb-true, Bool, zero-add, true, false}
use Rattle.qh_model.proofs.Common.{cond, All, replicate, decimal, slice_index, Vec, Global, Result, Ok, Err, eqb-false, length-replicate, All-from_get_or}
use Rattle.qh_model.proofs.Common.{flat_map, nat_cmp, ◌==◌, MatchResult, IsStrictlyIncreasing, IsBodyInOrder, In, Once, line, spaced, vertex_number, face_text}
use Rattle.std.{proofs.lemmas.List.Sorted.searched, specs.List.Sorted.IsBinarySearchResult}
use Rattle.qh_model.proofs.{Cuts.bounds_order, Members.All-In, Members.In-get_or, Members.rising_once, renamed.Positions.at_number, renamed.Positions.number_at}
use Rattle.qh_write.specs.declared.texts.numbering.VertexNumbers.{VertexNumbers, TheVariants.Table}
use Rattle.qh_write.specs.steps.Numberings.{numbered, HasNumber, AreNumbered, face_by_numbers, NumberExtremes}
use Rattle.qh_model.proofs.texts.RenamedTexts.{flat_map_same}

-- the table keeps its length
pub length-numbered : (table es : List ℕ) (n : ℕ) → length (numbered table n es) ≡ length table
length-numbered table [] n = refl
length-numbered table (e ∷ es) n = length-numbered (set table e n) es (suc n) ∙ length-set table e n

-- the entries of ids that are not in the list are unchanged
numbered-other : (table es : List ℕ) (n i : ℕ) → ¬ (In i es) → slice_index (numbered table n es) i ≡ slice_index table i
numbered-other table [] n i h = refl
numbered-other table (e ∷ es) n i h =
    let other : i ≢ e = λ s. h (inl s) in
    numbered-other (set table e n) es (suc n) i (λ s. h (inr s)) ∙ (rw get_or-set_other refl)

-- the entry of each id of the list is its number, from n on
numbered-at : (table es : List ℕ) (n i : ℕ) → Once es → In i es → i < length table → slice_index (numbered table n es) i ≡ n + vertex_number es i
numbered-at table [] n i once h l = absurd h
numbered-at table (e ∷ es) n i once h l = with_rest (numbered-at (set table e n) es (suc n) i once.1) (e == i) refl h
  where
    first : e ≡ i → slice_index (numbered (set table e n) (suc n) es) i ≡ n + 0
    first s =
        let low : e < length table = subst (λ (k : ℕ). k < length table) (sym s) l in
        subst (λ (k : ℕ). slice_index (numbered (set table e n) (suc n) es) k ≡ n + 0) s
        (numbered-other (set table e n) es (suc n) e once.0 ∙ get_or-set_same table e n 0 low ∙ omega arith)

    with_rest : (In i es → i < length (set table e n) → slice_index (numbered (set table e n) (suc n) es) i ≡ suc n + vertex_number es i)
        → (b : Bool) → (e == i) ≡ b → (i ≡ e) ⊎ In i es → slice_index (numbered (set table e n) (suc n) es) i ≡ n + cond b 0 (suc (vertex_number es i))
    with_rest rest true s h = first (eqb-true e i s)
    with_rest rest false s (inl h) = absurd (eqb-false e i s (sym h))
    with_rest rest false s (inr h) = let e = rest h (rw length-set l) in omega (arith, e)

-- the entry of each extreme id is its vertex number
vertex_number_at : (extremes : List ℕ) (count : ℕ) → IsStrictlyIncreasing extremes → All (λ i. i < count) extremes
    → (i : ℕ) → In i extremes → slice_index (numbered (replicate count 0) 0 extremes) i ≡ vertex_number extremes i
vertex_number_at extremes count rising within i h =
    let small : i < count = All-In (λ i. i < count) extremes i within h in
    numbered-at (replicate count 0) extremes 0 i (rising_once extremes rising) h (rw length-replicate small) ∙ zero-add (vertex_number extremes i)

-- the table gives each extreme id its number
pub table_numbers : (extremes : List ℕ) (count : ℕ) (table : Vec ℕ Global) → IsStrictlyIncreasing extremes → All (λ i. i < count) extremes
    → table.items ≡ numbered (replicate count 0) 0 extremes → NumberExtremes extremes (Table table)
table_numbers extremes count table rising within is =
    let long : length table.items ≡ count = ap length is ∙ length-numbered (replicate count 0) extremes 0 ∙ length-replicate count 0 in
    record {
      has = λ i h. let small : i < count = All-In (λ i. i < count) extremes i within h in omega (arith, small, long);
      is = λ i h. ap (λ (t : List ℕ). slice_index t i) is ∙ vertex_number_at extremes count rising within i h;
    }

-- a search in a rising list finds the number of an id that it contains
pub number_found : (ids : List ℕ) (i : ℕ) (found : Result ℕ ℕ) → IsStrictlyIncreasing ids → In i ids
    → IsBinarySearchResult (λ y. nat_cmp y i) ids found → MatchResult found (λ k. k ≡ vertex_number ids i) (λ _. ⊥)
number_found ids i found rising has result = by_case found (searched ids i found result up)
  where
    up : (j k : ℕ) → j ≤ k → k < length ids → get_or ids j 0 ≤ get_or ids k 0
    up j k le lt = bounds_order (λ n. get_or ids n 0) (length ids - 1) j k (λ n m. rising n (omega (arith, m))) le (omega (arith, lt))

    by_case : (r : Result ℕ ℕ)
        → MatchResult r (λ k. (k < length ids) × (get_or ids k 0 ≡ i)) (λ k. (k ≤ length ids) × ((n : ℕ) → n < k → get_or ids n 0 < i)
        × ((n : ℕ) → k ≤ n → n < length ids → i < get_or ids n 0)) → MatchResult r (λ k. k ≡ vertex_number ids i) (λ _. ⊥)
    by_case (Ok k) s = sym (subst (λ n. vertex_number ids n ≡ k) s.1 (number_at ids k (rising_once ids rising) s.0))
    by_case (Err k) s =
        let n = vertex_number ids i in let at = at_number ids i has in
        let before : n < k → get_or ids n 0 < i = s.1 n in
        let after : k ≤ n → n < length ids → i < get_or ids n 0 = s.2 n in
        grind (arith, at.0, at.1, before, after)

-- a face by the numbers of the extreme ids has its vertex numbers
face_numbered : (extremes : List ℕ) (numbers : VertexNumbers) → NumberExtremes extremes numbers
    → (q : List ℕ) → ((i : ℕ) → In i q → In i extremes) → face_by_numbers numbers q ≡ face_text extremes q
face_numbered extremes numbers right q named =
    ap (λ (t : List ℕ). line (decimal (length q) ++ t)) (flat_map_same _ _ q (λ i m. ap spaced (right.is i (named i m))))

-- a text that grew by the faces by these numbers grew by the faces
pub grown_by_faces : (extremes : List ℕ) (numbers : VertexNumbers) (qs : List (List ℕ)) (old new : List ℕ) → NumberExtremes extremes numbers
    → IsBodyInOrder extremes qs → new ≡ old ++ flat_map (face_by_numbers numbers) qs → new ≡ old ++ flat_map (face_text extremes) qs
grown_by_faces extremes numbers qs old new right order e =
    e ∙ ap (λ (t : List ℕ). old ++ t) (flat_map_same _ _ qs (λ q m. face_numbered extremes numbers right q (order.named q m)))

-- each vertex of each face gets a number
pub faces_numbered : (extremes : List ℕ) (numbers : VertexNumbers) (qs : List (List ℕ)) → NumberExtremes extremes numbers → IsBodyInOrder extremes qs
    → All (AreNumbered numbers) qs
faces_numbered extremes numbers qs right order =
    All-from_get_or (AreNumbered numbers) qs [] (λ k h. All-from_get_or (HasNumber numbers) (get_or qs k []) 0
    (λ j l. right.has (get_or (get_or qs k []) j 0) (order.named (get_or qs k []) (In-get_or qs k [] h) (get_or (get_or qs k []) j 0)
    (In-get_or (get_or qs k []) j 0 l))))
