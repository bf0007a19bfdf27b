-- A byte string has one list of points as an OFF file, or one fault.
use Rattle.qh_model.proofs.Common.{◌≡◌, ◌∙◌, [], ◌∷◌, ◌++◌, ◌≤◌, ◌⊎◌, ℕ, List, Bool, true, false, cond, refl, ap, sym, arith, suc, length, map, subst, nat_lt}
use Rattle.qh_model.proofs.Common.{nat_tests, same_text, AllByRecursion, ℤ, pos, codes, Some, None, bytes_eq, POINT_LIMIT, BYTE_LIMIT, ReadFault, Big, NotOff}
use Rattle.qh_model.proofs.Common.{IsCoordinate, number_of, off_words, ReadsOff, coordinates, Vector, Word}
use Rattle.qh_model.specs.headline.OffFault.{counts_fault, off_words_fault, first_off_fault}
use Rattle.qh_model.proofs.ReadingLaws.{numbers, same_some, same_points, counted, next_number, grouped, thrice, counted_clear, next_clear, not_big}
use Rattle.qh_model.proofs.ReadingLaws.{list_or_fault}

-- ---- one list at most
same_front : (us bs xs ys : List Word) → length us ≡ length bs → us ++ xs ≡ bs ++ ys → us ≡ bs
same_front [] [] xs ys n e = refl
same_front [] (b ∷ bs) xs ys n e = absurd (omega arith)
same_front (a ∷ us) [] xs ys n e = absurd (omega arith)
same_front (a ∷ us) (b ∷ bs) xs ys n e =
    let fewer : length us ≡ length bs = omega arith in
    let head : a ≡ b = cc in
    let rest : us ++ xs ≡ bs ++ ys = cc in
    let tail : us ≡ bs = same_front us bs xs ys fewer rest in cc

-- words that read as a list of numbers have the length of that list
many : (ws : List Word) (zs : List ℤ) → numbers ws ≡ map Some zs → length ws ≡ length zs
many [] [] e = refl
many [] (z ∷ zs) e = cc
many (w ∷ ws) [] e = cc
many (w ∷ ws) (z ∷ zs) e = let rest : numbers ws ≡ map Some zs = cc in ap suc (many ws zs rest)

-- the first numbers of two files with the same words are equal
same_first : (us bs xs ys : List Word) (m n : ℤ) (ms ns : List ℤ) → us ++ xs ≡ bs ++ ys → numbers us ≡ map Some (m ∷ ms)
    → numbers bs ≡ map Some (n ∷ ns) → m ≡ n
same_first [] bs xs ys m n ms ns e f g = cc
same_first (a ∷ us) [] xs ys m n ms ns e f g = cc
same_first (a ∷ us) (b ∷ bs) xs ys m n ms ns e f g =
    let word : a ≡ b = cc in
    let left : number_of a.text ≡ Some m = cc in
    let right : number_of b.text ≡ Some n = cc in
    let same : number_of a.text ≡ number_of b.text = ap (λ (w : Word). number_of w.text) word in cc

pub one_reading : (bytes : List ℕ) (ps qs : List Vector) → ReadsOff bytes ps → ReadsOff bytes qs → ps ≡ qs
one_reading bytes ps qs a b =
    let words : a.keyword ∷ a.numbered ++ a.rest ≡ b.keyword ∷ b.numbered ++ b.rest = sym a.words ∙ b.words in
    let after : a.numbered ++ a.rest ≡ b.numbered ++ b.rest = cc in
    let counts : pos (length ps) ≡ pos (length qs) =
    same_first a.numbered b.numbered a.rest b.rest (pos (length ps)) (pos (length qs))
    (a.faces ∷ a.edges ∷ coordinates ps) (b.faces ∷ b.edges ∷ coordinates qs) after a.numbers b.numbers in
    let count : length ps ≡ length qs = cc in
    let left = many a.numbered (pos (length ps) ∷ a.faces ∷ a.edges ∷ coordinates ps) a.numbers in
    let right = many b.numbered (pos (length qs) ∷ b.faces ∷ b.edges ∷ coordinates qs) b.numbers in
    let as_many : length a.numbered ≡ length b.numbered = omega (arith, left, right, thrice ps, thrice qs, count) in
    let front : a.numbered ≡ b.numbered = same_front a.numbered b.numbered a.rest b.rest as_many after in
    let all : pos (length ps) ∷ a.faces ∷ a.edges ∷ coordinates ps ≡ pos (length qs) ∷ b.faces ∷ b.edges ∷ coordinates qs =
    same_some _ _ (sym a.numbers ∙ ap numbers front ∙ b.numbers) in
    let same : coordinates ps ≡ coordinates qs = cc in
    same_points ps qs same

-- ---- some list, or a fault
-- the words after the keyword
record Numbered (ws : List Word) : Type 0 where
  points : List Vector
  numbered : List Word
  rest : List Word
  are : ws ≡ numbered ++ rest
  faces : ℤ
  edges : ℤ
  numbers : numbers numbered ≡ map Some (pos (length points) ∷ faces ∷ edges ∷ coordinates points)
  some : 1 ≤ length points
  few : length points ≤ POINT_LIMIT
  limit : AllByRecursion IsCoordinate (coordinates points)

numbered : (ws : List Word) → counts_fault ws ≡ None → Numbered ws
numbered ws h =
    let v = next_number _ ws h in
    let f = next_number _ v.rest v.clear in
    let e = next_number _ f.rest f.clear in
    let c = counted _ v.z e.rest e.clear in
    let g = grouped c.n c.filled.all c.filled.count in
    let same : coordinates g.points ≡ c.filled.all = g.are in
    let count : length g.points ≡ c.n = g.count in
    let first : number_of v.w.text ≡ Some (pos (length g.points)) = v.number ∙ ap Some (c.is ∙ ap pos (sym count)) in
    record {
      points = g.points;
      numbered = v.w ∷ f.w ∷ e.w ∷ c.filled.front;
      rest = c.filled.rest;
      are = v.are ∙ ap (λ (t : List Word). v.w ∷ t) (f.are ∙ ap (λ (t : List Word). f.w ∷ t) (e.are ∙ ap (λ (t : List Word). e.w ∷ t) c.filled.whole));
      faces = f.z;
      edges = e.z;
      numbers = cc (first, f.number, e.number, c.filled.are, same);
      some = omega (arith, c.some, count);
      few = omega (arith, c.few, count);
      limit = subst (AllByRecursion IsCoordinate) (sym same) c.filled.limit;
    }

whole : (bytes : List ℕ) (ws : List Word) → length bytes ≤ BYTE_LIMIT → off_words bytes ≡ ws → off_words_fault ws ≡ None
    → (ps : List Vector) × ReadsOff bytes ps
whole bytes [] small e h = cc
whole bytes (w ∷ ws) small e h = by_test (bytes_eq w.text (codes "OFF")) refl h
  where
    by_test : (b : Bool) → bytes_eq w.text (codes "OFF") ≡ b → cond b (counts_fault ws) (Some NotOff) ≡ None → (ps : List Vector) × ReadsOff bytes ps
    by_test false t h = cc
    by_test true t h =
        let r = numbered ws h in (
          r.points,
          record {
            small = small;
            keyword = w;
            numbered = r.numbered;
            rest = r.rest;
            words = e ∙ ap (λ (t : List Word). w ∷ t) r.are;
            is_off = same_text w.text (codes "OFF") (sym t);
            faces = r.faces;
            edges = r.edges;
            numbers = r.numbers;
            some = r.some;
            few = r.few;
            limit = r.limit;
          },
        )

pub one_or_other : (bytes : List ℕ) → ((ps : List Vector) × ReadsOff bytes ps × (first_off_fault bytes ≡ None))
    ⊎ ((f : ReadFault) × (first_off_fault bytes ≡ Some f))
one_or_other bytes = list_or_fault (ReadsOff bytes) (first_off_fault bytes) (small (nat_lt BYTE_LIMIT (length bytes)) refl)
  where
    small : (b : Bool) → nat_lt BYTE_LIMIT (length bytes) ≡ b
        → cond b (Some Big) (off_words_fault (off_words bytes)) ≡ None → (ps : List Vector) × ReadsOff bytes ps
    small true e h = cc
    small false e h = whole bytes (off_words bytes) (grind (arith, nat_tests)) refl h

-- ---- never both
counts_clear : (ws rest : List Word) (faces edges : ℤ) (ps : List Vector) → numbers ws ≡ map Some (pos (length ps) ∷ faces ∷ edges ∷ coordinates ps)
    → 1 ≤ length ps → length ps ≤ POINT_LIMIT → AllByRecursion IsCoordinate (coordinates ps) → counts_fault (ws ++ rest) ≡ None
counts_clear [] rest faces edges ps e some few l = cc
counts_clear (v ∷ []) rest faces edges ps e some few l = cc
counts_clear (v ∷ f ∷ []) rest faces edges ps e some few l = cc
counts_clear (v ∷ f ∷ g ∷ ws) rest faces edges ps e some few l =
    let first : number_of v.text ≡ Some (pos (length ps)) = cc in
    let second : number_of f.text ≡ Some faces = cc in
    let third : number_of g.text ≡ Some edges = cc in
    let tail : numbers ws ≡ map Some (coordinates ps) = cc in
    next_clear _ v (f ∷ g ∷ (ws ++ rest)) (pos (length ps)) first (next_clear _ f (g ∷ (ws ++ rest)) faces second (next_clear _ g (ws ++ rest) edges third
    (counted_clear _ ps ws rest tail some few l refl)))

pub never_both : (bytes : List ℕ) (ps : List Vector) → ReadsOff bytes ps → first_off_fault bytes ≡ None
never_both = grind (arith, counts_clear, numbered, numbers, not_big)
