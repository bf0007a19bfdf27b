-- A byte string is the point file of one list of points, or has one fault.
use Rattle.qh_model.proofs.Common.{◌≡◌, ◌∙◌, [], ◌∷◌, ◌++◌, ◌≤◌, ◌⊎◌, ℕ, List, Bool, true, false, cond, refl, ap, sym, arith, length, map, inl, inr, subst}
use Rattle.qh_model.proofs.Common.{nat_lt, nat_tests, append-nil, AllByRecursion, ℤ, pos, Some, None, POINT_LIMIT, BYTE_LIMIT, ReadFault, NotThree, Big}
use Rattle.qh_model.proofs.Common.{is_three, counted_fault, first_fault, IsCoordinate, number_of, coordinates, Reads, Vector, Word, data_words}
use Rattle.qh_model.specs.headline.{FileFault.long_fault, FileFault.headed_fault, FileFault.words_fault, PointFile.IsHeader}
use Rattle.qh_model.proofs.ReadingLaws.{same_some, same_points, numbers, Counted, counted, next_number, grouped, counted_clear, next_clear, not_big}
use Rattle.qh_model.proofs.ReadingLaws.{list_or_fault}

-- a byte string is the file of one list of points at most
pub one_reading : (bytes : List ℕ) (ps qs : List Vector) → Reads bytes ps → Reads bytes qs → ps ≡ qs
one_reading = grind (arith, same_some, numbers, same_points)

three : (z : ℤ) → is_three z ≡ true → z ≡ pos 3
three = grind arith

record Whole (ws : List Word) : Type 0 where
  first : ℤ
  second : ℤ
  points : List Vector
  are : numbers ws ≡ map Some (first ∷ second ∷ coordinates points)
  header : IsHeader first second (length points)
  some : 1 ≤ length points
  few : length points ≤ POINT_LIMIT
  limit : AllByRecursion IsCoordinate (coordinates points)

-- no word follows the last coordinate
none_long : (ws : List Word) → long_fault ws ≡ None → ws ≡ []
none_long = grind arith

made : (w v : Word) (vs : List Word) (a b z : ℤ) → number_of w.text ≡ Some a → number_of v.text ≡ Some b → ((n : ℕ) → z ≡ pos n → IsHeader a b n)
    → Counted long_fault z vs → Whole (w ∷ v ∷ vs)
made w v vs a b z e f header c =
    let g = grouped c.n c.filled.all c.filled.count in
    let same : coordinates g.points ≡ c.filled.all = g.are in
    let many : length g.points ≡ c.n = g.count in
    let front : vs ≡ c.filled.front = c.filled.whole
    ∙ ap (λ (t : List Word). c.filled.front ++ t) (none_long c.filled.rest c.filled.clear)
    ∙ append-nil c.filled.front in
    let rest : numbers vs ≡ map Some c.filled.all = ap numbers front ∙ c.filled.are in
    record {
      first = a;
      second = b;
      points = g.points;
      are = cc (e, f, rest, same);
      header = subst (IsHeader a b) (sym many) (header c.n c.is);
      some = omega (arith, c.some, many);
      few = omega (arith, c.few, many);
      limit = subst (AllByRecursion IsCoordinate) (sym same) c.filled.limit;
    }

whole : (ws : List Word) → words_fault ws ≡ None → Whole ws
whole ws h = let w = next_number _ ws h in let v = next_number _ w.rest w.clear in
    subst Whole (sym (w.are ∙ ap (λ (t : List Word). w.w ∷ t) v.are))
    (head w.w v.w v.rest w.z v.z w.number v.number (is_three w.z) (is_three v.z) refl refl v.clear)
  where
    head : (w v : Word) (vs : List Word) (a b : ℤ) → number_of w.text ≡ Some a → number_of v.text ≡ Some b → (p q : Bool) → is_three a ≡ p → is_three b ≡ q
        → cond p (counted_fault long_fault b vs) (cond q (counted_fault long_fault a vs) (Some NotThree)) ≡ None → Whole (w ∷ v ∷ vs)
    head w v vs a b e f true q pe qe h = made w v vs a b b e f (λ n is. inl (three a pe, is)) (counted long_fault b vs h)
    head w v vs a b e f false true pe qe h =
        made w v vs a b a e f
        (λ n is. inr ((λ t. let at : is_three (pos 3) ≡ false = subst (λ (y : ℤ). is_three y ≡ false) t pe in cc), three b qe, is)) (counted long_fault a vs h)
    head w v vs a b e f false false pe qe h = cc

-- a byte string is the file of some points, or it has a fault
pub one_or_other : (bytes : List ℕ) → ((ps : List Vector) × Reads bytes ps × (first_fault bytes ≡ None)) ⊎ ((f : ReadFault) × (first_fault bytes ≡ Some f))
one_or_other bytes = list_or_fault (Reads bytes) (first_fault bytes) (small (nat_lt BYTE_LIMIT (length bytes)) refl)
  where
    small : (b : Bool) → nat_lt BYTE_LIMIT (length bytes) ≡ b → cond b (Some Big) (words_fault (data_words bytes)) ≡ None → (ps : List Vector) × Reads bytes ps
    small true e h = cc
    small false e h =
        let w = whole (data_words bytes) h in (
          w.points,
          record {
            small = grind (arith, nat_tests);
            first = w.first;
            second = w.second;
            numbers = w.are;
            header = w.header;
            some = w.some;
            few = w.few;
            limit = w.limit;
          },
        )

headed_clear : (a b : ℤ) (n : ℕ) (ws : List Word) → IsHeader a b n → counted_fault long_fault (pos n) ws ≡ None → headed_fault a b ws ≡ None
headed_clear = grind arith

words_clear : (ws : List Word) (a b : ℤ) (ps : List Vector) → numbers ws ≡ map Some (a ∷ b ∷ coordinates ps) → IsHeader a b (length ps)
    → 1 ≤ length ps → length ps ≤ POINT_LIMIT → AllByRecursion IsCoordinate (coordinates ps) → words_fault ws ≡ None
words_clear [] a b ps e header some few l = cc
words_clear (w ∷ []) a b ps e header some few l = cc
words_clear (w ∷ v ∷ ws) a b ps e header some few l =
    let head : number_of w.text ≡ Some a = cc in
    let next : number_of v.text ≡ Some b = cc in
    let rest : numbers ws ≡ map Some (coordinates ps) = cc in
    let none : counted_fault long_fault (pos (length ps)) ws ≡ None =
    subst (λ (t : List Word). counted_fault long_fault (pos (length ps)) t ≡ None) (append-nil ws) (counted_clear long_fault ps ws [] rest some few l refl) in
    next_clear _ w (v ∷ ws) a head (next_clear _ v ws b next (headed_clear a b (length ps) ws header none))

-- a byte string is never both
pub never_both : (bytes : List ℕ) (ps : List Vector) → Reads bytes ps → first_fault bytes ≡ None
never_both = grind (arith, not_big, words_clear, numbers)
