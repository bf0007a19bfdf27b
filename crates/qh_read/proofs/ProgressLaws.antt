-- The words of a completely read file: the numbers of a header, and the coordinates that it announces.
use Rattle.qh_model.proofs.Common.{◌≡◌, ◌≢◌, ◌∙◌, ◌++◌, [], ◌∷◌, ◌*◌, ◌≤◌, ◌&&◌, ℕ, List, Bool, true, false, cond, refl, ap, sym, arith, zero, suc, min, length}
use Rattle.qh_model.proofs.Common.{map, inl, inr, append_assoc, subst, length-append, leb-true, nat_tests, append-nil, AllByRecursion, ℤ, codes, pos, negsuc}
use Rattle.qh_model.proofs.Common.{Option, Some, None, option_map, nat_le, bytes_eq, is_three, IsCoordinate, is_coordinate, number_of, Reads, coordinates}
use Rattle.qh_model.proofs.{Common.Vector, Common.Word, Common.data_words, ReadingLaws.numbers, ReadingLaws.thrice}
use Rattle.qh_model.specs.declared.limits.TheConstants.{BYTE_LIMIT, COORDINATE_LIMIT, POINT_LIMIT}
use Rattle.qh_model.specs.{declared.read_fault.ReadFault.ReadFault, headline.PointFile.IsHeader}
use Rattle.qh_read.specs.contract.Progress.{Progress, wants_first, wants_second, wants, fails, counted, headed, took, after, after_number}
use Rattle.qh_read.specs.{declared.builder.Pending.Pending, contract.Tokens.cap, steps.Building.filled_in, steps.SmallTokens.capped, steps.Stages.pending_list}
use Rattle.qh_read.specs.declared.builder.Trailing.{Trailing, TheVariants.Refused, TheVariants.Ignored}
use Rattle.qh_model.specs.declared.read_fault.ReadFault.TheVariants as faults
use Rattle.qh_read.specs.declared.builder.Pending.TheVariants as pendings

-- the number of a word, capped
abbrev pub number_in : Word → Option ℤ
number_in w = option_map capped (number_of w.text)

-- a word is `OFF`
abbrev pub is_off : Word → Bool
is_off w = bytes_eq w.text (codes "OFF")

-- the progress after these words
abbrev pub judged : Progress → List Word → Progress
judged p [] = p
judged p (w ∷ ws) = judged (after p (is_off w) (number_in w) w.line) ws

pub judged-append : (p : Progress) (ws vs : List Word) → judged p (ws ++ vs) ≡ judged (judged p ws) vs
judged-append p [] vs = refl
judged-append p (w ∷ ws) vs = judged-append (after p (is_off w) (number_in w) w.line) ws vs

pub stays : (f : ReadFault) (ws : List Word) → judged (fails f) ws ≡ fails f
stays f [] = refl
stays f (w ∷ ws) = stays f ws

in_limit : (z : ℤ) → is_coordinate (capped z) ≡ true → (capped z ≡ z) × IsCoordinate z
in_limit (pos n) h =
    let small : cap n ≤ COORDINATE_LIMIT = leb-true _ _ h in
    let same : cap n ≡ n = omega arith in
    (ap pos same, omega arith)
in_limit (negsuc n) h =
    let small : suc (min n COORDINATE_LIMIT) ≤ COORDINATE_LIMIT = leb-true _ _ h in
    let same : min n COORDINATE_LIMIT ≡ n = omega arith in
    (ap negsuc same, omega arith)

-- the words are k coordinates
pub record Filled (ws : List Word) (k : ℕ) (t u : List ℤ) : Type 0 where
  pub more : List ℤ
  pub are : numbers ws ≡ map Some more
  pub all : u ≡ t ++ more
  pub count : length more ≡ k
  pub limit : AllByRecursion IsCoordinate more

-- an accepted coordinate is in range, and distinguished from others
in_range : (next : List ℤ → Progress) (ws : List Word) (t u : List ℤ) (line : ℕ) (z : ℤ) → filled_in (judged (took next t line (capped z)) ws) ≡ Some u
    → (capped z ≡ z) × IsCoordinate z × (filled_in (judged (next (t ++ capped z ∷ [])) ws) ≡ Some u)
in_range next ws t u line z h =
    elim (is_coordinate (capped z)) as (λ b. is_coordinate (capped z) ≡ b
    → filled_in (judged (cond b (next (t ++ capped z ∷ [])) (fails (faults.Range line))) ws) ≡ Some u
    → (capped z ≡ z) × IsCoordinate z × (filled_in (judged (next (t ++ capped z ∷ [])) ws) ≡ Some u))
    [ true ↦ λ c k. let l = in_limit z c in (l.0, l.1, k) | false ↦ λ c k. cc (ap filled_in (stays (faults.Range line) ws)) ] refl h

-- one coordinate before others
filled_more : (w : Word) (ws : List Word) (k : ℕ) (t u : List ℤ) (z : ℤ) → number_of w.text ≡ Some z → capped z ≡ z → IsCoordinate z
    → Filled ws k (t ++ capped z ∷ []) u → Filled (w ∷ ws) (suc k) t u
filled_more w ws k t u z e same l f = record {
  more = z ∷ f.more;
  are = cc (f.are, e);
  all = f.all ∙ append_assoc t (capped z ∷ []) f.more ∙ ap (λ y. t ++ (y ∷ f.more)) same;
  count = ap suc f.count;
  limit = (l, f.limit);
}

-- ignored words after the coordinates change nothing
pub dropped : (t : List ℤ) (ws : List Word) → judged (wants Ignored 0 t) ws ≡ wants Ignored 0 t
dropped t [] = refl
dropped t (w ∷ ws) = dropped t ws

-- the first words are k coordinates; no word follows if trailing words are refused
pub record FrontFilled (trailing : Trailing) (ws : List Word) (k : ℕ) (t u : List ℤ) : Type 0 where
  pub front : List Word
  pub rest : List Word
  pub are : ws ≡ front ++ rest
  pub last : trailing ≡ Refused → rest ≡ []
  pub filled : Filled front k t u

front_filled : (trailing : Trailing) (ws : List Word) (k : ℕ) (t u : List ℤ) → filled_in (judged (wants trailing k t) ws) ≡ Some u
    → FrontFilled trailing ws k t u
front_filled trailing [] zero t u h =
    record { front = []; rest = []; are = refl; last = λ e. refl; filled = record { more = []; are = refl; all = cc (append-nil t); count = refl; limit = tt } }
front_filled Refused (w ∷ ws) zero t u h = cc (ap filled_in (stays (faults.Long w.line) ws))
front_filled Ignored (w ∷ ws) zero t u h =
    let told : Some t ≡ Some u = sym (ap filled_in (dropped t ws)) ∙ h in
    record {
      front = [];
      rest = w ∷ ws;
      are = refl;
      last = λ e. cc;
      filled = record { more = []; are = refl; all = cc (append-nil t, told); count = refl; limit = tt };
    }
front_filled trailing [] (suc k) t u h = cc
front_filled trailing (w ∷ ws) (suc k) t u h =
    elim (number_of w.text) as (λ o. number_of w.text ≡ o
    → filled_in (judged (after (wants trailing (suc k) t) (is_off w) (option_map capped o) w.line) ws) ≡ Some u → FrontFilled trailing (w ∷ ws) (suc k) t u) [
      | None ↦ λ e h. cc (ap filled_in (stays (faults.BadNumber w.line) ws))
      | Some z ↦ λ e h.
          let taken = in_range (wants trailing k) ws t u w.line z h in
          let others = front_filled trailing ws k (t ++ capped z ∷ []) u taken.2 in
          record {
            front = w ∷ others.front;
            rest = others.rest;
            are = ap (λ (x : List Word). w ∷ x) others.are;
            last = others.last;
            filled = filled_more w others.front k t u z e taken.0 taken.1 others.filled;
          }
    ] refl h

-- a number of points, and their coordinates
pub record Counts (trailing : Trailing) (ws : List Word) (u : List ℤ) (z : ℤ) : Type 0 where
  pub n : ℕ
  pub is : z ≡ pos n
  pub some : 1 ≤ n
  pub few : n ≤ POINT_LIMIT
  pub file : FrontFilled trailing ws (3 * n) [] u

pub counts : (trailing : Trailing) (ws : List Word) (u : List ℤ) (z : ℤ) → filled_in (judged (counted trailing (capped z)) ws) ≡ Some u
    → Counts trailing ws u z
counts trailing ws u (negsuc n) h = cc (ap filled_in (stays faults.Count ws))
counts trailing ws u (pos n) h = in_limits (nat_le 1 (cap n) && nat_le (cap n) POINT_LIMIT) refl h
  where
    in_limits : (b : Bool) → (nat_le 1 (cap n) && nat_le (cap n) POINT_LIMIT) ≡ b
        → filled_in (judged (cond b (wants trailing (3 * cap n) []) (fails faults.Count)) ws) ≡ Some u → Counts trailing ws u (pos n)
    in_limits false e h = cc (ap filled_in (stays faults.Count ws))
    in_limits true e h =
        let range : (1 ≤ cap n) × (cap n ≤ POINT_LIMIT) = grind (arith, nat_tests) in
        let same : cap n ≡ n = omega arith in
        record {
          n = n;
          is = refl;
          some = omega arith;
          few = omega arith;
          file = subst (λ (k : ℕ). FrontFilled trailing ws (3 * k) [] u) same (front_filled trailing ws (3 * cap n) [] u h);
        }

-- a number of the header, and the words after it
pub record Numbered (next : ℤ → Progress) (ws : List Word) (u : List ℤ) : Type 0 where
  pub w : Word
  pub rest : List Word
  pub z : ℤ
  pub are : ws ≡ w ∷ rest
  pub number : number_of w.text ≡ Some z
  pub filled : filled_in (judged (next (capped z)) rest) ≡ Some u

pub numbered : (p : Progress) (next : ℤ → Progress) → filled_in p ≡ None
    → ((keyword : Bool) (o : Option ℤ) (line : ℕ) → after p keyword o line ≡ after_number next o line)
    → (ws : List Word) (u : List ℤ) → filled_in (judged p ws) ≡ Some u → Numbered next ws u
numbered p next none asks [] u h = cc none
numbered p next none asks (w ∷ ws) u h =
    elim (number_of w.text) as (λ o. number_of w.text ≡ o → filled_in (judged (after_number next (option_map capped o) w.line) ws) ≡ Some u
    → Numbered next (w ∷ ws) u) [
      | None ↦ λ e h. cc (ap filled_in (stays (faults.BadNumber w.line) ws))
      | Some z ↦ λ e h. record { w = w; rest = ws; z = z; are = refl; number = e; filled = h }
    ] refl (sym (ap (λ (q : Progress). filled_in (judged q ws)) (asks (is_off w) (number_in w) w.line)) ∙ h)

-- whole points alone have three coordinates each
pub none_left : (ps : List Vector) (q : Pending) (k : ℕ) → length (coordinates ps ++ pending_list q) ≡ 3 * k
    → (coordinates ps ++ pending_list q ≡ coordinates ps) × (length ps ≡ k)
none_left ps pendings.Zero k h = (append-nil (coordinates ps), omega (arith, thrice ps, length-append (coordinates ps) []))
none_left ps (pendings.One x) k h = absurd (omega (arith, thrice ps, length-append (coordinates ps) (x.value ∷ [])))
none_left ps (pendings.Two x y) k h = absurd (omega (arith, thrice ps, length-append (coordinates ps) (x.value ∷ y.value ∷ [])))

-- ---- a point file
three : (z : ℤ) → is_three (capped z) ≡ true → z ≡ pos 3
three (pos n) h = let e : cap n ≡ 3 = grind (arith, nat_tests) in ap pos (omega arith)
three (negsuc n) h = cc

not_three : (z : ℤ) → is_three (capped z) ≡ false → z ≢ pos 3
not_three z h e = let at : is_three (capped (pos 3)) ≡ false = subst (λ (y : ℤ). is_three (capped y) ≡ false) e h in cc

-- which of two numbers is the number of points
record Header (a b : ℤ) (ws : List Word) (u : List ℤ) : Type 0 where
  z : ℤ
  counted : Counts Refused ws u z
  header : (n : ℕ) → z ≡ pos n → IsHeader a b n

header : (a b : ℤ) (ws : List Word) (u : List ℤ) → filled_in (judged (headed (capped a) (capped b)) ws) ≡ Some u → Header a b ws u
header a b ws u h = tested (is_three (capped a)) (is_three (capped b)) refl refl h
  where
    tested : (p q : Bool) → is_three (capped a) ≡ p → is_three (capped b) ≡ q
        → filled_in (judged (cond p (counted Refused (capped b)) (cond q (counted Refused (capped a)) (fails faults.NotThree))) ws) ≡ Some u → Header a b ws u
    tested true q pe qe h = record { z = b; counted = counts Refused ws u b h; header = λ n is. inl (three a pe, is) }
    tested false true pe qe h = record { z = a; counted = counts Refused ws u a h; header = λ n is. inr (not_three a pe, three b qe, is) }
    tested false false pe qe h = cc (ap filled_in (stays faults.NotThree ws))

-- two numbers of a header, and the coordinates that they announce
made : (bs : List ℕ) (ps : List Vector) (q : Pending) → length bs ≤ BYTE_LIMIT → let u = coordinates ps ++ pending_list q in
    (first : Numbered wants_second (data_words bs) u) (second : Numbered (headed (capped first.z)) first.rest u)
    → Header first.z second.z second.rest u → Reads bs ps
made bs ps q small first second header =
    let file = header.counted.file in
    let all : coordinates ps ++ pending_list q ≡ file.filled.more = file.filled.all in
    let left = none_left ps q header.counted.n (ap length all ∙ file.filled.count) in
    let many : length ps ≡ header.counted.n = left.1 in
    let points : coordinates ps ≡ file.filled.more = sym left.0 ∙ all in
    let last : second.rest ≡ file.front = file.are ∙ ap (λ (x : List Word). file.front ++ x) (file.last refl) ∙ append-nil file.front in
    let words : data_words bs ≡ first.w ∷ second.w ∷ file.front = cc (first.are, second.are, last) in
    record {
      small = small;
      first = first.z;
      second = second.z;
      numbers = cc (words, first.number, second.number, file.filled.are, points);
      header = subst (IsHeader first.z second.z) (sym many) (header.header header.counted.n header.counted.is);
      some = omega (arith, header.counted.some, many);
      few = omega (arith, header.counted.few, many);
      limit = subst (AllByRecursion IsCoordinate) (sym points) file.filled.limit;
    }

-- if everything that the header announces was read, the points are those of the point file
pub reads_points : (bs : List ℕ) (ps : List Vector) (q : Pending) → length bs ≤ BYTE_LIMIT
    → filled_in (judged wants_first (data_words bs)) ≡ Some (coordinates ps ++ pending_list q) → Reads bs ps
reads_points bs ps q small h =
    let u = coordinates ps ++ pending_list q in
    let first = numbered wants_first wants_second refl (λ keyword o line. refl) (data_words bs) u h in
    let second = numbered (wants_second (capped first.z)) (headed (capped first.z)) refl (λ keyword o line. refl) first.rest u first.filled in
    made bs ps q small first second (header first.z second.z second.rest u second.filled)
