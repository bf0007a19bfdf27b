-- The values of the words of a file: numbers, coordinates, a count with its points; and the condition that they have no fault.
use Rattle.qh_model.proofs.Common.{AllByRecursion, BYTE_LIMIT, Bool, Count, IsCoordinate, List, None, Option, POINT_LIMIT, ReadFault, Some, Vector, Word, rules}
use Rattle.qh_model.proofs.Common.{[], ap, arith, cond, coordinates, counted_fault, false, length, map, nat_le, nat_lt, nat_tests}
use Rattle.qh_model.proofs.Common.{next_number_fault, number_of, option_or, pos, refl, subst, suc, sym, true, zero, ℕ, ℤ, ◌&&◌, ◌*◌, ◌++◌, ◌∷◌, ◌≡◌}
use Rattle.qh_model.proofs.{Common.◌≤◌, Common.◌⊎◌, algebra.VectorIdentities.vector_path}
use Rattle.qh_model.specs.headline.FileFault.{coordinate_fault, coordinates_fault, number_fault}

pub same_some : (xs ys : List ℤ) → map Some xs ≡ map Some ys → xs ≡ ys
same_some [] [] h = refl
same_some [] (y ∷ ys) h = cc
same_some (x ∷ xs) [] h = cc
same_some (x ∷ xs) (y ∷ ys) h =
    let head : x ≡ y = cc in
    let rest : map Some xs ≡ map Some ys = cc in
    let tail : xs ≡ ys = same_some xs ys rest in cc

pub same_points : (ps qs : List Vector) → coordinates ps ≡ coordinates qs → ps ≡ qs
same_points [] [] h = refl
same_points [] (q ∷ qs) h = cc
same_points (p ∷ ps) [] h = cc
same_points (p ∷ ps) (q ∷ qs) h =
    let x : p.x ≡ q.x = cc in
    let y : p.y ≡ q.y = cc in
    let z : p.z ≡ q.z = cc in
    let rest : coordinates ps ≡ coordinates qs = cc in
    let tail : ps ≡ qs = same_points ps qs rest in
    let head : p ≡ q = vector_path p q x y z in cc

abbrev pub numbers : List Word → List (Option ℤ)
numbers ws = map (λ w. number_of w.text) ws

-- the first words are k coordinates, and the rest has no fault
pub record Filled (after : List Word → Option ReadFault) (ws : List Word) (k : ℕ) : Type 0 where
  pub front : List Word
  pub rest : List Word
  pub whole : ws ≡ front ++ rest
  pub all : List ℤ
  pub are : numbers front ≡ map Some all
  pub count : length all ≡ k
  pub limit : AllByRecursion IsCoordinate all
  pub clear : after rest ≡ None

-- a coordinate without a fault, and the words after it
in_range : (w : Word) (after : Option ReadFault) → option_or (coordinate_fault (number_of w.text) w.line) after ≡ None
    → (z : ℤ) × (number_of w.text ≡ Some z) × IsCoordinate z × (after ≡ None)
in_range = search rules

pub filled : (after : List Word → Option ReadFault) (k : ℕ) (ws : List Word) → coordinates_fault after k ws ≡ None → Filled after ws k
filled after zero ws h = record { front = []; rest = ws; whole = refl; all = []; are = refl; count = refl; limit = tt; clear = h }
filled after (suc k) [] h = cc
filled after (suc k) (w ∷ ws) h =
    let r = in_range w (coordinates_fault after k ws) h in
    let f = filled after k ws r.3 in
    record {
      front = w ∷ f.front;
      rest = f.rest;
      whole = ap (λ (t : List Word). w ∷ t) f.whole;
      all = r.0 ∷ f.all;
      are = cc (f.are, r.1);
      count = ap suc f.count;
      limit = (r.2, f.limit);
      clear = f.clear;
    }

-- the triples of a list
pub record Grouped (zs : List ℤ) (n : ℕ) : Type 0 where
  pub points : List Vector
  pub are : coordinates points ≡ zs
  pub count : length points ≡ n

pub grouped : (n : ℕ) (zs : List ℤ) → length zs ≡ 3 * n → Grouped zs n
grouped zero [] h = record { points = []; are = refl; count = refl }
grouped zero (z ∷ zs) h = absurd (omega arith)
grouped (suc n) [] h = absurd (omega arith)
grouped (suc n) (x ∷ []) h = absurd (omega arith)
grouped (suc n) (x ∷ y ∷ []) h = absurd (omega arith)
grouped (suc n) (x ∷ y ∷ z ∷ zs) h =
    let fewer : length zs ≡ 3 * n = omega arith in
    let g = grouped n zs fewer in
    record { points = record { x = x; y = y; z = z } ∷ g.points; are = ap (λ (t : List ℤ). x ∷ y ∷ z ∷ t) g.are; count = ap suc g.count }

-- a count in range, and its coordinates
pub record Counted (after : List Word → Option ReadFault) (z : ℤ) (ws : List Word) : Type 0 where
  pub n : ℕ
  pub is : z ≡ pos n
  pub some : 1 ≤ n
  pub few : n ≤ POINT_LIMIT
  pub filled : Filled after ws (3 * n)

pub counted : (after : List Word → Option ReadFault) (z : ℤ) (ws : List Word) → counted_fault after z ws ≡ None → Counted after z ws
counted = grind (arith, filled)

-- the next word is a number
pub record NextNumber (after : ℤ → List Word → Option ReadFault) (ws : List Word) : Type 0 where
  pub w : Word
  pub rest : List Word
  pub z : ℤ
  pub are : ws ≡ w ∷ rest
  pub number : number_of w.text ≡ Some z
  pub clear : after z rest ≡ None

pub next_number : (after : ℤ → List Word → Option ReadFault) (ws : List Word) → next_number_fault after ws ≡ None → NextNumber after ws
next_number = grind arith

-- a coordinate in range has no fault
clear_more : (w : Word) (z : ℤ) (after : Option ReadFault) → number_of w.text ≡ Some z → IsCoordinate z → after ≡ None
    → option_or (coordinate_fault (number_of w.text) w.line) after ≡ None
clear_more = grind arith

-- coordinates in range have no fault, if the words after them have none
clear : (after : List Word → Option ReadFault) (zs : List ℤ) (ws rest : List Word) → numbers ws ≡ map Some zs
    → AllByRecursion IsCoordinate zs → after rest ≡ None
    → coordinates_fault after (length zs) (ws ++ rest) ≡ None
clear after [] [] rest e l h = h
clear after [] (w ∷ ws) rest e l h = cc
clear after (z ∷ zs) [] rest e l h = cc
clear after (z ∷ zs) (w ∷ ws) rest e l h =
    let head : number_of w.text ≡ Some z = cc in
    let tail : numbers ws ≡ map Some zs = cc in
    clear_more w z (coordinates_fault after (length zs) (ws ++ rest)) head l.0 (clear after zs ws rest tail l.1 h)

-- a point has three coordinates
pub thrice : (ps : List Vector) → length (coordinates ps) ≡ 3 * length ps
thrice [] = refl
thrice (p ∷ ps) = let rest : length (coordinates ps) ≡ 3 * length ps = thrice ps in omega (arith, rest)

-- a count in range and its coordinates have no fault, if the words after them have none
pub counted_clear : (after : List Word → Option ReadFault) (ps : List Vector) (ws rest : List Word) → numbers ws ≡ map Some (coordinates ps)
    → 1 ≤ length ps → length ps ≤ POINT_LIMIT → AllByRecursion IsCoordinate (coordinates ps) → after rest ≡ None
    → counted_fault after (pos (length ps)) (ws ++ rest) ≡ None
counted_clear after ps ws rest e some few l h =
    let n = length ps in
    let range : (nat_le 1 n && nat_le n POINT_LIMIT) ≡ true = grind (arith, nat_tests) in
    let none : coordinates_fault after (3 * n) (ws ++ rest) ≡ None =
    subst (λ (k : ℕ). coordinates_fault after k (ws ++ rest) ≡ None) (thrice ps) (clear after (coordinates ps) ws rest e l h) in
    subst (λ (b : Bool). cond b (coordinates_fault after (3 * n) (ws ++ rest)) (Some Count) ≡ None) (sym range) none

-- a number of the header has no fault, if the words after it have none
pub next_clear : (after : ℤ → List Word → Option ReadFault) (w : Word) (ws : List Word) (z : ℤ) → number_of w.text ≡ Some z → after z ws ≡ None
    → next_number_fault after (w ∷ ws) ≡ None
next_clear after w ws z e h = subst (λ (o : Option ℤ). number_fault after o w.line ws ≡ None) (sym e) h

pub not_big : (n : ℕ) → n ≤ BYTE_LIMIT → nat_lt BYTE_LIMIT n ≡ false
not_big n h = grind (arith, nat_tests)

-- a list of points if there is no fault, otherwise the fault
pub list_or_fault : (P : List Vector → Type 0) (fault : Option ReadFault) → (fault ≡ None → (ps : List Vector) × P ps)
    → ((ps : List Vector) × P ps × (fault ≡ None)) ⊎ ((f : ReadFault) × (fault ≡ Some f))
list_or_fault = grind arith
