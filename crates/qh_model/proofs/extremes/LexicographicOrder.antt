-- The lexicographic order of vectors: a greatest vector exists, and one functional determines the order of finitely many.
use Rattle.qh_model.proofs.Common.{◌≡◌, ℕ, zero, suc, arith, refl, sym, ◌∙◌, ◌⊎◌, inl, inr, List, [], ◌∷◌, ⊎_elim, mul-le-mul_left, ints, by_lt_z, In}
use Rattle.std.specs.{List.AllByRecursion as Every, Prelude.ℤ, Prelude.pos, Prelude.◌+ℤ◌, Prelude.◌-ℤ◌, Prelude.◌*ℤ◌, Prelude.neg_ℤ, Prelude.◌<ℤ◌, Prelude.◌≤ℤ◌}
use borrow.Author.Differences.{lt_out, le_out}
use Rattle.qh_model.proofs.{Members.every_map, Members.every_zip, algebra.Order.le_antisym}
use Rattle.qh_model.proofs.{combinations.Vectors.V, combinations.Vectors.dot, combinations.WeightedTerms.bound}

-- u comes before v
abbrev pub Less : (n : ℕ) → V n → V n → Type 0
Less zero u v = ⊥
Less (suc n) u v = (u.0 <ℤ v.0) ⊎ ((u.0 ≡ v.0) × Less n u.1 v.1)

-- u and v are equal
abbrev pub Same : (n : ℕ) → V n → V n → Type 0
Same zero u v = Unit {0}
Same (suc n) u v = (u.0 ≡ v.0) × Same n u.1 v.1

-- u comes before v, or they are equal
abbrev pub AtMost : (n : ℕ) → V n → V n → Type 0
AtMost n u v = Same n u v ⊎ Less n u v

-- the order is transitive
less_trans : (n : ℕ) (u v w : V n) → Less n u v → Less n v w → Less n u w
less_trans zero u v w h k = h
less_trans (suc n) u v w (inl h) (inl k) = inl (omega (arith, ints))
less_trans (suc n) u v w (inl h) (inr k) = inl (omega (arith, ints, k.0))
less_trans (suc n) u v w (inr h) (inl k) = inl (omega (arith, ints, h.0))
less_trans (suc n) u v w (inr h) (inr k) = inr (h.0 ∙ k.0, less_trans n u.1 v.1 w.1 h.1 k.1)

-- a vector equal to one that is less is less
same_less : (n : ℕ) (u v w : V n) → Same n u v → Less n v w → Less n u w
same_less zero u v w h k = k
same_less (suc n) u v w h (inl k) = inl (omega (arith, ints, h.0))
same_less (suc n) u v w h (inr k) = inr (h.0 ∙ k.0, same_less n u.1 v.1 w.1 h.1 k.1)

-- a vector at most one that is less is less
at_most_less : (n : ℕ) (u v w : V n) → AtMost n u v → Less n v w → Less n u w
at_most_less = grind (arith, same_less, less_trans)

-- a vector is equal to itself
same : (n : ℕ) (u : V n) → Same n u u
same zero u = tt
same (suc n) u = (refl, same n u.1)

-- any two vectors compare
compare : (n : ℕ) (u v : V n) → AtMost n u v ⊎ Less n v u
compare zero u v = inl (inl tt)
compare (suc n) u v =
    by_lt_z u.0 v.0 (λ h. inl (inr (inl h))) (λ h. by_lt_z v.0 u.0 (λ k. inr (inl k)) (λ k. tails (le_antisym u.0 v.0 k h) (compare n u.1 v.1)))
  where
    tails : u.0 ≡ v.0 → AtMost n u.1 v.1 ⊎ Less n v.1 u.1 → AtMost (suc n) u v ⊎ Less (suc n) v u
    tails e (inl (inl s)) = inl (inl (e, s))
    tails e (inl (inr l)) = inl (inr (inr (e, l)))
    tails e (inr l) = inr (inr (sym e, l))

-- a greatest member
pub record Greatest {A : Type 0} (n : ℕ) (key : A → V n) (xs : List A) : Type 0 where
  pub top : A
  pub member : In top xs
  pub above : Every (λ j. AtMost n (key j) (key top)) xs

-- a list with a member has a greatest one
pub greatest : {A : Type 0} (n : ℕ) (key : A → V n) (i : A) (xs : List A) → Greatest n key (i ∷ xs)
greatest n key i [] = record { top = i; member = inl refl; above = (inl (same n (key i)), tt) }
greatest n key i (x ∷ xs) = with_first n key i (x ∷ xs) (greatest n key x xs) (compare n _ _)
  where
    with_first : {A : Type 0} (n : ℕ) (key : A → V n) (i : A) (xs : List A) (g : Greatest n key xs)
        → AtMost n (key i) (key g.top) ⊎ Less n (key g.top) (key i) → Greatest n key (i ∷ xs)
    with_first n key i xs g (inl h) = record { top = g.top; member = inr g.member; above = (h, g.above) }
    with_first n key i xs g (inr h) =
        record {
          top = i;
          member = inl refl;
          above = (inl (same n (key i)), every_map _ _ xs (λ j l. inr (at_most_less n (key j) (key g.top) (key i) l h)) g.above);
        }

-- ---- one functional for the order
-- the case of dimension 0
keep : (Q R : Type 0) → Q ⊎ ⊥ → Q ⊎ R
keep = grind arith

-- the case of the first coordinate, as a lemma
regroup : (Q F E T : Type 0) → Q ⊎ (F ⊎ (E × T)) → (Q ⊎ F) ⊎ T
regroup = grind arith

-- the first coordinate is at most
first : (Q T : Type 0) (a b : ℤ) → Q ⊎ ((a <ℤ b) ⊎ ((a ≡ b) × T)) → Q ⊎ (a ≤ℤ b)
first = grind arith

-- with a large factor the first coordinate decides, and if it is equal, the rest decides
joined : (Q : Type 0) (N : ℕ) (a b t s : ℤ) → (Q ⊎ (a <ℤ b)) ⊎ (t <ℤ s) → (Q ⊎ (a ≤ℤ b)) × (neg_ℤ (s -ℤ t) <ℤ pos N)
    → Q ⊎ ((pos N *ℤ a +ℤ t) <ℤ (pos N *ℤ b +ℤ s))
joined Q N a b t s (inl (inl q)) h = inl q
joined Q N a b t s (inl (inr l)) h = inr (omega (arith, ints, h.1, mul-le-mul_left N (lt_out a b l)))
joined Q N a b t s (inr l) h = ⊎_elim (λ q. inl q) (λ m. inr (omega (arith, ints, l, mul-le-mul_left N (le_out a b m)))) h.0

-- one more coordinate
extend : {A : Type 0} (n : ℕ) (Q : A → Type 0) (key : A → V (suc n)) (K : V (suc n)) (xs : List A) → Every (λ j. Q j ⊎ Less (suc n) (key j) K) xs
    → (U : V n) × Every (λ j. (Q j ⊎ ((key j).0 <ℤ K.0)) ⊎ (dot n U (key j).1 <ℤ dot n U K.1)) xs
    → (U : V (suc n)) × Every (λ j. Q j ⊎ (dot (suc n) U (key j) <ℤ dot (suc n) U K)) xs
extend {A} n Q key K xs h low = (
  (pos N, U),
  every_zip (λ j. (Q j ⊎ ((key j).0 <ℤ K.0)) ⊎ (dot n U (key j).1 <ℤ dot n U K.1))
      (λ j. (Q j ⊎ ((key j).0 ≤ℤ K.0)) × (neg_ℤ (dot n U K.1 -ℤ dot n U (key j).1) <ℤ pos N)) _ xs
      (λ j. joined (Q j) N (key j).0 K.0 (dot n U (key j).1) (dot n U K.1)) low.1
      (every_zip _ _ _ xs (λ j f b. (f, b)) (every_map _ _ xs (λ j. first (Q j) (Less n (key j).1 K.1) (key j).0 K.0) h)
      (bound (λ j. dot n U K.1 -ℤ dot n U (key j).1) xs).1),
)
  where
    U : V n
    U = low.0

    N : ℕ
    N = (bound (λ j. dot n U K.1 -ℤ dot n U (key j).1) xs).0

-- one functional determines that all come before K
pub collapse : {A : Type 0} (n : ℕ) (Q : A → Type 0) (key : A → V n) (K : V n) (xs : List A) → Every (λ j. Q j ⊎ Less n (key j) K) xs
    → (U : V n) × Every (λ j. Q j ⊎ (dot n U (key j) <ℤ dot n U K)) xs
collapse zero Q key K xs h = (tt, every_map _ _ xs (λ j. keep (Q j) (pos 0 <ℤ pos 0)) h)
collapse (suc n) Q key K xs h = extend n Q key K xs h
    (collapse n (λ j. Q j ⊎ ((key j).0 <ℤ K.0)) (λ j. (key j).1) K.1 xs
    (every_map _ _ xs (λ j. regroup (Q j) ((key j).0 <ℤ K.0) ((key j).0 ≡ K.0) (Less n (key j).1 K.1)) h))
