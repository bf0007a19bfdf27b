-- A direction along which no two points of a finite set have the same height, and the ids by rising height.
use Rattle.qh_model.proofs.Common.{◌≡◌, ℕ, ◌+◌, List, [], ◌∷◌, inl, inr, ap, sym, arith, mul-le-mul_left, ints, by_lt_z, HasDistinctPoints, In, Vector, dot}
use Rattle.std.specs.{List.AllByRecursion as Every, Prelude.ℤ, Prelude.pos, Prelude.◌+ℤ◌, Prelude.◌*ℤ◌, Prelude.neg_ℤ, Prelude.◌<ℤ◌, Prelude.◌↔◌}
use borrow.Author.Differences.{lt_out}
use Rattle.qh_model.proofs.Members.{every_at}
use Rattle.qh_model.proofs.{algebra.Order.le_antisym, algebra.VectorIdentities.vector_path, combinations.WeightedTerms.bound, extremes.ExtremeIds.Listed}
use Rattle.qh_polygon.proofs.polygons.{TurnLaws.RisesBy, Turns.IsKeyed, Turns.height_of}
use Rattle.qh_laws.proofs.Sorting.{Compare, Rises, InRow, Sorted, sorted}

-- a large factor outweighs the number added to its product
factor_tells : (B C : ℕ) (a b s t : ℤ) → neg_ℤ t <ℤ pos B → neg_ℤ (neg_ℤ s) <ℤ pos C → pos (B + C) *ℤ a +ℤ s ≡ pos (B + C) *ℤ b +ℤ t → a <ℤ b → ⊥
factor_tells B C a b s t h k e l = omega (arith, ints, mul-le-mul_left (B + C) (lt_out a b l))

-- so equal sums have one factor
same_factor : (B C : ℕ) (a b s t : ℤ) → (neg_ℤ s <ℤ pos B) × (neg_ℤ (neg_ℤ s) <ℤ pos C) → (neg_ℤ t <ℤ pos B) × (neg_ℤ (neg_ℤ t) <ℤ pos C)
    → pos (B + C) *ℤ a +ℤ s ≡ pos (B + C) *ℤ b +ℤ t → a ≡ b
same_factor B C a b s t h k e =
    by_lt_z a b (λ l. absurd (factor_tells B C a b s t k.0 h.1 e l))
    (λ l. by_lt_z b a (λ m. absurd (factor_tells B C b a t s h.0 k.1 (sym e) m)) (λ m. le_antisym a b m l))

-- a factor N for which N f + g determines f and g
pub record Factor (f g : ℕ → ℤ) (xs : List ℕ) : Type 0 where
  pub N : ℕ
  pub tells : (i j : ℕ) → In i xs → In j xs → pos N *ℤ f i +ℤ g i ≡ pos N *ℤ f j +ℤ g j → (f i ≡ f j) × (g i ≡ g j)

-- each finite set has a factor
factor : (f g : ℕ → ℤ) (xs : List ℕ) → Factor f g xs
factor f g xs = record { N = B.0 + C.0; tells = tells }
  where
    B : (N : ℕ) × Every (λ i. neg_ℤ (g i) <ℤ pos N) xs
    B = bound g xs

    C : (N : ℕ) × Every (λ i. neg_ℤ (neg_ℤ (g i)) <ℤ pos N) xs
    C = bound (λ i. neg_ℤ (g i)) xs

    between : (i : ℕ) → In i xs → (neg_ℤ (g i) <ℤ pos B.0) × (neg_ℤ (neg_ℤ (g i)) <ℤ pos C.0)
    between i m = (every_at (λ i. neg_ℤ (g i) <ℤ pos B.0) xs i B.1 m, every_at (λ i. neg_ℤ (neg_ℤ (g i)) <ℤ pos C.0) xs i C.1 m)

    tells : (i j : ℕ) → In i xs → In j xs → pos (B.0 + C.0) *ℤ f i +ℤ g i ≡ pos (B.0 + C.0) *ℤ f j +ℤ g j → (f i ≡ f j) × (g i ≡ g j)
    tells i j m n e =
        let first = same_factor B.0 C.0 (f i) (f j) (g i) (g j) (between i m) (between j n) e in
        (first, omega (arith, ints, ap (λ v. pos (B.0 + C.0) *ℤ v) first))

-- a finite set of distinct points has a direction along which no two have the same height
pub direction : (at : ℕ → Vector) (A : ℕ → Type 0) (xs : List ℕ) → Listed A xs → HasDistinctPoints at A → (h : Vector) × IsKeyed h at A
direction at A xs l d = (record { x = pos M.N; y = pos N.N; z = pos 1 }, record { same = same })
  where
    N : Factor (λ i. (at i).y) (λ i. (at i).z) xs
    N = factor (λ i. (at i).y) (λ i. (at i).z) xs

    M : Factor (λ i. (at i).x) (λ i. pos N.N *ℤ (at i).y +ℤ (at i).z) xs
    M = factor (λ i. (at i).x) (λ i. pos N.N *ℤ (at i).y +ℤ (at i).z) xs

    same : (i j : ℕ) → A i → A j
        → dot (record { x = pos M.N; y = pos N.N; z = pos 1 }) (at i) ≡ dot (record { x = pos M.N; y = pos N.N; z = pos 1 }) (at j) → i ≡ j
    same i j a b e =
        let m = (l i).0 a in let n = (l j).0 b in
        let first = M.tells i j m n (omega (arith, ints)) in
        let second = N.tells i j m n first.1 in
        d i j a b (vector_path (at i) (at j) first.0 second.0 second.1)

-- the members of A by rising height
pub record Rising (h : Vector) (at : ℕ → Vector) (A : ℕ → Type 0) : Type 0 where
  pub first : ℕ
  pub rest : List ℕ
  pub members : (i : ℕ) → In i (first ∷ rest) ↔ A i
  pub rises : RisesBy (height_of h at) first rest

-- a row sorted by height rises by height
rises : (key : ℕ → ℤ) (x : ℕ) (xs : List ℕ) → Rises (λ i j. key i <ℤ key j) x xs → RisesBy key x xs
rises key x [] r = tt
rises key x (y ∷ xs) r = (r.0, rises key y xs r.1)

-- a finite set that is not empty has this list
pub rising : (h : Vector) (at : ℕ → Vector) (A : ℕ → Type 0) (xs : List ℕ) → Listed A xs → IsKeyed h at A → (a : ℕ) → A a → Rising h at A
rising h at A xs l k a m = along_list row.list row.row row.members
  where
    compare : (i j : ℕ) → A i → A j → Compare (λ i j. height_of h at i <ℤ height_of h at j) i j
    compare i j b c =
        by_lt_z (height_of h at i) (height_of h at j) (λ q. inl q)
        (λ q. by_lt_z (height_of h at j) (height_of h at i) (λ r. inr (inr r)) (λ r. inr (inl (k.same i j b c (le_antisym _ _ r q)))))

    row : Sorted (λ i j. height_of h at i <ℤ height_of h at j) xs
    row = sorted (λ i j. height_of h at i <ℤ height_of h at j) A compare xs (λ i b. (l i).1 b)

    along_list : (ys : List ℕ) → InRow (λ i j. height_of h at i <ℤ height_of h at j) ys → ((i : ℕ) → In i ys ↔ In i xs) → Rising h at A
    along_list [] o s = absurd ((s a).1 ((l a).0 m))
    along_list (y ∷ ys) o s = record {
      first = y;
      rest = ys;
      members = λ i. (λ b. (l i).1 ((s i).0 b), λ b. (s i).1 ((l i).0 b));
      rises = rises (height_of h at) y ys o;
    }
