-- Weighted members of a list, and the theorem of alternatives in any dimension.
use Rattle.qh_model.proofs.Common.{*ℤ-zero, +ℤ_idr, In, List, [], ap, arith, by_lt_z, inl, inr, ints, mul-le-mul_left, neg_ℤ, negsuc, pos, refl, suc}
use Rattle.qh_model.proofs.Common.{sym, zero, ℕ, ℤ, ⊎_elim, ◌*ℤ◌, ◌*◌, ◌+ℤ◌, ◌+◌, ◌<ℤ◌, ◌<◌, ◌∙◌, ◌∷◌, ◌≡◌, ◌≤ℤ◌, ◌≤◌, ◌⊎◌}
use Rattle.qh_model.proofs.Members.{every_at, every_map, every_zip}
use Rattle.qh_model.proofs.algebra.Integers.{mul_add, mul_assoc, ring_rules}
use Rattle.qh_model.proofs.combinations.Vectors.{Cut, Flat, V, cut, dot, dot_lin, lin, nil}
use Rattle.std.specs.{List.AllByRecursion as Every, Prelude.nat_abs}
use borrow.Author.Differences.{lt_out}
use lib.IntN.{*ℤ_comm}

-- ---- weighted members
-- the total of g over weighted members
abbrev pub total : {A : Type 0} → (A → ℤ) → List (ℕ × A) → ℤ
total g [] = pos 0
total g (t ∷ ts) = pos t.0 *ℤ g t.1 +ℤ total g ts

-- the sum of the weights
abbrev pub weight : {A : Type 0} → List (ℕ × A) → ℕ
weight [] = 0
weight (t ∷ ts) = t.0 + weight ts

-- the number of terms
abbrev pub count : {A : Type 0} → List A → ℕ
count [] = 0
count (t ∷ ts) = suc (count ts)

-- each term is a member of the list
abbrev pub Among : {A : Type 0} → List A → List (ℕ × A) → Type 0
Among xs [] = Unit {0}
Among xs (t ∷ ts) = In t.1 xs × Among xs ts

-- the terms are also those of a longer list
pub among_more : {A : Type 0} (a : A) (xs : List A) (ts : List (ℕ × A)) → Among xs ts → Among (a ∷ xs) ts
among_more a xs [] h = tt
among_more a xs (t ∷ ts) h = (inr h.0, among_more a xs ts h.1)

-- the terms with weights k times as large
abbrev pub scaled : {A : Type 0} → ℕ → List (ℕ × A) → List (ℕ × A)
scaled k [] = []
scaled k (t ∷ ts) = (k * t.0, t.1) ∷ scaled k ts

-- the scaled terms have the same members
among_scaled : {A : Type 0} (k : ℕ) (xs : List A) (ts : List (ℕ × A)) → Among xs ts → Among xs (scaled k ts)
among_scaled k xs [] h = tt
among_scaled k xs (t ∷ ts) h = (h.0, among_scaled k xs ts h.1)

-- scaling keeps the number of terms
count_scaled : {A : Type 0} (k : ℕ) (ts : List (ℕ × A)) → count (scaled k ts) ≡ count ts
count_scaled k [] = refl
count_scaled k (t ∷ ts) = ap suc (count_scaled k ts)

-- scaling multiplies the total by k
total_scaled : {A : Type 0} (k : ℕ) (g : A → ℤ) (ts : List (ℕ × A)) → total g (scaled k ts) ≡ pos k *ℤ total g ts
total_scaled k g [] = sym (*ℤ-zero (pos k))
total_scaled k g (t ∷ ts) = ap (λ s. pos (k * t.0) *ℤ g t.1 +ℤ s) (total_scaled k g ts)
    ∙ ap (λ s. s +ℤ pos k *ℤ total g ts) (mul_assoc (pos k) (pos t.0) (g t.1))
    ∙ sym (mul_add (pos k) (pos t.0 *ℤ g t.1) (total g ts))

-- a step of the next
linear_step : (α c m g q r G Q R : ℤ) → α *ℤ g ≡ c *ℤ q +ℤ r → α *ℤ G ≡ c *ℤ Q +ℤ R → α *ℤ (m *ℤ g +ℤ G) ≡ c *ℤ (m *ℤ q +ℤ Q) +ℤ (m *ℤ r +ℤ R)
linear_step = grind (arith, mul_add, mul_assoc, *ℤ_comm, ring_rules)

-- totals are linear
pub total_linear : {A : Type 0} (α c : ℤ) (g q r : A → ℤ) → ((a : A) → α *ℤ g a ≡ c *ℤ q a +ℤ r a) → (ts : List (ℕ × A))
    → α *ℤ total g ts ≡ c *ℤ total q ts +ℤ total r ts
total_linear α c g q r e [] = *ℤ-zero α ∙ sym (*ℤ-zero c) ∙ sym (+ℤ_idr (c *ℤ pos 0))
total_linear α c g q r e (t ∷ ts) = linear_step α c (pos t.0) (g t.1) (q t.1) (r t.1) _ _ _ (e t.1) (total_linear α c g q r e ts)

-- negative values have a total of at most minus the weight
total_below : {A : Type 0} (g : A → ℤ) (xs : List A) (ts : List (ℕ × A)) → Every (λ a. g a <ℤ pos 0) xs → Among xs ts → (total g ts +ℤ pos (weight ts)) ≤ℤ pos 0
total_below g xs [] h k = omega (arith, ints)
total_below g xs (t ∷ ts) h k =
    omega (arith, ints, mul-le-mul_left t.0 (lt_out (g t.1) (pos 0) (every_at (λ a. g a <ℤ pos 0) xs t.1 h k.0)), total_below g xs ts h k.1)

-- a number greater than -g at every member
pub bound : {A : Type 0} (g : A → ℤ) (xs : List A) → (N : ℕ) × Every (λ a. neg_ℤ (g a) <ℤ pos N) xs
bound g [] = (1, tt)
bound g (a ∷ xs) =
    let b = bound g xs in
    (suc (nat_abs (g a)) + b.0, (omega (arith, ints), every_map (λ c. neg_ℤ (g c) <ℤ pos b.0) _ xs (λ c h. omega (arith, ints, h)) b.1))

-- ---- the theorem in dimension n: of the vectors f a, some n + 1 with weights add to zero, or some w is strictly below zero on each
pub record Balanced (A : Type 0) (n : ℕ) (f : A → V n) (xs : List A) : Type 0 where
  pub terms : List (ℕ × A)
  pub among : Among xs terms
  pub few : count terms ≤ suc n
  pub heavy : 0 < weight terms
  pub sums : (u : V n) → total (λ a. dot n u (f a)) terms ≡ pos 0

-- all vectors are strictly below 0 along w
pub record Separated (A : Type 0) (n : ℕ) (f : A → V n) (xs : List A) : Type 0 where
  pub w : V n
  pub below : Every (λ a. dot n w (f a) <ℤ pos 0) xs

-- a vector that is 0 balances alone
pub alone : {A : Type 0} (n : ℕ) (f : A → V n) (a : A) (xs : List A) → Flat n (f a) → Balanced A n f (a ∷ xs)
alone n f a xs z = record { terms = (1, a) ∷ []; among = (inl refl, tt); few = omega arith; heavy = omega arith; sums = λ u. rw (z u) }

-- a scaled separator outweighs g
lifted_below : (N : ℕ) (W g : ℤ) → W <ℤ pos 0 → neg_ℤ g <ℤ pos N → (pos N *ℤ W +ℤ negsuc 0 *ℤ g) <ℤ pos 0
lifted_below N W g h k = omega (arith, ints, mul-le-mul_left N (lt_out W (pos 0) h))

-- the scaled separator puts the vector of the projection below 0
lifted_itself : (N : ℕ) (W g : ℤ) → W ≡ pos 0 → pos 0 <ℤ g → (pos N *ℤ W +ℤ negsuc 0 *ℤ g) <ℤ pos 0
lifted_itself N W g e h = rw (e, *ℤ-zero (pos N)) (omega (arith, ints))

-- another form of being below 0
below_eq : (x y : ℤ) → y ≡ x → x <ℤ pos 0 → y <ℤ pos 0
below_eq x y e h = omega (arith, ints)

-- a separator of the projected vectors, lifted and scaled, minus the vector of the projection
parted : {A : Type 0} (n : ℕ) (f : A → V (suc n)) (a : A) (xs : List A) (c : Cut n (f a))
    → Separated A n (λ b. c.project (f b)) xs → Separated A (suc n) f (a ∷ xs)
parted {A} n f a xs c s = record {
  w = lin (suc n) (pos N) W (negsuc 0) (f a);
  below = (
    below_eq _ _ (dot_lin (suc n) (pos N) (negsuc 0) W (f a) (f a)) (lifted_itself N _ _ (c.kills s.w) c.grows),
    every_zip (λ b. dot n s.w (c.project (f b)) <ℤ pos 0) (λ b. neg_ℤ (dot (suc n) (f a) (f b)) <ℤ pos N)
        (λ b. dot (suc n) (lin (suc n) (pos N) W (negsuc 0) (f a)) (f b) <ℤ pos 0) xs
        (λ b h k. below_eq _ _ (dot_lin (suc n) (pos N) (negsuc 0) W (f a) (f b)) (lifted_below N _ _ (below_eq _ _ (c.lifts s.w (f b)) h) k))
        s.below (bound (λ b. dot (suc n) (f a) (f b)) xs).1,
  );
}
  where
    N : ℕ
    N = (bound (λ b. dot (suc n) (f a) (f b)) xs).0

    W : V (suc n)
    W = c.lift s.w

-- if k T = D κ, with T below zero and D not below zero, κ is below zero
sign : (k : ℕ) (T D κ : ℤ) → pos (suc k) *ℤ T ≡ D *ℤ κ → T <ℤ pos 0 → pos 0 ≤ℤ D → (m : ℕ) × (κ ≡ negsuc m)
sign = grind arith

-- the two parts cancel
two_cancel : (m : ℕ) (D : ℤ) → pos (suc m) *ℤ D +ℤ D *ℤ negsuc m ≡ pos 0
two_cancel m D = omega (arith, ints)

-- a combination of the projected vectors, with the vector of the projection
mixed : {A : Type 0} (n : ℕ) (f : A → V (suc n)) (a : A) (xs : List A) (s : Separated A (suc n) f xs) → pos 0 ≤ℤ dot (suc n) s.w (f a)
    → (c : Cut n (f a)) → Balanced A n (λ b. c.project (f b)) xs → Balanced A (suc n) f (a ∷ xs)
mixed {A} n f a xs s l c m = record {
  terms = (suc κ.0, a) ∷ scaled (suc c.scale) m.terms;
  among = (inl refl, among_more a xs _ (among_scaled (suc c.scale) xs m.terms m.among));
  few = omega (arith, count_scaled (suc c.scale) m.terms, m.few);
  heavy = omega arith;
  sums = λ u. ap (λ t. pos (suc κ.0) *ℤ dot (suc n) u (f a) +ℤ t)
      (total_scaled (suc c.scale) (λ b. dot (suc n) u (f b)) m.terms ∙ law u ∙ ap (λ t. dot (suc n) u (f a) *ℤ t) κ.1)
      ∙ two_cancel κ.0 _;
}
  where
    K : ℤ
    K = total (λ b. dot (suc n) c.along (f b)) m.terms

    law : (u : V (suc n)) → pos (suc c.scale) *ℤ total (λ b. dot (suc n) u (f b)) m.terms ≡ dot (suc n) u (f a) *ℤ K
    law u = total_linear (pos (suc c.scale)) (dot (suc n) u (f a)) (λ b. dot (suc n) u (f b))
        (λ b. dot (suc n) c.along (f b)) (λ b. dot n (c.rest u) (c.project (f b))) (λ b. c.splits u (f b)) m.terms
        ∙ ap (λ t. dot (suc n) u (f a) *ℤ K +ℤ t) (m.sums (c.rest u)) ∙ +ℤ_idr _

    κ : (k : ℕ) × (K ≡ negsuc k)
    κ = sign c.scale (total (λ b. dot (suc n) s.w (f b)) m.terms) (dot (suc n) s.w (f a)) K (law s.w)
        (omega (arith, ints, m.heavy, total_below (λ b. dot (suc n) s.w (f b)) xs m.terms s.below m.among))
        l

-- the vectors balance, or they have a separator
abbrev Claim : (A : Type 0) → ℕ → Type 0
Claim A n = (f : A → V n) (xs : List A) → Balanced A n f xs ⊎ Separated A n f xs

-- one more vector: it is 0, or there is a projection along it, and the theorem in a lower dimension applies
flat_or_cut : {A : Type 0} (n : ℕ) → Claim A n → (f : A → V (suc n)) (a : A) (xs : List A) (s : Separated A (suc n) f xs) → pos 0 ≤ℤ dot (suc n) s.w (f a)
    → Flat (suc n) (f a) ⊎ Cut n (f a) → Balanced A (suc n) f (a ∷ xs) ⊎ Separated A (suc n) f (a ∷ xs)
flat_or_cut n low f a xs s l (inl z) = inl (alone (suc n) f a xs z)
flat_or_cut n low f a xs s l (inr c) =
    ⊎_elim (λ m. inl (mixed n f a xs s l c m)) (λ p. inr (parted n f a xs c p)) (low (λ b. c.project (f b)) xs)

-- the vector is below 0 as well, or not
one_more : {A : Type 0} (n : ℕ) → Claim A n → (f : A → V (suc n)) (a : A) (xs : List A) → Balanced A (suc n) f xs ⊎ Separated A (suc n) f xs
    → Balanced A (suc n) f (a ∷ xs) ⊎ Separated A (suc n) f (a ∷ xs)
one_more n low f a xs (inl m) =
    inl (record { terms = m.terms; among = among_more a xs m.terms m.among; few = m.few; heavy = m.heavy; sums = m.sums })
one_more n low f a xs (inr s) =
    by_lt_z (dot (suc n) s.w (f a)) (pos 0) (λ h. inr (record { w = s.w; below = (h, s.below) })) (λ l. flat_or_cut n low f a xs s l (cut n (f a)))

-- the theorem in dimension n + 1 from that in n
step : {A : Type 0} (n : ℕ) → Claim A n → Claim A (suc n)
step n low f [] = inr (record { w = nil (suc n); below = tt })
step n low f (a ∷ xs) = one_more n low f a xs (step n low f xs)

-- the theorem in dimension 0
base : {A : Type 0} → Claim A 0
base f [] = inr (record { w = tt; below = tt })
base f (a ∷ xs) = inl (alone 0 f a xs (λ u. refl))

-- the theorem of alternatives
pub alternative : {A : Type 0} (n : ℕ) → Claim A n
alternative zero = base
alternative (suc n) = step n (alternative n)
