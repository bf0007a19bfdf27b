-- Decided claims about pairs, members of a list, ids, numbers and vectors.
use Rattle.qh_model.proofs.Common.{Bool, In, List, Vector, [], arith, by_lt_z, false, inl, inr, refl, subst, sym, true, ℕ, ℕ_discrete, ℤ, ℤ_discrete, ⊎_elim}
use Rattle.qh_model.proofs.{Common.◌<ℤ◌, Common.◌∷◌, Common.◌≡◌, Common.◌≤ℤ◌, Common.◌⊎◌, algebra.Signs.not_less}

-- a claim holds or not
abbrev pub Decided : Type 0 → Type 0
Decided P = P ⊎ (¬ P)

-- the decision as a test
abbrev pub test : {P : Type 0} → Decided P → Bool
test (inl p) = true
test (inr n) = false

-- the test passes if the claim holds
pub told : {P : Type 0} (d : Decided P) → P → test d ≡ true
told = grind arith

-- the claim holds if the test passes
pub holds : {P : Type 0} (d : Decided P) → test d ≡ true → P
holds = grind arith

-- the conjunction of two decided claims is decided
pub both : (P Q : Type 0) → Decided P → Decided Q → Decided (P × Q)
both = grind arith

-- the negation of a decided claim is decided
pub contrary : (P : Type 0) → Decided P → Decided (¬ P)
contrary = grind arith

-- a claim that is equivalent to a decided one is decided
pub decided_as : (P Q : Type 0) → (P → Q) → (Q → P) → Decided P → Decided Q
decided_as = grind arith

-- decides whether a decided claim holds for every member of a list
pub each_or_not : {X : Type 0} (P : X → Type 0) → ((x : X) → Decided (P x)) → (xs : List X) → Decided ((x : X) → In x xs → P x)
each_or_not P d [] = inl (λ x i. absurd i)
each_or_not {X} P d (y ∷ xs) = by_decision (d y) (each_or_not P d xs)
  where
    by_decision : Decided (P y) → Decided ((x : X) → In x xs → P x) → Decided ((x : X) → In x (y ∷ xs) → P x)
    by_decision (inr n) r = inr (λ f. n (f y (inl refl)))
    by_decision (inl p) (inr n) = inr (λ f. n (λ x i. f x (inr i)))
    by_decision (inl p) (inl r) = inl (λ x i. ⊎_elim (λ e. subst P (sym e) p) (λ j. r x j) i)

-- decides whether a decided claim holds for some member of a list
pub some_or_none : {X : Type 0} (P : X → Type 0) → ((x : X) → Decided (P x)) → (xs : List X) → Decided ((x : X) × In x xs × P x)
some_or_none P d [] = inr (λ h. h.1)
some_or_none {X} P d (y ∷ xs) = by_decision (d y) (some_or_none P d xs)
  where
    by_decision : Decided (P y) → Decided ((x : X) × In x xs × P x) → Decided ((x : X) × In x (y ∷ xs) × P x)
    by_decision (inl p) r = inl (y, inl refl, p)
    by_decision (inr n) (inl r) = inl (r.0, inr r.1, r.2)
    by_decision (inr n) (inr m) = inr (λ h. ⊎_elim (λ e. n (subst P e h.2)) (λ i. m (h.0, i, h.2)) h.1)

-- equality of two ids is decided
pub same_id : (i j : ℕ) → Decided (i ≡ j)
same_id i j = elim (ℕ_discrete i j) [ yes e ↦ inl e | no n ↦ inr n ]

-- membership of an id in a list is decided
pub in_or_not : (i : ℕ) (xs : List ℕ) → Decided (In i xs)
in_or_not i xs =
    decided_as ((j : ℕ) × In j xs × (i ≡ j)) (In i xs) (λ h. subst (λ x. In x xs) (sym h.2) h.1) (λ m. (i, m, refl)) (some_or_none (λ j. i ≡ j) (same_id i) xs)

-- equality of two numbers is decided
pub same_number : (a b : ℤ) → Decided (a ≡ b)
same_number a b = elim (ℤ_discrete a b) [ yes e ↦ inl e | no n ↦ inr n ]

-- equality of two vectors is decided
pub same_vector : (p q : Vector) → Decided (p ≡ q)
same_vector = grind arith

-- decides whether a number is at most another
pub at_most_or_above : (a b : ℤ) → Decided (a ≤ℤ b)
at_most_or_above a b = by_lt_z b a (λ h. inr (λ l. not_less b a h l)) (λ h. inl h)

-- decides whether a number is less than another
pub less_or_not : (a b : ℤ) → Decided (a <ℤ b)
less_or_not a b = by_lt_z a b inl (λ l. inr (λ h. not_less a b h l))
