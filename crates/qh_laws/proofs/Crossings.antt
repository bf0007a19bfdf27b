-- How the edges of one triangle cross the line from d to x, determined by signs alone.
use Rattle.std.proofs.Common.{◌≡◌, ℕ, ◌+◌, arith, refl, Bool, true, false, cond, eqb, not, ◌&&◌, ◌||◌, ◌⊎◌, inl, inr, ⊎_elim}
use Rattle.std.proofs.lemmas.{Bool.eqb-true, Bool.and_parts, Bool.or_cases, Bool.not-true, Int.ints}
use Rattle.std.specs.Prelude.{ℤ, pos, ◌+ℤ◌, ◌-ℤ◌}
use Rattle.qh_laws.proofs.Signs.{same, fits_difference, fits_sum}

-- a test of both truth values
abbrev pub both : (Bool → Bool) → Bool
both f = f true && f false

-- a test of both truth values that passes does so for each
pub each : (f : Bool → Bool) → both f ≡ true → (b : Bool) → f b ≡ true
each f e true = (and_parts (f true) (f false) e).0
each f e false = (and_parts (f true) (f false) e).1

abbrev pub number : Bool → ℕ
number b = cond b 1 0

-- true if an edge crosses the line from d to x upwards; its corners are on the sides a and b, and its signs with d and x are u and v
abbrev pub crosses : Bool → Bool → Bool → Bool → Bool
crosses a b u v = not a && (b && (u && not v))

-- the signs round a triangle are consistent: those of its corners' sides, and of its edges with d and with x
abbrev pub signs_fit : (a b c u₁ u₂ u₃ v₁ v₂ v₃ : Bool) → Bool
signs_fit a b c u₁ u₂ u₃ v₁ v₂ v₃ =
    fits_difference (same u₁ v₂) (same v₁ u₂) b
    && (fits_difference (same u₂ v₃) (same v₂ u₃) c
    && (fits_difference (same u₃ v₁) (same v₃ u₁) a
    && (fits_sum (same u₂ a) (same u₃ b) (same u₁ c)
    && fits_sum (same v₂ a) (same v₃ b) (same v₁ c))))

-- true if the upward crossings, plus 1 if x is inside, equal the downward crossings, plus 1 if d is inside
abbrev counts_fit : (a b c u₁ u₂ u₃ v₁ v₂ v₃ : Bool) → Bool
counts_fit a b c u₁ u₂ u₃ v₁ v₂ v₃ =
    eqb (number (crosses a b u₁ v₁) + number (crosses b c u₂ v₂) + number (crosses c a u₃ v₃) + number (v₁ && (v₂ && v₃)))
    (number (crosses b a (not u₁) (not v₁)) + number (crosses c b (not u₂) (not v₂)) + number (crosses a c (not u₃) (not v₃)) + number (u₁ && (u₂ && u₃)))

-- the implication of two truth values
abbrev pub gives : Bool → Bool → Bool
gives p q = not p || q

-- the conclusion of a true implication with a true premise is true
pub given : (p q : Bool) → gives p q ≡ true → p ≡ true → q ≡ true
given true q e h = e
given false q e h = cc

-- a test of nine truth values, in all cases
abbrev in_all : (Bool → Bool → Bool → Bool → Bool → Bool → Bool → Bool → Bool → Bool) → Bool
in_all f = both (λ r. both (λ s. both (λ t. both (λ u. both (λ v. both (λ w. both (λ x. both (λ y. both (λ z. f r s t u v w x y z)))))))))

-- a test that passes in all cases passes
in_each : (f : Bool → Bool → Bool → Bool → Bool → Bool → Bool → Bool → Bool → Bool) → in_all f ≡ true
    → (a b c u₁ u₂ u₃ v₁ v₂ v₃ : Bool) → f a b c u₁ u₂ u₃ v₁ v₂ v₃ ≡ true
in_each f e a b c u₁ u₂ u₃ v₁ v₂ v₃ =
    each (λ z. f a b c u₁ u₂ u₃ v₁ v₂ z) (each (λ y. both (λ z. f a b c u₁ u₂ u₃ v₁ y z)) (each (λ x. both (λ y. both (λ z. f a b c u₁ u₂ u₃ x y z)))
    (each (λ w. both (λ x. both (λ y. both (λ z. f a b c u₁ u₂ w x y z)))) (each (λ v. both (λ w. both (λ x. both (λ y. both (λ z. f a b c u₁ v w x y z)))))
    (each (λ u. both (λ v. both (λ w. both (λ x. both (λ y. both (λ z. f a b c u v w x y z))))))
    (each (λ t. both (λ u. both (λ v. both (λ w. both (λ x. both (λ y. both (λ z. f a b t u v w x y z)))))))
    (each (λ s. both (λ t. both (λ u. both (λ v. both (λ w. both (λ x. both (λ y. both (λ z. f a s t u v w x y z))))))))
    (each (λ r. both (λ s. both (λ t. both (λ u. both (λ v. both (λ w. both (λ x. both (λ y. both (λ z. f r s t u v w x y z)))))))))
    e a) b) c) u₁) u₂) u₃) v₁) v₂) v₃

-- the contribution of an edge to the count
abbrev pub part : Bool → Bool → Bool → Bool → ℤ
part a b u v = pos (number (crosses a b u v)) -ℤ pos (number (crosses b a (not u) (not v)))

-- the contributions of the edges add up to the change of being inside
pub parts_add : (a b c u₁ u₂ u₃ v₁ v₂ v₃ : Bool) → signs_fit a b c u₁ u₂ u₃ v₁ v₂ v₃ ≡ true
    → part a b u₁ v₁ +ℤ (part b c u₂ v₂ +ℤ part c a u₃ v₃) ≡ pos (number (u₁ && (u₂ && u₃))) -ℤ pos (number (v₁ && (v₂ && v₃)))
parts_add a b c u₁ u₂ u₃ v₁ v₂ v₃ h =
    plain (number (crosses a b u₁ v₁)) (number (crosses b c u₂ v₂)) (number (crosses c a u₃ v₃)) (number (v₁ && (v₂ && v₃)))
    (number (crosses b a (not u₁) (not v₁))) (number (crosses c b (not u₂) (not v₂))) (number (crosses a c (not u₃) (not v₃))) (number (u₁ && (u₂ && u₃)))
    (eqb-true _ _ (given (signs_fit a b c u₁ u₂ u₃ v₁ v₂ v₃) (counts_fit a b c u₁ u₂ u₃ v₁ v₂ v₃)
    (in_each (λ a b c u₁ u₂ u₃ v₁ v₂ v₃. gives (signs_fit a b c u₁ u₂ u₃ v₁ v₂ v₃) (counts_fit a b c u₁ u₂ u₃ v₁ v₂ v₃)) refl a b c u₁ u₂ u₃ v₁ v₂ v₃) h))
  where
    plain : (p q r s i j k l : ℕ) → p + q + r + s ≡ i + j + k + l → (pos p -ℤ pos i) +ℤ ((pos q -ℤ pos j) +ℤ (pos r -ℤ pos k)) ≡ pos l -ℤ pos s
    plain p q r s i j k l e = omega (arith, ints)

-- ---- the line from x to d leaves a triangle
-- the line leaves across the edge with these signs of its corners' sides
abbrev leaves : Bool → Bool → Bool → Bool
leaves a b u = a && (not b && not u)

-- if the line enters across the first edge, d is inside, or the line leaves across the second or the third
abbrev pub GoesOn : (c u₂ u₃ v₂ v₃ : Bool) → Type 0
GoesOn c u₂ u₃ v₂ v₃ =
    (u₂ && u₃) ≡ true
    ⊎ ((c ≡ false) × (u₂ ≡ false) × (v₂ ≡ true))
    ⊎ ((c ≡ true) × (u₃ ≡ false) × (v₃ ≡ true))

-- the same as a test
abbrev onwards : (c u₂ u₃ v₂ v₃ : Bool) → Bool
onwards c u₂ u₃ v₂ v₃ = (u₂ && u₃) || ((not c && (not u₂ && v₂)) || (c && (not u₃ && v₃)))

-- the test passes in all cases
pub goes_on : (a b c u₁ u₂ u₃ v₁ v₂ v₃ : Bool) → signs_fit a b c u₁ u₂ u₃ v₁ v₂ v₃ ≡ true → a ≡ false → b ≡ true → u₁ ≡ true → v₁ ≡ false → GoesOn c u₂ u₃ v₂ v₃
goes_on a b c u₁ u₂ u₃ v₁ v₂ v₃ h ea eb eu ev =
    split (given (not a && (b && (u₁ && not v₁))) (onwards c u₂ u₃ v₂ v₃)
    (given (signs_fit a b c u₁ u₂ u₃ v₁ v₂ v₃) (gives (not a && (b && (u₁ && not v₁))) (onwards c u₂ u₃ v₂ v₃))
    (in_each (λ a b c u₁ u₂ u₃ v₁ v₂ v₃. gives (signs_fit a b c u₁ u₂ u₃ v₁ v₂ v₃) (gives (not a && (b && (u₁ && not v₁))) (onwards c u₂ u₃ v₂ v₃)))
    refl a b c u₁ u₂ u₃ v₁ v₂ v₃) h) (rw (ea, eb, eu, ev) refl))
  where
    split : onwards c u₂ u₃ v₂ v₃ ≡ true → GoesOn c u₂ u₃ v₂ v₃
    split e = first (or_cases _ _ e)
      where
        first : (u₂ && u₃) ≡ true ⊎ ((not c && (not u₂ && v₂)) || (c && (not u₃ && v₃))) ≡ true → GoesOn c u₂ u₃ v₂ v₃
        first (inl f) = inl f
        first (inr f) = ⊎_elim (λ f. let p = and_parts _ _ f in let q = and_parts _ _ p.1 in inr (inl (not-true c p.0, not-true u₂ q.0, q.1)))
            (λ f. let p = and_parts _ _ f in let q = and_parts _ _ p.1 in inr (inr (p.0, not-true u₃ q.0, q.1))) (or_cases _ _ f)

-- if x is inside, d is inside too, or the line leaves across one of the edges
abbrev pub Begins : (a b c u₁ u₂ u₃ : Bool) → Type 0
Begins a b c u₁ u₂ u₃ =
    (u₁ && (u₂ && u₃)) ≡ true
    ⊎ ((a ≡ true) × (b ≡ false) × (u₁ ≡ false))
    ⊎ ((b ≡ true) × (c ≡ false) × (u₂ ≡ false))
    ⊎ ((c ≡ true) × (a ≡ false) × (u₃ ≡ false))

-- the same as a test
abbrev starts : (a b c u₁ u₂ u₃ : Bool) → Bool
starts a b c u₁ u₂ u₃ = (u₁ && (u₂ && u₃)) || (leaves a b u₁ || (leaves b c u₂ || leaves c a u₃))

-- the test passes in all cases
pub begins : (a b c u₁ u₂ u₃ v₁ v₂ v₃ : Bool) → signs_fit a b c u₁ u₂ u₃ v₁ v₂ v₃ ≡ true → v₁ ≡ true → v₂ ≡ true → v₃ ≡ true → Begins a b c u₁ u₂ u₃
begins a b c u₁ u₂ u₃ v₁ v₂ v₃ h e₁ e₂ e₃ =
    first (or_cases _ _ (given (v₁ && (v₂ && v₃)) (starts a b c u₁ u₂ u₃)
    (given (signs_fit a b c u₁ u₂ u₃ v₁ v₂ v₃) (gives (v₁ && (v₂ && v₃)) (starts a b c u₁ u₂ u₃))
    (in_each (λ a b c u₁ u₂ u₃ v₁ v₂ v₃. gives (signs_fit a b c u₁ u₂ u₃ v₁ v₂ v₃) (gives (v₁ && (v₂ && v₃)) (starts a b c u₁ u₂ u₃)))
    refl a b c u₁ u₂ u₃ v₁ v₂ v₃) h) (rw (e₁, e₂, e₃) refl)))
  where
    out : (a b u : Bool) → leaves a b u ≡ true → (a ≡ true) × (b ≡ false) × (u ≡ false)
    out a b u e = let p = and_parts _ _ e in let q = and_parts _ _ p.1 in (p.0, not-true b q.0, not-true u q.1)

    first : (u₁ && (u₂ && u₃)) ≡ true ⊎ (leaves a b u₁ || (leaves b c u₂ || leaves c a u₃)) ≡ true → Begins a b c u₁ u₂ u₃
    first (inl e) = inl e
    first (inr e) = ⊎_elim (λ e. inr (inl (out a b u₁ e)))
        (λ e. ⊎_elim (λ e. inr (inr (inl (out b c u₂ e)))) (λ e. inr (inr (inr (out c a u₃ e)))) (or_cases _ _ e)) (or_cases _ _ e)
