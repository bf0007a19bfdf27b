-- A spot in triangles, by the signs of its turns: the triangles over the sides of a triangle add up to it.
use Rattle.qh_model.proofs.Common.{◌≡◌, ℕ, ◌+◌, arith, refl, Bool, true, eqb, not, ◌&&◌, ◌≢◌, sym, ap, subst, ◌∙◌, inl, inr, ⊎_elim, false, eqb-true, ints, ℤ}
use Rattle.qh_model.proofs.Common.{pos, ◌+ℤ◌, ◌-ℤ◌, ◌*ℤ◌, Vector}
use Rattle.std.proofs.Math.Bool.{and_assoc, and_comm}
use Rattle.qh_model.proofs.{Decisions.Decided, Decisions.same_id, algebra.Order.zero_product}
use Rattle.qh_laws.proofs.Crossings.{both, each, gives, given, number}
use Rattle.qh_laws.proofs.Signs.{same, fits_sum, above, not_above, above_is, above_product, above-neg, sum_fits}
use Rattle.qh_laws_surface.proofs.{ConvexLists.Turn, ConvexLists.first_two, ConvexLists.not_first, ConvexLists.not_second, StepCounts.IsOdd}
use Rattle.qh_laws_surface.proofs.SpotTurns.{spot_turn-back, turn_pairs}
use Rattle.qh_laws_surface.specs.contract.Covering.{Spot, spot_turn}

-- a test of six truth values, in all cases
abbrev in_all : (Bool → Bool → Bool → Bool → Bool → Bool → Bool) → Bool
in_all f = both (λ u. both (λ v. both (λ w. both (λ x. both (λ y. both (λ z. f u v w x y z))))))

in_each : (f : Bool → Bool → Bool → Bool → Bool → Bool → Bool) → in_all f ≡ true → (b₁ b₂ b₃ d₁ d₂ d₃ : Bool) → f b₁ b₂ b₃ d₁ d₂ d₃ ≡ true
in_each f e b₁ b₂ b₃ d₁ d₂ d₃ =
    each (λ z. f b₁ b₂ b₃ d₁ d₂ z) (each (λ y. both (λ z. f b₁ b₂ b₃ d₁ y z)) (each (λ x. both (λ y. both (λ z. f b₁ b₂ b₃ x y z)))
    (each (λ w. both (λ x. both (λ y. both (λ z. f b₁ b₂ w x y z)))) (each (λ v. both (λ w. both (λ x. both (λ y. both (λ z. f b₁ v w x y z)))))
    (each (λ u. both (λ v. both (λ w. both (λ x. both (λ y. both (λ z. f u v w x y z)))))) e b₁) b₂) b₃) d₁) d₂) d₃

abbrev pub all_three : Bool → Bool → Bool → Bool
all_three a b c = a && (b && c)

abbrev counts_fit : (b₁ b₂ b₃ d₁ d₂ d₃ : Bool) → Bool
counts_fit b₁ b₂ b₃ d₁ d₂ d₃ =
    eqb (number (all_three d₁ d₂ d₃)
    + (number (all_three (not b₁) (not d₁) b₂) + (number (all_three (not b₂) (not d₂) b₃) + number (all_three (not b₃) (not d₃) b₁))))
    (number (all_three (not d₁) (not d₂) (not d₃))
    + (number (all_three b₁ d₁ (not b₂)) + (number (all_three b₂ d₂ (not b₃)) + number (all_three b₃ d₃ (not b₁)))))

-- 1 if the first three values are true, minus 1 if the last three are
abbrev pub signed : Bool → Bool → Bool → Bool → Bool → Bool → ℤ
signed a b c x y z = pos (number (all_three a b c)) -ℤ pos (number (all_three x y z))

-- b are the signs of the turns from a corner to three others, and d those of the turns round these
triangles_add : (b₁ b₂ b₃ d₁ d₂ d₃ : Bool) → fits_sum (same b₁ d₂) (same b₂ d₃) (same b₃ d₁) ≡ true
    → signed d₁ d₂ d₃ (not d₁) (not d₂) (not d₃)
    ≡ signed b₁ d₁ (not b₂) (not b₁) (not d₁) b₂
    +ℤ (signed b₂ d₂ (not b₃) (not b₂) (not d₂) b₃ +ℤ signed b₃ d₃ (not b₁) (not b₃) (not d₃) b₁)
triangles_add b₁ b₂ b₃ d₁ d₂ d₃ h =
    plain (number (all_three d₁ d₂ d₃)) (number (all_three (not d₁) (not d₂) (not d₃)))
    (number (all_three b₁ d₁ (not b₂))) (number (all_three (not b₁) (not d₁) b₂))
    (number (all_three b₂ d₂ (not b₃))) (number (all_three (not b₂) (not d₂) b₃))
    (number (all_three b₃ d₃ (not b₁))) (number (all_three (not b₃) (not d₃) b₁))
    (eqb-true _ _ (given (fits_sum (same b₁ d₂) (same b₂ d₃) (same b₃ d₁)) (counts_fit b₁ b₂ b₃ d₁ d₂ d₃)
    (in_each (λ b₁ b₂ b₃ d₁ d₂ d₃. gives (fits_sum (same b₁ d₂) (same b₂ d₃) (same b₃ d₁)) (counts_fit b₁ b₂ b₃ d₁ d₂ d₃)) refl b₁ b₂ b₃ d₁ d₂ d₃) h))
  where
    plain : (n m p q r s t u : ℕ) → n + (q + (s + u)) ≡ m + (p + (r + t)) → pos n -ℤ pos m ≡ (pos p -ℤ pos q) +ℤ ((pos r -ℤ pos s) +ℤ (pos t -ℤ pos u))
    plain n m p q r s t u e = omega (arith, ints)

and_turned : (a b c : Bool) → all_three a b c ≡ all_three c b a
and_turned a b c = sym (and_assoc a b c) ∙ and_comm (a && b) c ∙ ap (λ d. c && d) (and_comm a b)

and_round : (a b c : Bool) → all_three a b c ≡ all_three b c a
and_round a b c = and_comm a (b && c) ∙ and_assoc b c a

module _ (n : Vector) (at : ℕ → Vector) (s : Spot) where
  abbrev T : ℕ → ℕ → ℤ
  T u v = spot_turn n at u v s

  -- true if the spot lies to the left of the line from u to v
  abbrev pub p : ℕ → ℕ → Bool
  p u v = above (T u v)

  -- 1 if the spot lies in the triangle, -1 if it lies in the reversed triangle
  abbrev pub tri : ℕ → ℕ → ℕ → ℤ
  tri a b c = signed (p a b) (p b c) (p c a) (p b a) (p c b) (p a c)

  -- off all lines through two of the corners in X
  abbrev pub OffLines : (ℕ → Type 0) → Type 0
  OffLines X = (u v : ℕ) → X u → X v → u ≢ v → ¬ (T u v ≡ pos 0)

  -- ---- signs
  pub not_both : (u v : ℕ) → p u v ≡ true → p v u ≡ false
  not_both u v h = not_above (T v u) (omega (arith, ints, above_is (T u v) h, spot_turn-back n at u v s))

  pub one_of : (X : ℕ → Type 0) → OffLines X → (u v : ℕ) → X u → X v → u ≢ v → p v u ≡ not (p u v)
  one_of X off u v hu hv ne = ap above (spot_turn-back n at u v s) ∙ above-neg (T u v) (off u v hu hv ne)

  itself : (u : ℕ) → p u u ≡ false
  itself u = not_above (T u u) (omega (arith, ints, spot_turn-back n at u u s))

  -- ---- the triangles over the sides of a triangle
  -- the triangle over a step from c
  abbrev pub over : ℕ → (ℕ × ℕ) → ℤ
  over c e = tri c e.0 e.1

  pub over-odd : (c : ℕ) → IsOdd (over c)
  over-odd c e =
      rw (and_turned (p c e.1) (p e.1 e.0) (p e.0 c), and_turned (p e.1 c) (p e.0 e.1) (p c e.0)) (omega (arith, ints))

  tri_round : (a b c : ℕ) → tri a b c ≡ tri b c a
  tri_round a b c = rw (and_round (p a b) (p b c) (p c a), and_round (p b a) (p c b) (p a c)) refl

  -- a triangle with a corner twice contributes 0
  flat_first : (a b : ℕ) → tri a a b ≡ pos 0
  flat_first a b = rw (itself a) refl

  flat_last : (a b : ℕ) → tri a b a ≡ pos 0
  flat_last a b = tri_round a b a ∙ tri_round b a a ∙ flat_first a b

  pub tri_parts : (X : ℕ → Type 0) → OffLines X → (c x y z : ℕ) → X c → X x → X y → X z → Turn n at x y z
      → tri x y z ≡ tri c x y +ℤ (tri c y z +ℤ tri c z x)
  tri_parts X off c x y z hc hx hy hz t = by (same_id c x) (same_id c y) (same_id c z)
    where
      xy : x ≢ y
      xy = first_two n at x y z t

      yz : y ≢ z
      yz e = not_second n at x y z t (sym e)

      zx : z ≢ x
      zx = not_first n at x y z t

      by : Decided (c ≡ x) → Decided (c ≡ y) → Decided (c ≡ z) → tri x y z ≡ tri c x y +ℤ (tri c y z +ℤ tri c z x)
      by (inl e) q r = subst (λ a. tri x y z ≡ tri a x y +ℤ (tri a y z +ℤ tri a z x)) (sym e)
          (omega (arith, ints, flat_first x y, flat_last x z))
      by (inr a) (inl e) r = subst (λ a. tri x y z ≡ tri a x y +ℤ (tri a y z +ℤ tri a z x)) (sym e)
          (omega (arith, ints, flat_last y x, flat_first y z, tri_round x y z))
      by (inr a) (inr b) (inl e) = subst (λ a. tri x y z ≡ tri a x y +ℤ (tri a y z +ℤ tri a z x)) (sym e)
          (omega (arith, ints, flat_first z x, flat_last z y, tri_round x y z, tri_round y z x))
      by (inr a) (inr b) (inr g) =
          rw (one_of X off c x hc hx a, one_of X off c y hc hy b, one_of X off c z hc hz g)
          (rw (one_of X off x y hx hy xy, one_of X off y z hy hz yz, one_of X off z x hz hx zx)
          (triangles_add (p c x) (p c y) (p c z) (p x y) (p y z) (p z x) fits))
        where
          nonzero : (u v w t : ℕ) → X u → X v → u ≢ v → X w → X t → w ≢ t → ¬ (T u v *ℤ T w t ≡ pos 0)
          nonzero u v w t hu hv ne hw ht me e = ⊎_elim (off u v hu hv ne) (off w t hw ht me) (zero_product (T u v) (T w t) e)

          sums : (a b c : ℤ) → a +ℤ (b +ℤ c) ≡ pos 0 → a +ℤ b +ℤ c ≡ pos 0
          sums a b c e = omega (arith, ints, e)

          fits : fits_sum (same (p c x) (p y z)) (same (p c y) (p z x)) (same (p c z) (p x y)) ≡ true
          fits =
              rw (
                ← above_product (T c x) (T y z) (off c x hc hx a) (off y z hy hz yz),
                ← above_product (T c y) (T z x) (off c y hc hy b) (off z x hz hx zx),
                ← above_product (T c z) (T x y) (off c z hc hz g) (off x y hx hy xy),
              )
              (sum_fits (T c x *ℤ T y z) (T c y *ℤ T z x) (T c z *ℤ T x y)
              (nonzero c x y z hc hx a hy hz yz) (nonzero c y z x hc hy b hz hx zx) (nonzero c z x y hc hz g hx hy xy)
              (sums (T c x *ℤ T y z) (T c y *ℤ T z x) (T c z *ℤ T x y) (turn_pairs n at s c x y z)))
