-- Points under the triangle of a step.
use Rattle.qh_model.proofs.Common.{◌≡◌, ℕ, Bool, arith, false, true, sym, ints, ℤ, pos, not, ◌<ℤ◌, ◌≤ℤ◌, Vector, vol, Triple}
use Rattle.{qh_model.proofs.algebra.Signs.at_most_zero, qh_check.specs.steps.Hidden.IsUnderStep}

-- a test and its opposite are not both true
pub not_both : (b : Bool) → not b ≡ true → b ≡ true → ⊥
not_both true e f = cc
not_both false e f = cc

-- a number that is not below 0 is at least 0
not_below : (a : ℤ) → ¬ (a <ℤ pos 0) → pos 0 ≤ℤ a
not_below a n = grind (arith, ints, n)

-- a point that is past no side, and not above
pub under_from : (at : ℕ → Vector) (z p : Vector) (s : Triple) (a b c : Vector) → a ≡ at s.i → b ≡ at s.j → c ≡ at s.k
    → ¬ (vol z a b p <ℤ pos 0) → ¬ (vol z b c p <ℤ pos 0) → ¬ (vol z c a p <ℤ pos 0) → ¬ (pos 0 <ℤ vol a b c p) → IsUnderStep at z s p
under_from at z p s a b c i j k m n o q = record {
  first = rw (sym i, sym j) (not_below _ m);
  second = rw (sym j, sym k) (not_below _ n);
  third = rw (sym k, sym i) (not_below _ o);
  below = rw (sym i, sym j, sym k) (at_most_zero _ q);
}
