-- Products of numbers of known sizes, as code computes them.
use Rattle.qh_model.proofs.Common.{◌≡◌, ◌∙◌, ap, ℕ, ◌^◌, ◌*◌, ◌<◌, ◌≤◌, sym, subst, arith, FitsSigned, mul-le-mul, to_z-of_z, ints, unsigned_abs-mul, ℤ, ◌*ℤ◌}
use Rattle.qh_model.proofs.Common.{unsigned_abs, Width, SFits, to_z, of_z, hbits}
use Rattle.std.proofs.lemmas.Int.{fits_signed_mul}

-- a number that fits a width has at most half its size
pub size_of : (w : Width) (x : ℤ) → SFits w x → unsigned_abs x ≤ 2 ^ hbits w
size_of w x f = let s = f.sfits in omega (arith, ints)

-- the product of a and b, which are x and y
pub record IsProduct (w : Width) (a b x y : ℤ) (k : ℕ) : Type 0 where
  pub fits : FitsSigned w (to_z w (of_z w a) *ℤ to_z w (of_z w b))
  pub value : to_z w (of_z w (to_z w (of_z w a) *ℤ to_z w (of_z w b))) ≡ x *ℤ y
  pub limit : unsigned_abs (to_z w (of_z w (to_z w (of_z w a) *ℤ to_z w (of_z w b)))) ≤ k

pub product : (w : Width) (a b x y : ℤ) (m n : ℕ) → a ≡ x → b ≡ y → SFits w a → SFits w b
    → unsigned_abs x ≤ m → unsigned_abs y ≤ n → m * n < 2 ^ hbits w → IsProduct w a b x y (m * n)
product w a b x y m n ea eb fa fb hm hn wide = record {
  fits = subst (λ z. FitsSigned w z) (sym same) whole;
  value = is;
  limit = subst (λ z. unsigned_abs z ≤ m * n) (sym is) (rw (unsigned_abs-mul x y) (mul-le-mul hm hn));
}
  where
    whole : FitsSigned w (x *ℤ y)
    whole = fits_signed_mul w x y m n hm hn wide

    same : to_z w (of_z w a) *ℤ to_z w (of_z w b) ≡ x *ℤ y
    same = ap (λ z. z *ℤ to_z w (of_z w b)) (to_z-of_z w a fa ∙ ea) ∙ ap (λ z. x *ℤ z) (to_z-of_z w b fb ∙ eb)

    is : to_z w (of_z w (to_z w (of_z w a) *ℤ to_z w (of_z w b))) ≡ x *ℤ y
    is = ap (λ z. to_z w (of_z w z)) same ∙ to_z-of_z w (x *ℤ y) whole
