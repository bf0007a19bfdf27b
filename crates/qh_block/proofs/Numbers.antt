-- Numbers stored in few bits: they fit, and keep their values.
use Rattle.qh_model.proofs.Common.{◌≡◌, ◌<◌, ◌≤◌, ◌*◌, ◌^◌, ℕ, arith, FitsSigned, mul-le-mul, ints, to_z-of_z, fits_signed_from_abs, unsigned_abs-mul, ℤ, ◌+ℤ◌}
use Rattle.qh_model.proofs.Common.{◌-ℤ◌, ◌*ℤ◌, unsigned_abs, mag, Width, w32, w64, hbits, to_z, of_z}
use Rattle.std.proofs.lemmas.Int.{fits_signed_mul}

-- a number as it is stored
abbrev pub held : Width → ℤ → ℤ
held w x = to_z w (of_z w x)

-- a number whose absolute value fits keeps its value
pub held_is : (w : Width) (x : ℤ) (m : ℕ) → unsigned_abs x ≤ m → m < 2 ^ hbits w → held w x ≡ x
held_is w x m h l = to_z-of_z w x (fits_signed_from_abs w x (omega (arith, h, l)))

-- so its absolute value stays the same
pub held_size : (w : Width) (x : ℤ) (m : ℕ) → unsigned_abs x ≤ m → m < 2 ^ hbits w → unsigned_abs (held w x) ≤ m
held_size w x m h l = rw (held_is w x m h l) h

-- the same for a number that is read from another
pub held_as : (w : Width) (x y : ℤ) (m : ℕ) → x ≡ y → unsigned_abs y ≤ m → m < 2 ^ hbits w → held w x ≡ y
held_as w x y m e h l = rw e (held_is w y m h l)

pub held_within : (w : Width) (x y : ℤ) (m : ℕ) → x ≡ y → unsigned_abs y ≤ m → m < 2 ^ hbits w → unsigned_abs (held w x) ≤ m
held_within w x y m e h l = rw e (held_size w y m h l)

-- a number that is stored in more bits than before
converted : (w v : Width) (x y : ℤ) → FitsSigned w x → FitsSigned v x → y ≡ held w x → held v y ≡ x
converted w v x y f g e = rw (e, to_z-of_z w x f) (to_z-of_z v x g)

-- ---- products
module _ (w v : Width) (a b x y : ℤ) (m : ℕ) (p : x ≡ held w a) (q : y ≡ held w b) (f : FitsSigned w a) (g : FitsSigned w b)
    (few : m < 2 ^ hbits v) (room : m * m < 2 ^ hbits v) (h : unsigned_abs a ≤ m) (k : unsigned_abs b ≤ m) where
  factors : held v x *ℤ held v y ≡ a *ℤ b
  factors = rw (
    converted w v a x f (fits_signed_from_abs v a (omega (arith, h, few))) p,
    converted w v b y g (fits_signed_from_abs v b (omega (arith, k, few))) q,
  )

  fits : FitsSigned v (a *ℤ b)
  fits = fits_signed_mul v a b m m h k room

  pub product_fits : FitsSigned v (held v x *ℤ held v y)
  product_fits = rw factors fits

  pub product_is : held v (held v x *ℤ held v y) ≡ a *ℤ b
  product_is = rw factors (to_z-of_z v (a *ℤ b) fits)

  pub product_size : unsigned_abs (held v (held v x *ℤ held v y)) ≤ m * m
  product_size = rw (product_is, unsigned_abs-mul a b) (mul-le-mul h k)

-- ---- sums and differences of numbers of 32 bits, in 64
-- a number that is read from one of 32 bits
pub wide : (x y : ℤ) → mag x < 2 ^ 31 → y ≡ held w32 x → mag y < 2 ^ 31
wide x y h e = omega (arith, ints)

pub sum_fits : (a b : ℤ) → mag a < 2 ^ 31 → mag b < 2 ^ 31 → FitsSigned w64 (held w64 a +ℤ held w64 b)
sum_fits a b p q = omega (arith, ints)

pub difference_fits : (a b : ℤ) → mag a < 2 ^ 31 → mag b < 2 ^ 31 → FitsSigned w64 (held w64 a -ℤ held w64 b)
difference_fits a b p q = omega (arith, ints)

module _ (a b c : ℤ) (p : mag a < 2 ^ 31) (q : mag b < 2 ^ 31) (r : mag c < 2 ^ 31) where
  pub add_add_fits : FitsSigned w64 (held w64 (held w64 a +ℤ held w64 b) +ℤ held w64 c)
  add_add_fits = omega (arith, ints)

  pub add_sub_fits : FitsSigned w64 (held w64 (held w64 a +ℤ held w64 b) -ℤ held w64 c)
  add_sub_fits = omega (arith, ints)

  pub sub_add_fits : FitsSigned w64 (held w64 (held w64 a -ℤ held w64 b) +ℤ held w64 c)
  sub_add_fits = omega (arith, ints)

  pub sub_sub_fits : FitsSigned w64 (held w64 (held w64 a -ℤ held w64 b) -ℤ held w64 c)
  sub_sub_fits = omega (arith, ints)
