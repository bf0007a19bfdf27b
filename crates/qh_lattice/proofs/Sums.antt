-- Sums and differences of numbers of 64 bits that do not overflow.
use Rattle.qh_model.proofs.Common.{◌≡◌, ℕ, ◌*◌, ◌^◌, ◌≤◌, ◌<◌, arith, FitsSigned, to_z-of_z, ints, fits_signed_from_abs, ℤ, ◌+ℤ◌, ◌-ℤ◌, unsigned_abs, w64, to_z}
use Rattle.qh_model.proofs.Common.{of_z}

-- a number that was converted to 64 bits and back
abbrev pub through : ℤ → ℤ
through z = to_z w64 (of_z w64 z)

-- the code of a sum of three
pub record SumFits (x y z : ℤ) (m : ℕ) : Type 0 where
  pub two : FitsSigned w64 (through x +ℤ through y)
  pub whole : FitsSigned w64 (through (through x +ℤ through y) +ℤ through z)
  pub value : through (through (through x +ℤ through y) +ℤ through z) ≡ x +ℤ y +ℤ z
  pub limit : unsigned_abs (through (through (through x +ℤ through y) +ℤ through z)) ≤ 3 * m

pub sum_fits : (x y z : ℤ) (m : ℕ) → 3 * m < 2 ^ 63 → unsigned_abs x ≤ m → unsigned_abs y ≤ m → unsigned_abs z ≤ m → SumFits x y z m
sum_fits x y z m room hx hy hz =
    let fx : FitsSigned w64 x = fits_signed_from_abs w64 x (omega arith) in
    let fy : FitsSigned w64 y = fits_signed_from_abs w64 y (omega arith) in
    let fz : FitsSigned w64 z = fits_signed_from_abs w64 z (omega arith) in
    let two : unsigned_abs (x +ℤ y) ≤ 2 * m = omega (arith, ints) in
    let all : unsigned_abs (x +ℤ y +ℤ z) ≤ 3 * m = omega (arith, ints) in
    let ft : FitsSigned w64 (x +ℤ y) = fits_signed_from_abs w64 (x +ℤ y) (omega (arith, two)) in
    let fw : FitsSigned w64 (x +ℤ y +ℤ z) = fits_signed_from_abs w64 (x +ℤ y +ℤ z) (omega (arith, all)) in
    record { two = simp to_z-of_z ft; whole = simp to_z-of_z fw; value = simp to_z-of_z; limit = simp to_z-of_z all }

-- the code of a difference
pub difference_fits : (x y : ℤ) (m : ℕ) → 2 * m < 2 ^ 63 → unsigned_abs x ≤ m → unsigned_abs y ≤ m → FitsSigned w64 (through x -ℤ through y)
difference_fits x y m room hx hy =
    let fx : FitsSigned w64 x = fits_signed_from_abs w64 x (omega arith) in
    let fy : FitsSigned w64 y = fits_signed_from_abs w64 y (omega arith) in
    let size : unsigned_abs (x -ℤ y) ≤ 2 * m = omega (arith, ints) in
    let fd : FitsSigned w64 (x -ℤ y) = fits_signed_from_abs w64 (x -ℤ y) (omega (arith, size)) in simp to_z-of_z fd
