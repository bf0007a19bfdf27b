-- Coordinates that code reads from two points, and a point that it makes of them.
use Rattle.qh_model.proofs.Common.{IsCoordinate, arith, ints, mag, of_z, to_z, w32, ℤ, ◌<◌, ◌^◌, ◌≡◌, ◌≤ℤ◌, ◌⊎◌}

-- a number as it is stored in 32 bits
abbrev held : ℤ → ℤ
held x = to_z w32 (of_z w32 x)

-- a coordinate that is read keeps its value
pub read_is : (x y : ℤ) → mag x < 2 ^ 31 → x ≡ y → held x ≡ y
read_is x y h e = omega (arith, ints)

-- one of two coordinates is a coordinate
pub one_of_two : (l h e x y : ℤ) → IsCoordinate l → IsCoordinate h → x ≡ l → y ≡ h → (e ≡ x) ⊎ (e ≡ y) → IsCoordinate (held e)
one_of_two = grind arith

-- ---- a coordinate r, made of a number e that is one of two coordinates x and y, which are l and h
module _ (l h e x y r : ℤ) (f : mag x < 2 ^ 31) (g : mag y < 2 ^ 31) (k : mag e < 2 ^ 31) (p : x ≡ l) (q : y ≡ h) (s : r ≡ held e) where
  pub made_one : (e ≡ held x) ⊎ (e ≡ held y) → (r ≡ l) ⊎ (r ≡ h)
  made_one = grind arith

  pub made_below : (e ≤ℤ held x) × (e ≤ℤ held y) → (r ≤ℤ l) × (r ≤ℤ h)
  made_below b = let one = b.0 in let two = b.1 in (omega (arith, ints, one), omega (arith, ints, two))

  pub made_above : (held x ≤ℤ e) × (held y ≤ℤ e) → (l ≤ℤ r) × (h ≤ℤ r)
  made_above b = let one = b.0 in let two = b.1 in (omega (arith, ints, one), omega (arith, ints, two))
