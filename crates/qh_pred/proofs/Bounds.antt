-- Bounds of sums and products of whole numbers by their absolute values, and the results of code with bounded numbers.
use Rattle.qh_model.proofs.Common.{FitsSigned, IsPlace, Vector, arith, dot, fits_signed_from_abs, inl, inr, ints, lit<, minus, mul-le-mul, mul-le-mul_left}
use Rattle.qh_model.proofs.Common.{of_z, pos, rules, to_z, to_z-of_z, unsigned_abs, unsigned_abs-mul, w128, w64, ℕ, ℤ, ◌*ℤ◌, ◌*◌, ◌+ℤ◌, ◌+◌, ◌-ℤ◌, ◌<◌, ◌^◌}
use Rattle.qh_model.proofs.Common.{◌≡◌, ◌≤ℤ◌, ◌≤◌, ◌⊎◌}
use Rattle.qh_pred.specs.{contract.Bounds.IsNormal, contract.Bounds.normal_limit, steps.Differences.IsDifference, steps.Differences.offset_limit}

-- the absolute value of a sum
within-add : (x y : ℤ) (m n : ℕ) → unsigned_abs x ≤ m → unsigned_abs y ≤ n → unsigned_abs (x +ℤ y) ≤ m + n
within-add x y m n h k = omega (arith, ints)

-- the absolute value of a difference
pub within-sub : (x y : ℤ) (m n : ℕ) → unsigned_abs x ≤ m → unsigned_abs y ≤ n → unsigned_abs (x -ℤ y) ≤ m + n
within-sub x y m n h k = omega (arith, ints)

-- the absolute value of a product
within-mul : (x y : ℤ) (m n : ℕ) → unsigned_abs x ≤ m → unsigned_abs y ≤ n → unsigned_abs (x *ℤ y) ≤ m * n
within-mul x y m n h k = rw (unsigned_abs-mul x y) (mul-le-mul h k)

-- a number of absolute value below 2^63 fits 64 bits
pub fits : (x : ℤ) (m : ℕ) → unsigned_abs x ≤ m → m < 2 ^ 63 → FitsSigned w64 x
fits x m h k = fits_signed_from_abs w64 x (omega arith)

-- a number of absolute value below 2^127 fits 128 bits
pub fits_wide : (x : ℤ) (m : ℕ) → unsigned_abs x ≤ m → m < 2 ^ 127 → FitsSigned w128 x
fits_wide x m h k = fits_signed_from_abs w128 x (omega arith)

-- the bounds of a b - c d in 64 bits
pub record MinorFits (a b c d : ℤ) (k : ℕ) : Type 0 where
  pub first : FitsSigned w64 (a *ℤ b)
  pub second : FitsSigned w64 (c *ℤ d)
  pub whole : FitsSigned w64 (a *ℤ b -ℤ c *ℤ d)
  pub bound : unsigned_abs (a *ℤ b -ℤ c *ℤ d) ≤ k

-- two rectangles side by side in a square
rectangles : (m a b c d : ℕ) → a + d ≤ m → b ≤ m → c ≤ m → a * b + c * d ≤ m * m
rectangles m a b c d s hb hc =
    let p : a * b ≤ a * m = mul-le-mul_left a hb in
    let q : d * c ≤ d * m = mul-le-mul_left d hc in
    let r : m * (a + d) ≤ m * m = mul-le-mul_left m s in
    omega (arith, p, q, r)

-- two numbers on the same side of 0
abbrev OnOneSide : ℤ → ℤ → Type 0
OnOneSide x y = ((pos 0 ≤ℤ x) × (pos 0 ≤ℤ y)) ⊎ ((x ≤ℤ pos 0) × (y ≤ℤ pos 0))

-- numbers at a distance of at most m are on the same side of 0, or the sum of their absolute values is at most m
sizes_apart : (m : ℕ) (x y : ℤ) → unsigned_abs (x -ℤ y) ≤ m → (unsigned_abs x + unsigned_abs y ≤ m) ⊎ OnOneSide x y
sizes_apart = grind arith

-- the distance of numbers on the same side of 0 is at most the larger absolute value
one_side-sub : (m : ℕ) (x y : ℤ) → OnOneSide x y → unsigned_abs x ≤ m → unsigned_abs y ≤ m → unsigned_abs (x -ℤ y) ≤ m
one_side-sub = grind arith

-- the products of two pairs, each on one side of 0, are on one side of 0
one_side-mul : (a b c d : ℤ) → OnOneSide a d → OnOneSide c b → OnOneSide (a *ℤ b) (c *ℤ d)
one_side-mul = search rules

-- twice the area of a triangle in a square of side m, by its two sides (a, c) and (d, b) from one corner
area-within : (m : ℕ) (a b c d : ℤ) → unsigned_abs a ≤ m → unsigned_abs b ≤ m → unsigned_abs c ≤ m → unsigned_abs d ≤ m
    → unsigned_abs (a -ℤ d) ≤ m → unsigned_abs (c -ℤ b) ≤ m
    → unsigned_abs (a *ℤ b -ℤ c *ℤ d) ≤ m * m
area-within m a b c d ha hb hc hd wide high = by_cases (sizes_apart m a d wide) (sizes_apart m c b high)
  where
    sum : unsigned_abs a * unsigned_abs b + unsigned_abs c * unsigned_abs d ≤ m * m → unsigned_abs (a *ℤ b -ℤ c *ℤ d) ≤ m * m
    sum l = let r = within-sub (a *ℤ b) (c *ℤ d) (unsigned_abs a * unsigned_abs b) (unsigned_abs c * unsigned_abs d)
        (within-mul a b _ _ (omega arith) (omega arith)) (within-mul c d _ _ (omega arith) (omega arith)) in
        omega (arith, r, l)

    by_cases : (unsigned_abs a + unsigned_abs d ≤ m) ⊎ OnOneSide a d
        → (unsigned_abs c + unsigned_abs b ≤ m) ⊎ OnOneSide c b → unsigned_abs (a *ℤ b -ℤ c *ℤ d) ≤ m * m
    by_cases (inl l) k = sum (rectangles m (unsigned_abs a) (unsigned_abs b) (unsigned_abs c) (unsigned_abs d) l hb hc)
    by_cases (inr s) (inl l) = let r = rectangles m (unsigned_abs c) (unsigned_abs d) (unsigned_abs a) (unsigned_abs b) l hd ha in sum (omega (arith, r))
    by_cases (inr s) (inr t) = one_side-sub (m * m) (a *ℤ b) (c *ℤ d) (one_side-mul a b c d s t) (within-mul a b m m ha hb) (within-mul c d m m hc hd)

-- this area fits, with its two products
pub minor_fits : (m : ℕ) (a b c d : ℤ) → m * m < 2 ^ 63 → unsigned_abs a ≤ m → unsigned_abs b ≤ m → unsigned_abs c ≤ m
    → unsigned_abs d ≤ m → unsigned_abs (a -ℤ d) ≤ m → unsigned_abs (c -ℤ b) ≤ m
    → MinorFits a b c d (m * m)
minor_fits = search (rules, area-within, fits, within-mul)

-- the difference of two vectors from a, to b and to c, is a difference of points
pub differences : (a b c p q : Vector) → p ≡ minus b a → q ≡ minus c a → IsPlace b → IsPlace c → IsDifference (minus p q)
differences = grind (arith, ints)

-- a number that was converted to 128 bits and back
abbrev pub through : ℤ → ℤ
through z = to_z w128 (of_z w128 z)

-- a number that was converted to 64 bits and back
abbrev pub through_half : ℤ → ℤ
through_half z = to_z w64 (of_z w64 z)

-- the product of two components in the code
abbrev handed : ℤ → ℤ → ℤ
handed x y = through_half x *ℤ through_half y

-- 64 bits hold the components of a normal
kept : (x y p : ℤ) → unsigned_abs x ≤ normal_limit → unsigned_abs y ≤ normal_limit → p ≡ handed x y → p ≡ x *ℤ y
kept = grind arith

-- the code of the scalar product of u and v, from the three products
pub record DotFits (u v : Vector) (p q r : ℤ) : Type 0 where
  pub two : FitsSigned w128 (through p +ℤ through q)
  pub whole : FitsSigned w128 (through (through p +ℤ through q) +ℤ through r)
  pub value : through (through (through p +ℤ through q) +ℤ through r) ≡ dot u v

-- a scalar product of vectors within the limit of normals fits 128 bits
pub dot_fits : (u v : Vector) (p q r : ℤ) → IsNormal u → IsNormal v → p ≡ handed u.x v.x → q ≡ handed u.y v.y → r ≡ handed u.z v.z → DotFits u v p q r
dot_fits u v p q r hu hv ep eq er = rw (kept u.x v.x p hu.x hv.x ep, kept u.y v.y q hu.y hv.y eq, kept u.z v.z r hu.z hv.z er)
    (sizes (normal_limit * normal_limit) (lit< tt) (within-mul u.x v.x normal_limit normal_limit hu.x hv.x)
    (within-mul u.y v.y normal_limit normal_limit hu.y hv.y) (within-mul u.z v.z normal_limit normal_limit hu.z hv.z))
  where
    sizes : (m : ℕ) → 3 * m < 2 ^ 127 → unsigned_abs (u.x *ℤ v.x) ≤ m → unsigned_abs (u.y *ℤ v.y) ≤ m
        → unsigned_abs (u.z *ℤ v.z) ≤ m → DotFits u v (u.x *ℤ v.x) (u.y *ℤ v.y) (u.z *ℤ v.z)
    sizes m s hx hy hz =
        let two = within-add (u.x *ℤ v.x) (u.y *ℤ v.y) m m hx hy in
        let whole = within-add (u.x *ℤ v.x +ℤ u.y *ℤ v.y) (u.z *ℤ v.z) (m + m) m two hz in
        let fx : FitsSigned w128 (u.x *ℤ v.x) = fits_wide (u.x *ℤ v.x) m hx (omega arith) in
        let fy : FitsSigned w128 (u.y *ℤ v.y) = fits_wide (u.y *ℤ v.y) m hy (omega arith) in
        let fz : FitsSigned w128 (u.z *ℤ v.z) = fits_wide (u.z *ℤ v.z) m hz (omega arith) in
        let ft : FitsSigned w128 (u.x *ℤ v.x +ℤ u.y *ℤ v.y) = fits_wide (u.x *ℤ v.x +ℤ u.y *ℤ v.y) (m + m) two (omega arith) in
        let fw : FitsSigned w128 (u.x *ℤ v.x +ℤ u.y *ℤ v.y +ℤ u.z *ℤ v.z) =
        fits_wide (u.x *ℤ v.x +ℤ u.y *ℤ v.y +ℤ u.z *ℤ v.z) (m + m + m) whole (omega arith) in
        record { two = simp to_z-of_z ft; whole = simp to_z-of_z fw; value = simp to_z-of_z }

-- the absolute value of a scalar product of vectors within the limit of normals
pub dot-within : (u v : Vector) → IsNormal u → IsNormal v → unsigned_abs (dot u v) ≤ offset_limit
dot-within = grind (arith, within-mul, within-add)
