-- The greatest number with a given number of digits.
use Rattle.std.proofs.Common.{ℕ, ◌≤◌, ◌+◌, ◌*◌, zero, suc, arith}

-- the greatest number with one digit and `more` digits
abbrev pub greatest : ℕ → ℕ
greatest zero = 9
greatest (suc more) = 10 * greatest more + 9

-- the greatest number rises with the number of digits
pub greatest-rises : (i j : ℕ) → i ≤ j → greatest i ≤ greatest j
greatest-rises zero zero h = omega arith
greatest-rises zero (suc j) h = omega arith
greatest-rises (suc i) zero h = absurd (omega arith)
greatest-rises (suc i) (suc j) h = let fewer : greatest i ≤ greatest j = greatest-rises i j (omega arith) in omega arith
