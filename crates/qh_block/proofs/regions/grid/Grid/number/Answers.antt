-- The bitwise or of numbers of 32 bits has 32 bits.
use Rattle.std.proofs.{Common.ℕ, Common.◌^◌, Common.◌<◌, Common.Fits, Common.w64, Common.arith, lemmas.Nat.or_of_32}
use Rattle.qh_block.proofs.regions.grid.Grid.number.Goals as goal

fits : (n : ℕ) → n < 2 ^ 32 → Fits w64 n
fits n h = omega arith

pub overflow_cast-result : goal.overflow_cast-result
overflow_cast-result c = fits _ (or_of_32 c.spread-halves.result c.wrapping_shr.result c.spread-halves.type_inv c.wrapping_shr.type_inv)
