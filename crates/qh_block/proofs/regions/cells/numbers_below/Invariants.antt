-- The numbers so far, one for each step of the loop.
use Rattle.qh_model.proofs.Common.{◌≡◌, ◌≤◌, vec_len, vec_capacity, range_with_len}
use Rattle.qh_block.proofs.regions.cells.numbers_below.Given as goal

abbrev pub invariant-loop-number : goal.invariant-loop-number
invariant-loop-number l = (l.numbers.items ≡ range_with_len 0 l.number) × (vec_len l.numbers ≡ l.number) × (l.end ≤ vec_capacity l.numbers)
