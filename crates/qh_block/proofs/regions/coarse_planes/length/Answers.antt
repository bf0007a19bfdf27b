-- A product of two numbers of 64 bits fits 128 bits.
use Rattle.qh_model.proofs.Common.{◌^◌, ◌≤◌, arith, lit<, FitsSigned, ints, ℤ, unsigned_abs, w64, w128}
use Rattle.qh_block.proofs.Numbers.{product_fits, product_is, product_size}
use Rattle.qh_block.proofs.regions.coarse_planes.length.Goals as goal

-- a number of 64 bits has an absolute value of at most 2^63
size : (x : ℤ) → FitsSigned w64 x → unsigned_abs x ≤ 2 ^ 63
size x h = omega (arith, ints)

pub overflow_mul-result : goal.overflow_mul-result
overflow_mul-result c =
    product_fits w64 w128 c.args.steps c.args.step c.from.result c.from-2.result (2 ^ 63) c.from.ensures c.from-2.ensures
    c.ranges.steps c.ranges.step (lit< tt) (lit< tt) (size _ c.ranges.steps) (size _ c.ranges.step)

pub returns-clause-value : goal.returns-clause-value
returns-clause-value c =
    product_is w64 w128 c.args.steps c.args.step c.from.result c.from-2.result (2 ^ 63) c.from.ensures c.from-2.ensures
    c.ranges.steps c.ranges.step (lit< tt) (lit< tt) (size _ c.ranges.steps) (size _ c.ranges.step)

pub returns-clause-limit : goal.returns-clause-limit
returns-clause-limit c =
    product_size w64 w128 c.args.steps c.args.step c.from.result c.from-2.result (2 ^ 63) c.from.ensures c.from-2.ensures
    c.ranges.steps c.ranges.step (lit< tt) (lit< tt) (size _ c.ranges.steps) (size _ c.ranges.step)
