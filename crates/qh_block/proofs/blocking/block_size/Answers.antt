-- No smaller size gives so few blocks.
use Rattle.std.proofs.Common.{◌<◌, arith, le_refl}
use Rattle.std.proofs.lemmas.{Grind.div_ceil_times, Nat.mul-le}
use Rattle.qh_model.specs.{contract.Cut.blocks_of, declared.limits.TheConstants.BLOCK_LIMIT}
use Rattle.qh_block.proofs.blocking.block_size.Goals as goal

pub returns-clause-smallest : goal.returns-clause-smallest
returns-clause-smallest c = λ size large few.
    let some : 0 < size = omega (arith, c.requires, large) in
    let whole = (div_ceil_times c.args.count size some).0 in
    let fits = mul-le (blocks_of c.args.count size) size BLOCK_LIMIT size few (le_refl size) in
    let least = (div_ceil_times c.args.count BLOCK_LIMIT (omega arith)).1 in
    grind (arith, whole, fits, least, large, c.div_ceil.ensures, c.max.ensures)
