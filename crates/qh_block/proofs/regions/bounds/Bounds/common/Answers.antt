-- Ends between those of the bounds.
use Rattle.std.proofs.{Common.arith, lemmas.Int.ints}
use Rattle.qh_block.proofs.regions.bounds.Bounds.common.Goals as goal

pub returns : goal.returns
returns c p w =
    let low = c.greatest_of.ensures.one in let high = c.least_of.ensures.one in let x = w.x in let y = w.y in let z = w.z in
    record {
      x = (omega (arith, ints, low.x, x), omega (arith, ints, high.x, x));
      y = (omega (arith, ints, low.y, y), omega (arith, ints, high.y, y));
      z = (omega (arith, ints, low.z, z), omega (arith, ints, high.z, z));
    }
