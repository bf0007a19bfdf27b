use Rattle.std.proofs.Common.{arith}
use Rattle.qh_model.proofs.Cuts.{even_is_cut}
use Rattle.qh_model.proofs.cut.Cut.even.Goals as goal

-- src/cut.rt:101:9
pub invariant_of-result : goal.invariant_of-result
invariant_of-result c =
    even_is_cut c.args.m c.args.size c.in-Ok.bounds.items c.requires.some c.requires.few
    (grind (arith, c.if-size-eq0.false)) (grind (arith, c.if-blocks-gt-BLOCK_LIMIT.false, c.div_ceil-blocks.ensures))
    c.in-Ok.ensures
