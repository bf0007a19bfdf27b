use Rattle.std.proofs.Common.{arith}
use Rattle.qh_serve.proofs.EvenCuts.{even_positions}
use Rattle.qh_serve.proofs.hulls.even_cut.Goals as goal

-- an even cut of some positions cuts all of them
pub returns-in-Ok : goal.returns-in-Ok
returns-in-Ok c = even_positions c.args.count c.block_size-size.result c.in-Ok.cut
    (grind (arith, c.block_size-size.ensures.least, c.requires.wanted)) c.in-Ok.ensures.even
