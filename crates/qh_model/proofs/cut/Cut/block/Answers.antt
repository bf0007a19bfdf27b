use Rattle.qh_model.proofs.{Common.arith, Common.block_count, Common.bound, Common.common_steps, Common.◌+◌, Common.◌<◌, Common.◌≡◌, Cuts.block_ends}
use Rattle.qh_model.proofs.cut.Cut.block.Goals as goal

-- src/cut.rt:134:5
pub returns-clause-within : goal.returns-clause-within
returns-clause-within c =
    let bounds = c.self.inside.bounds.items in
    let inside : c.args.j < block_count bounds = rw (← c.self.view_is) at c.requires in
    let to : c.index-2.result.now ≡ bound bounds (c.args.j + 1) = grind (arith, common_steps, c.index-2.ensures, inside) in
    rw (← c.self.view_is) (grind (arith, to, block_ends bounds c.args.j c.self.invariant inside))
