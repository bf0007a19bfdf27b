use Rattle.std.proofs.lemmas.Result.{IfOk-weaker}
use Rattle.qh_model.proofs.hulls.RightValues.{block_set, right_of_leaf}
use Rattle.qh_run.proofs.blocks.Blocks.reduced.Goals as goal

pub extremes_among-requires-clause-set : goal.extremes_among-requires-clause-set
extremes_among-requires-clause-set c =
    let set = c.args.self.now in
    rw (c.block-from.ensures.from, c.block-from.ensures.to)
    (block_set set.pts.now set.ids.now set.cut.now c.args.block
    (record { rising = set.rising; distinct = set.distinct }))

pub returns : goal.returns
returns c =
    let set = c.args.self.now in
    let found = rw (c.block-from.ensures.from, c.block-from.ensures.to) at c.extremes_among.ensures in
    IfOk-weaker c.extremes_among.result _ _ (λ v x. right_of_leaf set.pts.now set.ids.now set.cut.now c.args.block v.ids.items c.requires x) found
