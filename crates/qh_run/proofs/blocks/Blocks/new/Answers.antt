use Rattle.qh_run.proofs.blocks.Blocks.new.Goals as goal

pub invariant_of-result : goal.invariant_of-result
invariant_of-result c =
    let r = c.requires in record { indices = r.indices; rising = r.set.rising; distinct = r.set.distinct; whole = r.whole }
