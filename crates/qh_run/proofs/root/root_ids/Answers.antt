-- The value of the root has the hull of the set's ids.
use Rattle.qh_run.proofs.Roots.{root_stands}
use Rattle.qh_run.proofs.root.root_ids.Goals as goal

pub returns-in-Ok-Some-clause-stand : goal.returns-in-Ok-Some-clause-stand
returns-in-Ok-Some-clause-stand g c =
    let set = c.args.set in
    root_stands set.pts.now set.ids.now set.cut.now c.in-Ok-Some.root.ids.items set.distinct c.blocks-2.ensures.cut set.whole
    (rw (c.in-Ok-Some.field-0-is) at c.in-Ok-Some.ensures)
