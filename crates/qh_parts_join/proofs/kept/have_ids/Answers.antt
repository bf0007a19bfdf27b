-- Each extreme id is one of a part, and so a corner of it.
use Rattle.qh_parts_join.proofs.PartCorners.{are_kept}
use Rattle.qh_parts_join.proofs.kept.have_ids.Goals as goal

pub returns-clause-inside : goal.returns-clause-inside
returns-clause-inside c = λ all l. (c.in_ok-all.ensures all l).0

pub returns-clause-kept : goal.returns-clause-kept
returns-clause-kept c = λ all kept keeps pts are.
    are_kept pts c.args.ids.now c.args.shared.now kept c.args.parts.now are (c.in_ok-all.ensures all)
    (c.are_in.ensures c.if-not-are_in.false) keeps
