-- The distinct ids are ids of distinct points, so the verdict on the polygons is true.
use Rattle.qh_check.proofs.{ImageVerdicts.named_corners, Judgements.told}
use Rattle.qh_check.proofs.judging.judge_distinct.Goals as goal

pub verdict_on-requires : goal.verdict_on-requires
verdict_on-requires c = named_corners c.args.pts.now c.args.ids.now c.args.named.now c.args.faces.now c.args.faces.now (c.are_own.ensures c.if-are_own.true)

pub returns-then-are_own : goal.returns-then-are_own
returns-then-are_own c =
    told c.args.pts.now c.args.named.now c.args.faces.now c.args.ids.now c.args.faces.now _ c.requires.distinct
    (c.are_own.ensures c.if-are_own.true) c.in_ok-verdict.ensures

pub verdict_on-requires-in-Ok : goal.verdict_on-requires-in-Ok
verdict_on-requires-in-Ok c =
    let same = rw c.in-Ok.is at c.in_ok-polygons.ensures in
    rw c.deref.ensures.value (named_corners c.args.pts.now c.args.ids.now c.args.named.now c.args.faces.now c.in-Ok.polygons.items same)

pub returns-in_ok-verdict-in-Ok : goal.returns-in_ok-verdict-in-Ok
returns-in_ok-verdict-in-Ok c =
    let same = rw c.in-Ok.is at c.in_ok-polygons.ensures in
    told c.args.pts.now c.args.named.now c.args.faces.now c.args.ids.now c.in-Ok.polygons.items _ c.requires.distinct same
    (rw c.deref.ensures.value at c.in_ok-verdict-in-Ok.ensures)
