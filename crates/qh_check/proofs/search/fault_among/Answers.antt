-- One more polygon is found to be a piece, or has a fault.
use Rattle.qh_model.proofs.Common.{[], arith, below_more, get_or_default}
use Rattle.qh_check.proofs.search.fault_among.Goals as goal

pub loop-position-preserved : goal.loop-position-preserved
loop-position-preserved c =
    let same = get_or_default c.args.claim.polygons.now c.loop-position.position c.index-claim-position.result [] c.loop-position-test.true in
    below_more _ _ c.loop-position.invariant (rw same at (rw c.in_default.is at c.in_ok-fault.ensures))

pub returns-in-Some : goal.returns-in-Some
returns-in-Some c =
    let same = get_or_default c.args.claim.polygons.now c.loop-position.position c.index-claim-position.result [] c.loop-position-test.true in
    (c.loop-position-test.true, rw same at (rw c.in-Some.is at c.in_ok-fault.ensures))

pub returns : goal.returns
returns c = λ k d l.
    rw (get_or_default c.args.claim.polygons.now k [] d l) at (c.loop-position.invariant k (omega (arith, c.loop-position-test.false, l)))
