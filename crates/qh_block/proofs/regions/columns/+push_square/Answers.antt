-- Each quarter is a part of the square.
use Rattle.qh_block.proofs.regions.columns.+push_square.Goals as goal

pub loop-number-init : goal.loop-number-init
loop-number-init t c cell olds = olds

pub loop-number-preserved : goal.loop-number-preserved
loop-number-preserved t c cell olds = c.in_ok-push_square.ensures (c.in_ok-part.ensures cell) (c.loop-number.invariant cell olds)

pub returns : goal.returns
returns t c cell olds = c.loop-number.invariant cell olds
