-- The points of a run have witnesses.
use Rattle.{std.proofs.Common.arith, qh_parts_join.proofs.Runs.left_at_start, qh_parts_join.proofs.Runs.left_behind, qh_parts_join.proofs.Runs.all_done}
use Rattle.qh_parts.proofs.seam.witnesses.are_answered.Goals as goal

pub loop-run-init : goal.loop-run-init
loop-run-init c = left_at_start _ c.args.points.now

pub loop-run-preserved : goal.loop-run-preserved
loop-run-preserved c =
    left_behind _ _ _ _ _ _ c.loop-run.invariant c.split_at.ensures.front c.split_at.ensures.back (c.is_witness.ensures c.if-not-is_witness.false)

pub returns : goal.returns
returns c = λ _. all_done _ _ _ c.loop-run.invariant (omega arith)
