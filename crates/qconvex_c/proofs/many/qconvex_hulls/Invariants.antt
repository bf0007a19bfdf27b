-- The sets so far have their hulls, in the same buffers.
use Rattle.qconvex_c.{specs.steps.Buffers.AreSame, proofs.SetHulls.WrittenSoFar}
use Rattle.qconvex_c.proofs.many.qconvex_hulls.Given as goal

abbrev pub invariant-loop-number : goal.invariant-loop-number
invariant-loop-number l = record {
  written : WrittenSoFar l.points l.starts l.number l.initial.answers l.answers
      l.initial.buffers.extremes.now l.buffers.extremes.now l.initial.buffers.offsets.now l.buffers.offsets.now
      l.initial.buffers.corners.now l.buffers.corners.now;
  same : AreSame l.initial.buffers l.buffers;
}
