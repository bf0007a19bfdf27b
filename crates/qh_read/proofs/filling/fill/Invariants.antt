use Rattle.qh_model.proofs.Common.{◌≡◌, ◌≤◌, ◌+◌, ◌-◌, length, take, Consumes}
use Rattle.qh_model.specs.declared.limits.TheConstants.{BYTE_LIMIT}
use Rattle.qh_read.proofs.filling.fill.Given as goal

-- the buffer begins with the bytes read from the source so far, and no read failed
abbrev pub invariant-loop-count : goal.invariant-loop-count
invariant-loop-count g l = record {
  given : Consumes (g.S.Source.remaining l.fn.source) (g.S.Source.remaining l.source) (take l.count l.bytes);
  steady : g.S.Source.failure_count l.source ≡ g.S.Source.failure_count l.fn.source;
  len : length l.bytes ≡ length l.fn.bytes;
  fits : l.fn.before + l.count ≤ BYTE_LIMIT;
  within : l.count ≤ length l.bytes;
}

abbrev pub decreases-loop-count : goal.decreases-loop-count
decreases-loop-count g l = BYTE_LIMIT - l.count
