use Rattle.std.proofs.Common.{◌≡◌, ◌≤◌, ◌-◌, vec_len}
use Rattle.{qh_model.specs.declared.limits.TheConstants.BYTE_LIMIT, qh_read.specs.declared.whole.TheConstants.PIECE_LENGTH, qh_read.specs.steps.Sources.FedOn}
use Rattle.qh_read.proofs.whole.feed_from.Given as goal

-- the reader was fed all bytes read from the source so far, and no read failed
abbrev pub invariant-loop-source : goal.invariant-loop-source
invariant-loop-source g l = record {
  so_far : FedOn l.fn.reader l.reader (g.S.Source.remaining l.fn.source) (g.S.Source.remaining l.source);
  steady : g.S.Source.failure_count l.source ≡ g.S.Source.failure_count l.fn.source;
  buffer : vec_len l.buffer ≡ PIECE_LENGTH;
  small : l.reader.count ≤ BYTE_LIMIT;
}

abbrev pub decreases-loop-source : goal.decreases-loop-source
decreases-loop-source g l = BYTE_LIMIT - l.reader.count
