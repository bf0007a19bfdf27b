use Rattle.std.proofs.Common.{◌≡◌, ◌≤◌, ◌+◌, ◌-◌, ◌*◌, ◌++◌, true, cond, length}
use Rattle.{std.specs.Io.KnownBytes.IsAtEnd, qh_model.specs.declared.limits.TheConstants.BYTE_LIMIT, qh_read.proofs.SourceLemmas.FedBut}
use Rattle.qh_read.specs.steps.Segments.{batch_text, IsParsed}
use Rattle.qh_read.proofs.threads.feed_batches.Given as goal

-- the bytes read from the source are those fed to the reader, followed by the two batches
abbrev pub invariant-loop-at_end : goal.invariant-loop-at_end
invariant-loop-at_end g l = record {
  so_far : FedBut l.fn.reader l.reader (batch_text l.batches.done ++ batch_text l.batches.raw)
      (g.S.Source.remaining l.fn.source) (g.S.Source.remaining l.source);
  done : IsParsed l.batches.done;
  raw : IsParsed l.batches.raw;
  fits : l.reader.count + length (batch_text l.batches.done) + length (batch_text l.batches.raw) ≤ BYTE_LIMIT;
  steady : g.S.Source.failure_count l.source ≡ g.S.Source.failure_count l.fn.source;
  end : l.at_end ≡ true → IsAtEnd (g.S.Source.remaining l.source);
}

abbrev pub decreases-loop-at_end : goal.decreases-loop-at_end
decreases-loop-at_end g l = 2 * (BYTE_LIMIT - (l.reader.count + length (batch_text l.batches.done) + length (batch_text l.batches.raw))) + cond l.at_end 0 1
