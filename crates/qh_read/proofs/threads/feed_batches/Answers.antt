use Rattle.std.proofs.Common.{arith, ◌≡◌, ◌∙◌, ◌+◌, ◌++◌, ℕ, List, length, length-append, ap, ap₂, sym, subst, append_assoc, Ok}
use Rattle.{std.proofs.lemmas.Result.err_from_is_err_and, std.specs.Io.KnownBytes.Consumes, qh_read.proofs.SourceLemmas.Consumes-append}
use Rattle.qh_read.{proofs.SourceLemmas.Stops-after, specs.contract.Holding.Fed, specs.steps.Segments.batch_text, specs.steps.Segments.IsParsed}
use Rattle.qh_read.proofs.threads.feed_batches.Goals as goal

-- reading stopped after the two batches
pub returns-in_err-at_end-2-clause-stops : goal.returns-in_err-at_end-2-clause-stops
returns-in_err-at_end-2-clause-stops g c =
    let s = c.loop-at_end.invariant.so_far in let done : List ℕ = batch_text c.loop-at_end.batches.done in
    let raw : List ℕ = batch_text c.loop-at_end.batches.raw in let all : List ℕ = s.given ++ (done ++ raw) in
    let count : c.loop-at_end.reader.count + length done + length raw ≡ c.args.reader.now.count + length all =
    omega (arith, s.count, length-append s.given (done ++ raw), length-append done raw) in
    let p = err_from_is_err_and c.from_residual-in_err-at_end-2.result c.from_residual-in_err-at_end-2.ensures.1 in
    rw (p.1, p.2) (Stops-after _ _ _ _ _ _ _ _ all _ s.took c.loop-at_end.invariant.steady count c.in_err-at_end-2.ensures.stops)

-- one batch was fed, and one more was read
pub loop-at_end-preserved : goal.loop-at_end-preserved
loop-at_end-preserved g c =
    let inv = c.loop-at_end.invariant in let s = inv.so_far in let done : List ℕ = batch_text c.loop-at_end.batches.done in
    let raw : List ℕ = batch_text c.loop-at_end.batches.raw in let more : List ℕ = batch_text c.turn.new.batches.next in
    let filled = c.in_ok-at_end-2.ensures.filled in
    let first : batch_text c.advance.new.self.done ≡ raw = ap batch_text c.advance.ensures.done ∙ c.in_ok-at_end-2.ensures.text in
    let second : batch_text c.advance.new.self.raw ≡ more = ap batch_text c.advance.ensures.raw in
    let both : (s.given ++ (done ++ raw)) ++ more ≡ (s.given ++ done) ++ (batch_text c.advance.new.self.done ++ batch_text c.advance.new.self.raw) =
    append_assoc s.given (done ++ raw) more ∙ ap (λ (u : List ℕ). s.given ++ u) (append_assoc done raw more) ∙ sym (append_assoc s.given done (raw ++ more))
    ∙ ap₂ (λ (u v : List ℕ). (s.given ++ done) ++ (u ++ v)) (sym first) (sym second) in
    record {
      so_far = record {
        given = s.given ++ done;
        took = subst (Consumes (g.S.Source.remaining c.args.source.now) (g.S.Source.remaining c.turn.new.source)) both
            (Consumes-append _ _ _ (s.given ++ (done ++ raw)) more s.took filled.given);
        fed = λ form bytes h. subst (Fed form c.turn.new.reader) (append_assoc bytes s.given done)
            (filled.fed form (bytes ++ s.given) (s.fed form bytes h));
        count = omega (arith, s.count, filled.count, length-append s.given done);
      };
      done = subst IsParsed (sym c.advance.ensures.done) c.in_ok-at_end-2.ensures.raw;
      raw = subst IsParsed (sym c.advance.ensures.raw) c.in_ok-at_end-2.ensures.next;
      fits = omega (arith, filled.fits, ap length first, ap length second);
      steady = c.in_ok-at_end-2.ensures.steady ∙ inv.steady;
      end = λ e. c.in_ok-at_end-2.ensures.end (ap Ok e);
    }

-- the last two batches
pub returns-clause-fed : goal.returns-clause-fed
returns-clause-fed g c =
    let s = c.loop-at_end.invariant.so_far in
    let last : List ℕ = batch_text c.loop-at_end.batches.done ++ batch_text c.loop-at_end.batches.raw in
    record {
      given = s.given ++ last;
      took = s.took;
      fed = λ form bytes h. subst (Fed form c.feed_last.new.reader) (append_assoc bytes s.given last)
          (c.in_ok-feed_last.ensures.fed form (bytes ++ s.given) (s.fed form bytes h));
      count = omega (
        arith,
        s.count,
        c.in_ok-feed_last.ensures.count,
        length-append s.given last,
        length-append (batch_text c.loop-at_end.batches.done) (batch_text c.loop-at_end.batches.raw),
      );
    }
