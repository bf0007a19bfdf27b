use Rattle.std.proofs.Common.{◌≡◌, ◌≤◌, ◌<◌, ◌+◌, ◌++◌, ◌∙◌, ℕ, List, arith, ap, length, length-append, length-take, take, drop, refl, sym, append_assoc, Err}
use Rattle.std.proofs.{Common.inl, Common.inr, Math.Seq.take-append_seam, lemmas.Bool.cases_lt, lemmas.Result.err_from_is_err_and}
use Rattle.{qh_model.specs.declared.limits.TheConstants.BYTE_LIMIT, qh_read.proofs.SourceLemmas.Consumes-append, qh_read.specs.contract.ReadFaults.read_fault}
use Rattle.qh_read.specs.{contract.ReadFaults.IsTextFault, declared.fault.FeedFault.FeedFault, declared.whole.TheConstants.PIECE_LENGTH, steps.Sources.Stops}
use Rattle.qh_model.specs.declared.read_fault.ReadFault.TheVariants as faults
use Rattle.qh_read.specs.declared.fault.FeedFault.TheVariants as refusals
use Rattle.qh_read.proofs.whole.feed_from.Goals as goal

-- each fault has one refusal
same_refusal : (f h : FeedFault) → read_fault f ≡ read_fault h → f ≡ h
same_refusal refusals.Big refusals.Big e = refl
same_refusal refusals.Memory refusals.Memory e = refl
same_refusal f h e = cc

-- no refusal is a fault of the device or the text
no_device : (f : FeedFault) → read_fault f ≡ faults.Device → ⊥
no_device refusals.Big h = cc
no_device refusals.Memory h = cc

no_text : (f : FeedFault) → IsTextFault (read_fault f) → ⊥
no_text refusals.Big t = t.2 refl
no_text refusals.Memory t = t.0 refl

-- the content written back to a vector by a slice of its length
written : (n : ℕ) (new rest : List ℕ) → length new ≡ n → take n (new ++ rest) ≡ new
written n new rest e = ap (λ (k : ℕ). take k (new ++ rest)) (sym e) ∙ take-append_seam new rest

-- one more piece
pub loop-source-preserved : goal.loop-source-preserved
loop-source-preserved g c =
    let s = c.loop-source.invariant.so_far in let piece : List ℕ = take c.in_ok-count.count c.read.new.buf in
    let len : length c.read.new.buf ≡ c.loop-source.buffer.len = omega (arith, c.deref_mut.ensures.len) in
    let same : c.deref.result.now ≡ c.read.new.buf = c.deref.ensures.value
    ∙ written c.loop-source.buffer.len c.read.new.buf (drop (length c.read.new.buf) c.loop-source.buffer.items) len in
    let is : take c.in_ok-count.count c.deref.result.now ≡ piece = ap (take c.in_ok-count.count) same in
    record {
      so_far = record {
        given = s.given ++ piece;
        took = Consumes-append _ _ _ s.given piece s.took c.in_ok-count.ensures.bytes.0;
        fed = λ form bytes h. rw (ap (λ (u : List ℕ). (bytes ++ s.given) ++ u) is ∙ append_assoc bytes s.given piece) at
            (c.in_ok-feed.ensures.fed form (bytes ++ s.given) (s.fed form bytes h));
        count = omega (arith, s.count, c.in_ok-feed.ensures.count, ap length is, length-append s.given piece);
      };
      steady = c.in_ok-count.ensures.kept ∙ c.loop-source.invariant.steady;
      buffer = c.loop-source.invariant.buffer;
      small = elim (cases_lt BYTE_LIMIT (c.loop-source.reader.count + length (take c.in_ok-count.count c.deref.result.now))) [
        | inl passed ↦ (let refused = c.in_ok-feed.ensures.big.1 passed in cc)
        | inr h ↦ omega (arith, h, c.in_ok-feed.ensures.count)
      ];
    }

-- the refused piece was no longer than the buffer; if an allocation failed, the limit was not exceeded
pub returns-in_err-feed-clause-stops : goal.returns-in_err-feed-clause-stops
returns-in_err-feed-clause-stops g c =
    let s = c.loop-source.invariant.so_far in let piece : List ℕ = take c.in_ok-count.count c.read.new.buf in
    let fed : List ℕ = take c.in_ok-count.count c.deref.result.now in
    let fits : c.in_ok-count.count ≤ PIECE_LENGTH = omega (arith, c.in_ok-count.ensures.bound, c.deref_mut.ensures.len, c.loop-source.invariant.buffer) in
    let same : length fed ≡ length piece = omega (arith, length-take c.in_ok-count.count c.read.new.buf, length-take c.in_ok-count.count c.deref.result.now) in
    let few : length piece ≤ PIECE_LENGTH = omega (arith, fits, length-take c.in_ok-count.count c.read.new.buf) in
    let p = err_from_is_err_and c.from_residual-in_err-feed.result c.from_residual-in_err-feed.ensures.1 in
    let f : FeedFault = c.in_err-feed.field-0.0 in
    let took = Consumes-append _ _ _ s.given piece s.took c.in_ok-count.ensures.bytes.0 in let new = c.read.new.self in
    let stops : Stops (read_fault f) c.args.reader.now.count (g.S.Source.remaining c.args.source.now) (g.S.Source.remaining new)
    (g.S.Source.failure_count c.args.source.now) (g.S.Source.failure_count new) = record {
      big = λ e.
          let passed : BYTE_LIMIT < c.loop-source.reader.count + length fed = c.in_err-feed.ensures.big.0 (ap Err (same_refusal f refusals.Big e)) in (
            s.given ++ piece,
            took,
            (
              omega (arith, length-append s.given piece, s.count, passed, same),
              omega (arith, length-append s.given piece, s.count, c.loop-source.invariant.small, few),
            ),
          );
      big_first = λ e.
          let within : c.loop-source.reader.count + length fed ≤ BYTE_LIMIT =
          elim (cases_lt BYTE_LIMIT (c.loop-source.reader.count + length fed)) [
            | inl passed ↦ (let b = c.in_err-feed.ensures.big.1 passed in let m = same_refusal f refusals.Memory e in cc)
            | inr h ↦ h
          ] in (s.given ++ piece, took, omega (arith, length-append s.given piece, s.count, within, same));
      device = λ e. absurd (no_device f e);
      no_device = λ e. c.in_ok-count.ensures.kept ∙ c.loop-source.invariant.steady;
      no_text = no_text f;
    } in
    rw (p.1, p.2) stops
