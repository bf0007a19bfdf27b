use Rattle.qh_model.proofs.Common.{arith, ◌≡◌, ◌∙◌, ◌+◌, ◌*◌, ◌++◌, ℕ, List, take, length, length-append, ap, sym, append_assoc, take-add}
use Rattle.qh_read.specs.steps.Segments.{segment_size, segment_text}
use Rattle.{std.proofs.lemmas.List.length-set, qh_read.proofs.SegmentLists.segments_set}
use Rattle.qh_read.proofs.segments.feed_all.Goals as goal

-- the segments so far, and then one more
pub loop-i-preserved : goal.loop-i-preserved
loop-i-preserved c =
    let i = c.loop-i.i in let text : List ℕ = c.args.text.now in
    let size : ℕ = segment_size (length text) (length c.args.segments.now) in let so_far : List ℕ = take (i * size) text in
    let segment : List ℕ = segment_text size text i in
    let next : i * size + size ≡ (i + 1) * size = omega arith in
    let joined : so_far ++ segment ≡ take ((i + 1) * size) text = sym (take-add (i * size) size text) ∙ ap (λ (n : ℕ). take n text) next in
    let cut : List ℕ = c.segment_at.result.now in
    let is : cut ≡ segment = c.segment_at.ensures.text in
    record {
      fed = λ form before h. rw (append_assoc before so_far cut ∙ ap (λ (u : List ℕ). before ++ (so_far ++ u)) is ∙ ap (λ (u : List ℕ). before ++ u) joined) at
          (c.in_ok-feed_segment.ensures.fed form (before ++ so_far) (c.loop-i.invariant.fed form before h));
      kept = segments_set c.loop-i.segments text i c.none.result c.loop-i.invariant.kept c.none.ensures;
      same = length-set c.loop-i.segments i c.none.result ∙ c.loop-i.invariant.same;
      count = omega (arith, c.in_ok-feed_segment.ensures.count, c.loop-i.invariant.count, length-append so_far segment, ap length is, ap length joined);
    }
