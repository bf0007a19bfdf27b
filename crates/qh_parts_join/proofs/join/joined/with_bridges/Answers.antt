-- The copies are the bridges, and come after the others.
use Rattle.std.proofs.lemmas.{List.Sorted.IsPermutation-append_right, List.Sorted.IsPermutation-trans, Result.IfOk-weaker}
use Rattle.qh_parts_join.proofs.join.joined.with_bridges.Goals as goal

pub returns : goal.returns
returns c =
    let more = rw c.in_ok-copies_of.ensures at c.in_ok-more.ensures in
    IfOk-weaker c.and.result _ _ (λ v p. IsPermutation-trans _ _ _ (IsPermutation-append_right c.args.given _ _ more) p) c.and.ensures
