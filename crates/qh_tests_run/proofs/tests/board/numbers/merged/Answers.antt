use Rattle.std.proofs.Common.{arith, subst, ap, ◌∙◌, ◌++◌, IsPermutation}
use Rattle.std.proofs.lemmas.Map.Keys.{ge_from_not_lt}
use Rattle.qh_tests_run.proofs.RisingLists.{merge_rises}
use Rattle.qh_tests_run.proofs.tests.board.numbers.merged.Goals as goal

pub returns : goal.returns
returns c = λ blocks i lo hi ra rb. merge_rises blocks i c.args.a.items c.args.b.items c.sort.new.self.items lo hi ra rb
    (subst (λ l. IsPermutation l c.sort.new.self.items)
    (c.in_ok-extend_from_slice.ensures.items ∙ ap (λ l. c.args.a.items ++ l) c.deref.ensures.value)
    c.sort.ensures.permutation)
    (λ k h. ge_from_not_lt _ _ (c.in_ok-sort.ensures.sorted k 0 (omega arith) h))
