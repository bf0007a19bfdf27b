-- Marked corners are ids, and ids without a mark are hidden.
use Rattle.qh_model.proofs.{Common.Bool, Common.List, Common.ℕ, Common.subst, Common.sym, Common.◌⊎◌, Common.In, Common.IsCornerOf, lists.Filters.of_filter}
use Rattle.qh_check.{specs.steps.CornerMarks.IsMarked, specs.steps.CornerMarks.is_unmarked, proofs.Marks.corner_or_unmarked}
use Rattle.qh_check.proofs.convex.corners.hidden_ids.Goals as goal

pub returns : goal.returns
returns c =
    let ids = c.args.ids.now in let seen = c.in_ok-seen.seen.items in
    let left = rw c.deref-2.ensures.value at c.in_ok-hidden.ensures in
    record {
      listed = λ l m. c.in_ok-listed.ensures.marks l
          (subst (λ (ms : List Bool). IsMarked ms l) c.deref.ensures.value (c.are_all_marked.ensures c.if-not-are_all_marked.false l m));
      only = λ l m. (of_filter (is_unmarked seen) ids l (subst (λ (xs : List ℕ). In l xs) left m)).0;
      others = λ l m. subst (λ (xs : List ℕ). IsCornerOf c.args.triangles.now l ⊎ In l xs) (sym left)
          (corner_or_unmarked c.args.triangles.now seen ids l (c.in_ok-seen.ensures.marks l) m);
    }
