-- The points of the other part are those of the ids that its places hold.
use Rattle.qh_model.proofs.{Common.IfOk-weaker, Common.place, lists.Images.in_map}
use Rattle.qh_parts.proofs.seam.marked.Marked.is_apart.Goals as goal

pub returns-clause-answers : goal.returns-clause-answers
returns-clause-answers c = IfOk-weaker c.are_over.result _ _ (λ _ _ _ ids held l i.
    let pts = c.args.self.pts.now in
    c.are_answered.ensures c.if-not-are_answered.false (place pts l)
    (rw (c.deref.ensures.value, held.points) (in_map (place pts) _ l ((held.same l).1 i)))) c.are_over.ensures
