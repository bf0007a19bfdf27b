-- One more id is marked.
use Rattle.std.proofs.Common.{◌≡◌, true, arith}
use Rattle.{qh_surface.specs.contract.Walks.mark_at, qh_places.proofs.Listed.each_listed}
use Rattle.qh_parts_join.proofs.parts.set_marks.Goals as goal

pub returns-clause-set : goal.returns-clause-set
returns-clause-set c = λ l i.
    each_listed (λ j. mark_at c.loop-id.marks.items j ≡ true) c.args.ids.now c.loop-id.id-index (omega arith) c.loop-id.invariant.1 l i
