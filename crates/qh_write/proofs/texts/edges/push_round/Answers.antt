-- At first all sides remain.
use Rattle.{std.proofs.Common.◌∙◌, std.proofs.Common.ap, qh_write.proofs.EdgeKeyLemmas.pairs_along_sides, qh_write.proofs.EdgeKeyLemmas.pairs_of_sides}
use Rattle.qh_write.proofs.texts.edges.push_round.Goals as goal

pub loop-from-init : goal.loop-from-init
loop-from-init c = λ end added.
    rw (ap pairs_along_sides (c.into_iter-from-iterator.ensures.into_iter_gives ∙ c.of-from-items.ensures.sides) ∙ pairs_of_sides c.args.face.now) at added
