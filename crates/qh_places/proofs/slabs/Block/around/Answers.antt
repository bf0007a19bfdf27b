-- The points are in the box, and reach no further than the one that reaches furthest.
use Rattle.qh_model.proofs.Common.{to_z-of_z, w64, SFits}
use Rattle.qh_places.proofs.slabs.Block.around.Goals as goal

pub returns : goal.returns
returns c = λ k from to l.
    let f : SFits w64 c.furthest.result = record { sfits = c.furthest.type_inv } in
    record { within = c.around.ensures k from to l; low = simp to_z-of_z (c.furthest.ensures k l) }
