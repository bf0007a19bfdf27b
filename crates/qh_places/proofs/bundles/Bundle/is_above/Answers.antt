-- The share and the rest bound the heights.
use Rattle.qh_model.proofs.Common.{to_z-of_z, w64, w128, SFits}
use Rattle.qh_places.proofs.BundleSlabs.{block_is_below}
use Rattle.qh_places.proofs.bundles.Bundle.is_above.Goals as goal

pub returns : goal.returns
returns c t =
    let fs : SFits w128 c.far_share-share.result = record { sfits = c.far_share-share.type_inv } in
    let fr : SFits w128 c.far_rest-rest.result = record { sfits = c.far_rest-rest.type_inv } in
    let ft : SFits w64 c.times_along-times.result = record { sfits = c.times_along-times.type_inv } in
    let share = simp to_z-of_z at c.far_share-share.ensures.value in let rest = simp to_z-of_z at c.far_rest-rest.ensures.value in
    let total = simp to_z-of_z at (c.is_deeper.ensures t) in
    block_is_below c.args.self.now c.args.block.now c.times_along-times.result c.far_share-share.result c.far_rest-rest.result
    c.times_along-times.ensures.some share rest total
