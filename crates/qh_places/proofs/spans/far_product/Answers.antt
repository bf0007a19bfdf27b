-- The product at the far end is the greatest.
use Rattle.qh_model.proofs.Common.{subst, sym, ◌*ℤ◌, ◌≤ℤ◌, to_z-of_z, w64, w128, SFits}
use Rattle.qh_pred.proofs.Ranges.{greatest}
use Rattle.qh_places.proofs.spans.far_product.Goals as goal

pub returns-clause-value : goal.returns-clause-value
returns-clause-value c = λ r within.
    let fw : SFits w64 c.args.way = c.ranges.way in
    let fl : SFits w64 c.args.low = c.ranges.low in
    let fh : SFits w64 c.args.high = c.ranges.high in
    let fe : SFits w64 c.far_end.result = record { sfits = c.far_end.type_inv } in
    let fp : SFits w128 c.way_product.result = record { sfits = c.way_product.type_inv } in
    let far = simp to_z-of_z at c.far_end.ensures in let value = simp to_z-of_z at c.way_product.ensures.value in
    simp to_z-of_z (subst (λ x. (c.args.way *ℤ r) ≤ℤ x) (sym value) (greatest c.args.way c.args.low c.args.high c.far_end.result r far within))
