-- The size of a product is that of its factors, multiplied.
use Rattle.qh_model.proofs.Common.{◌*◌, refl, lit<, pos, w128}
use Rattle.{qh_pred.specs.contract.Bounds.normal_limit, qh_places.specs.declared.bundles.TheConstants.SCALE}
use Rattle.qh_places.proofs.Products.{IsProduct, product}
use Rattle.qh_places.proofs.bundles.scaled.Goals as goal

made : (c : goal.After-from)
    → IsProduct w128 c.args.component c.from.result c.args.component (pos c.args.times) (normal_limit * SCALE)
made c =
    product w128 c.args.component c.from.result c.args.component (pos c.args.times) normal_limit SCALE refl c.from.ensures
    c.ranges.component (record { sfits = c.from.type_inv }) c.requires.component c.requires.times (lit< tt)

pub overflow_mul-result : goal.overflow_mul-result
overflow_mul-result c = (made c).fits

pub returns : goal.returns
returns c = (made c).value
