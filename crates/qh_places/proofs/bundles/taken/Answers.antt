-- The size of a product is that of its factors, multiplied.
use Rattle.qh_model.proofs.Common.{◌∙◌, ◌^◌, refl, lit<, to_z-of_z, w64, w128}
use Rattle.qh_places.proofs.Products.{IsProduct, product}
use Rattle.qh_places.proofs.bundles.taken.Goals as goal

made : (c : goal.After-from) → IsProduct w128 c.from.result c.args.number c.args.times c.args.number (2 ^ 110)
made c =
    product w128 c.from.result c.args.number c.args.times c.args.number (2 ^ 46) (2 ^ 64)
    (c.from.ensures ∙ to_z-of_z w64 c.args.times c.ranges.times) refl (record { sfits = c.from.type_inv }) c.ranges.number
    c.requires.times c.requires.number (lit< tt)

pub overflow_mul-result : goal.overflow_mul-result
overflow_mul-result c = (made c).fits

pub returns : goal.returns
returns c = record { value = (made c).value; limit = (made c).limit }
