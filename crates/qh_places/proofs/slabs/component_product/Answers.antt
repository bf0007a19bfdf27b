-- The size of a product is that of its factors, multiplied.
use Rattle.qh_model.proofs.Common.{◌∙◌, ◌^◌, lit<, to_z-of_z, w16, w32, w64}
use Rattle.qh_places.proofs.Products.{IsProduct, product, size_of}
use Rattle.qh_places.proofs.slabs.component_product.Goals as goal

made : (c : goal.After-from-2) → IsProduct w64 c.from.result c.from-2.result c.args.component c.args.coordinate (2 ^ 46)
made c =
    product w64 c.from.result c.from-2.result c.args.component c.args.coordinate (2 ^ 15) (2 ^ 31)
    (c.from.ensures ∙ to_z-of_z w16 c.args.component c.ranges.component)
    (c.from-2.ensures ∙ to_z-of_z w32 c.args.coordinate c.ranges.coordinate) (record { sfits = c.from.type_inv })
    (record { sfits = c.from-2.type_inv }) (size_of w16 c.args.component c.ranges.component) (size_of w32 c.args.coordinate c.ranges.coordinate) (lit< tt)

pub overflow_mul-result : goal.overflow_mul-result
overflow_mul-result c = (made c).fits

pub returns : goal.returns
returns c = record { value = (made c).value; limit = (made c).limit }
