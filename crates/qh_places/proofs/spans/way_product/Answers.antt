-- The size of a product is that of its factors, multiplied.
use Rattle.qh_model.proofs.Common.{◌∙◌, ◌^◌, lit<, to_z-of_z, w64, w128}
use Rattle.qh_places.proofs.Products.{IsProduct, product, size_of}
use Rattle.qh_places.proofs.spans.way_product.Goals as goal

made : (c : goal.After-from-2) → IsProduct w128 c.from.result c.from-2.result c.args.way c.args.number (2 ^ 95)
made c =
    product w128 c.from.result c.from-2.result c.args.way c.args.number (2 ^ 32) (2 ^ 63)
    (c.from.ensures ∙ to_z-of_z w64 c.args.way c.ranges.way) (c.from-2.ensures ∙ to_z-of_z w64 c.args.number c.ranges.number)
    (record { sfits = c.from.type_inv }) (record { sfits = c.from-2.type_inv }) c.requires (size_of w64 c.args.number c.ranges.number) (lit< tt)

pub overflow_mul-result : goal.overflow_mul-result
overflow_mul-result c = (made c).fits

pub returns : goal.returns
returns c = record { value = (made c).value; limit = (made c).limit }
