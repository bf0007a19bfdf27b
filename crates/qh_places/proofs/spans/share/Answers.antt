-- The size of a product is that of its factors, multiplied.
use Rattle.qh_model.proofs.Common.{rules, ◌∙◌, ◌^◌, refl, lit<, to_z-of_z, w16, w64, SFits}
use Rattle.qh_places.proofs.Products.{IsProduct, product, size_of}
use Rattle.qh_places.proofs.spans.share.Goals as goal

made : (c : goal.After-from) → IsProduct w64 c.args.times c.from.result c.args.times c.args.component (2 ^ 61)
made c =
    let f : SFits w16 c.args.component = search rules in
    product w64 c.args.times c.from.result c.args.times c.args.component (2 ^ 46) (2 ^ 15) refl
    (c.from.ensures ∙ to_z-of_z w16 c.args.component f) c.ranges.times (record { sfits = c.from.type_inv })
    c.requires (size_of w16 c.args.component f) (lit< tt)

pub overflow_mul-result : goal.overflow_mul-result
overflow_mul-result c = (made c).fits

pub returns : goal.returns
returns c = record { value = (made c).value; limit = (made c).limit }
