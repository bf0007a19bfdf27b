use Rattle.qh_model.proofs.Common.{◌∙◌, lit<, ◌+ℤ◌}
use Rattle.qh_lattice.{specs.declared.row.TheConstants.PRODUCT_LIMIT, proofs.Rows.as_product, proofs.Sums.sum_fits}
use Rattle.qh_lattice.proofs.row.reach.Goals as goal

pub overflow_add-result : goal.overflow_add-result
overflow_add-result c = (sum_fits c.product.result c.product-2.result c.product.result PRODUCT_LIMIT (lit< tt)
    c.product.ensures.limit c.product-2.ensures.limit c.product.ensures.limit).two

pub overflow_add-result-2 : goal.overflow_add-result-2
overflow_add-result-2 c = (sum_fits c.product.result c.product-2.result c.product-3.result PRODUCT_LIMIT (lit< tt)
    c.product.ensures.limit c.product-2.ensures.limit c.product-3.ensures.limit).whole

pub returns : goal.returns
returns c =
    let s = sum_fits c.product.result c.product-2.result c.product-3.result PRODUCT_LIMIT (lit< tt)
    c.product.ensures.limit c.product-2.ensures.limit c.product-3.ensures.limit in
    let x = as_product _ _ _ _ _ c.x.type_inv c.x-2.type_inv c.product.ensures.value c.x.ensures.value c.x-2.ensures.value in
    let y = as_product _ _ _ _ _ c.y.type_inv c.y-2.type_inv c.product-2.ensures.value c.y.ensures.value c.y-2.ensures.value in
    let z = as_product _ _ _ _ _ c.z.type_inv c.z-2.type_inv c.product-3.ensures.value c.z.ensures.value c.z-2.ensures.value in
    record { value = s.value ∙ (λ t. x t +ℤ y t +ℤ z t); limit = s.limit }
