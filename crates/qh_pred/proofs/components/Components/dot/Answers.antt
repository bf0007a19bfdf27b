use Rattle.qh_model.proofs.Common.{◌≡◌, ◌∙◌, refl, Vector, dot}
use Rattle.qh_pred.proofs.Bounds.{dot_fits, dot-within}
use Rattle.qh_pred.proofs.components.Components.dot.Goals as goal

-- equal vectors have equal products
dot-same : (u v s t : Vector) → u ≡ s → v ≡ t → dot u v ≡ dot s t
dot-same u v s t p q = rw (p, q) refl

pub overflow_add-result : goal.overflow_add-result
overflow_add-result c =
    (dot_fits _ _ c.wide_product.result c.wide_product-2.result _ c.self.invariant c.other.invariant c.wide_product.ensures c.wide_product-2.ensures refl).two

pub overflow_add-result-2 : goal.overflow_add-result-2
overflow_add-result-2 c =
    (dot_fits _ _ c.wide_product.result c.wide_product-2.result c.wide_product-3.result c.self.invariant
    c.other.invariant c.wide_product.ensures c.wide_product-2.ensures c.wide_product-3.ensures).whole

pub returns : goal.returns
returns c =
    let fits = dot_fits _ _ c.wide_product.result c.wide_product-2.result c.wide_product-3.result c.self.invariant
    c.other.invariant c.wide_product.ensures c.wide_product-2.ensures c.wide_product-3.ensures in
    record { value = fits.value ∙ dot-same _ _ _ _ c.self.view_is c.other.view_is; limit = rw (fits.value) (dot-within _ _ c.self.invariant c.other.invariant) }
