-- The greater of the products at the two ends.
use Rattle.qh_model.proofs.Common.{rules, ◌*ℤ◌, to_z-of_z, w16, w64, w128, SFits}
use Rattle.qh_places.proofs.BundleSlabs.{rest_top}
use Rattle.qh_places.proofs.spans.Span.far_rest.Goals as goal

pub returns-clause-value : goal.returns-clause-value
returns-clause-value c = λ n w hn hw.
    let ff : SFits w64 c.args.from = c.ranges.from in
    let ft : SFits w64 c.args.to = c.ranges.to in
    let fm : SFits w64 c.args.times = c.ranges.times in
    let fc : SFits w16 c.args.component = c.ranges.component in
    let own_low : SFits w64 c.args.self.now.low = search rules in
    let own_high : SFits w64 c.args.self.now.high = search rules in
    let fn : SFits w64 c.share-taken.result = record { sfits = c.share-taken.type_inv } in
    let fl : SFits w64 c.end_rest-low.result = record { sfits = c.end_rest-low.type_inv } in
    let fh : SFits w64 c.end_rest-high.result = record { sfits = c.end_rest-high.type_inv } in
    let fa : SFits w128 c.far_product.result = record { sfits = c.far_product.type_inv } in
    let fb : SFits w128 c.far_product-2.result = record { sfits = c.far_product-2.type_inv } in
    let fg : SFits w128 c.greater.result = record { sfits = c.greater.type_inv } in
    let taken = simp to_z-of_z at c.share-taken.ensures.value in
    let low = rw taken at (simp to_z-of_z at c.end_rest-low.ensures) in
    let high = rw taken at (simp to_z-of_z at c.end_rest-high.ensures) in
    let f = simp to_z-of_z at c.far_product.ensures.value in let t = simp to_z-of_z at c.far_product-2.ensures.value in
    let a = simp to_z-of_z at c.greater.ensures.above_a in let b = simp to_z-of_z at c.greater.ensures.above_b in
    simp to_z-of_z (rest_top n w c.args.self.now.low c.args.self.now.high c.args.from c.args.to
    (c.args.times *ℤ c.args.component) c.end_rest-low.result c.end_rest-high.result c.far_product.result
    c.far_product-2.result c.greater.result hn hw low high f t a b)
