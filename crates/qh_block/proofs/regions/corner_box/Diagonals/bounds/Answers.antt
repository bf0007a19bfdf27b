-- Each side of the box is no further out than the four ends in its direction.
use Rattle.qh_block.proofs.CornerBoxes.{box_is_outward, four_under, under_four}
use Rattle.{qh_model.proofs.Common.◌∙◌, qh_model.proofs.Common.ap, qh_model.proofs.Common.Vector, qh_pred.proofs.Coordinates.read_is}
use Rattle.qh_block.proofs.regions.corner_box.Diagonals.bounds.Goals as goal

pub returns : goal.returns
returns c =
    box_is_outward c.args.self.now _ c.least_of-east.result c.greatest_of-west.result c.least_of-north.result c.greatest_of-south.result
    c.least_of-top.result c.greatest_of-bottom.result
    (ap (λ (v : Vector). v.x) c.new-2.ensures ∙ read_is c.x-2.result _ c.x-2.type_inv c.x-2.ensures.value)
    (ap (λ (v : Vector). v.y) c.new-2.ensures ∙ read_is c.y-2.result _ c.y-2.type_inv c.y-2.ensures.value)
    (ap (λ (v : Vector). v.z) c.new-2.ensures ∙ read_is c.z-2.result _ c.z-2.type_inv c.z-2.ensures.value)
    (ap (λ (v : Vector). v.x) c.new.ensures ∙ read_is c.x.result _ c.x.type_inv c.x.ensures.value)
    (ap (λ (v : Vector). v.y) c.new.ensures ∙ read_is c.y.result _ c.y.type_inv c.y.ensures.value)
    (ap (λ (v : Vector). v.z) c.new.ensures ∙ read_is c.z.result _ c.z.type_inv c.z.ensures.value)
    (under_four (c.least_of.ensures.one, c.least_of.ensures.two) (c.least_of-2.ensures.one, c.least_of-2.ensures.two)
    (c.least_of-east.ensures.one, c.least_of-east.ensures.two))
    (under_four (c.least_of-3.ensures.one, c.least_of-3.ensures.two) (c.least_of-4.ensures.one, c.least_of-4.ensures.two)
    (c.least_of-north.ensures.one, c.least_of-north.ensures.two))
    (under_four (c.least_of-5.ensures.one, c.least_of-5.ensures.two) (c.least_of-6.ensures.one, c.least_of-6.ensures.two)
    (c.least_of-top.ensures.one, c.least_of-top.ensures.two))
    (four_under (c.greatest_of.ensures.one, c.greatest_of.ensures.two) (c.greatest_of-2.ensures.one, c.greatest_of-2.ensures.two)
    (c.greatest_of-west.ensures.one, c.greatest_of-west.ensures.two))
    (four_under (c.greatest_of-3.ensures.one, c.greatest_of-3.ensures.two) (c.greatest_of-4.ensures.one, c.greatest_of-4.ensures.two)
    (c.greatest_of-south.ensures.one, c.greatest_of-south.ensures.two))
    (four_under (c.greatest_of-5.ensures.one, c.greatest_of-5.ensures.two) (c.greatest_of-6.ensures.one, c.greatest_of-6.ensures.two)
    (c.greatest_of-bottom.ensures.one, c.greatest_of-bottom.ensures.two))
