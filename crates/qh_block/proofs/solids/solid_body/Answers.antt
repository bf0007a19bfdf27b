-- The faces of a finished mesh close up, so they determine the hull.
use Rattle.{qh_model.specs.headline.Predicates.place, qh_model.proofs.surfaces.Complete.finished_is_solid, qh_block.proofs.finished.SolidBodies.closed}
use Rattle.{qh_model.proofs.Common.IsPermutation-sym, qh_model.proofs.Members.in_permutation, qh_bodies.proofs.TallyOrder.tally_permuted}
use Rattle.qh_block.proofs.solids.solid_body.Goals as goal

pub body_of_faces-requires : goal.body_of_faces-requires
body_of_faces-requires c = tally_permuted _ _ _ c.in_ok-polygons.ensures.same c.in_ok-tally.ensures

pub returns : goal.returns
returns c = λ ids s z.
    let faces = c.in_ok-faces.ensures ids s z in let same = c.in_ok-polygons.ensures.same in
    let order = c.in_ok-polygons.ensures.rising faces.apart in
    c.body_of_faces.ensures (place c.args.pts.now) ids s.distinct (finished_is_solid _ ids _ z)
    (closed _ ids _ s z _ faces _ order (λ q. (in_permutation _ _ (IsPermutation-sym _ _ same) q, in_permutation _ _ same q))) order
