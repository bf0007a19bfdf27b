-- The images have the distinct ids and the hull of the points.
use Rattle.std.proofs.lemmas.Result.{IfOk-weaker}
use Rattle.qh_model.proofs.DistinctIds.{ids_within}
use Rattle.qh_lattice.proofs.SameHulls.{image_distinct, image_hull}
use Rattle.qh_serve.proofs.hulls.hull_of.Goals as goal

pub reduced-requires-clause-indices : goal.reduced-requires-clause-indices
reduced-requires-clause-indices g c = ids_within c.args.pts.now c.args.ids.now c.requires.distinct

pub hull_as_given-requires-clause-few : goal.hull_as_given-requires-clause-few
hull_as_given-requires-clause-few g c κs lives =
    let r = rw c.in-Some.is at c.in_ok-images.ensures in rw (c.deref.ensures.value, r.mapped.each.count) c.requires.few

pub hull_as_given-requires-clause-distinct : goal.hull_as_given-requires-clause-distinct
hull_as_given-requires-clause-distinct g c κs lives =
    let r = rw c.in-Some.is at c.in_ok-images.ensures in
    rw c.deref.ensures.value (image_distinct c.args.pts.now c.in-Some.images.items r.mapped c.args.ids.now c.requires.distinct)

pub returns-in-Some : goal.returns-in-Some
returns-in-Some g c =
    let r = rw c.in-Some.is at c.in_ok-images.ensures in
    IfOk-weaker c.hull_as_given.result _ _
    (λ h is. image_hull c.args.pts.now c.args.ids.now c.in-Some.images.items h r c.requires.distinct is)
    (rw c.deref.ensures.value at c.hull_as_given.ensures)
