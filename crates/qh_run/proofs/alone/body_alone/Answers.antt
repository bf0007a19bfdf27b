-- The images have the ids and the hull of the points.
use Rattle.std.proofs.lemmas.Result.{IfOk-weaker}
use Rattle.qh_lattice.proofs.SameHulls.{image_body, image_indices, image_set}
use Rattle.qh_run.proofs.alone.body_alone.Goals as goal

pub body_as_given-requires-clause-indices : goal.body_as_given-requires-clause-indices
body_as_given-requires-clause-indices c =
    let r = rw c.in-Some.is at c.in_ok-images.ensures in
    rw c.deref.ensures.value (image_indices c.args.pts.now c.in-Some.images.items r.mapped c.args.ids.now c.requires.indices)

pub body_as_given-requires-clause-set : goal.body_as_given-requires-clause-set
body_as_given-requires-clause-set c =
    let r = rw c.in-Some.is at c.in_ok-images.ensures in
    rw c.deref.ensures.value (image_set c.args.pts.now c.in-Some.images.items r.mapped c.args.ids.now c.requires.indices c.requires.set)

pub returns-in-Some : goal.returns-in-Some
returns-in-Some c =
    let r = rw c.in-Some.is at c.in_ok-images.ensures in
    IfOk-weaker c.body_as_given.result _ _
    (λ b h. image_body c.args.pts.now c.args.ids.now c.in-Some.images.items b r c.requires.indices c.requires.set h)
    (rw c.deref.ensures.value at c.body_as_given.ensures)
