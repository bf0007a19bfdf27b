-- The images have the ids, and the verdict on them is that on the points.
use Rattle.{std.proofs.lemmas.Result.IfOk-weaker, qh_lattice.proofs.SameHulls.image_indices, qh_check.proofs.ImageVerdicts.image_verdict}
use Rattle.qh_check.proofs.mapped.verdict_on.Goals as goal

pub invariant_of-mapped : goal.invariant_of-mapped
invariant_of-mapped c =
    let claim = c.args.claim in let r = rw c.in-Some.is at c.in_ok-images.ensures in record {
      some = claim.some;
      indices = rw c.deref.ensures.value (image_indices claim.pts.now c.in-Some.images.items r.mapped claim.ids.now claim.indices);
    }

pub returns-in-Some : goal.returns-in-Some
returns-in-Some c =
    let claim = c.args.claim in let r = rw c.in-Some.is at c.in_ok-images.ensures in
    IfOk-weaker c.verdict_as_given.result _ _
    (λ v h. image_verdict claim.pts.now claim.ids.now c.in-Some.images.items claim.polygons.now v r claim.indices c.requires h)
    (rw c.deref.ensures.value at c.verdict_as_given.ensures)
