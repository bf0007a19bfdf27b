-- The hull of the faces that parts contribute and those between them is that of the set.
use Rattle.std.proofs.lemmas.{Option.IfSome_then, Result.IfOk-weaker}
use Rattle.{qh_parts_join.proofs.OwnCorners.all_placed, qh_parts.proofs.JoinedParts.body_of_parts}
use Rattle.qh_parts.proofs.joining.hull_at_joint.Goals as goal

pub invariant_of-kept-clause-corners_in : goal.invariant_of-kept-clause-corners_in
invariant_of-kept-clause-corners_in g c =
    rw (c.deref.ensures.value, c.in_ok-corners.ensures) (all_placed c.args.pts.now c.args.parted.shared.items c.args.parted.parts.items c.requires.parts)

pub invariant_of-kept-clause-shared_in : goal.invariant_of-kept-clause-shared_in
invariant_of-kept-clause-shared_in g c = rw c.deref-2.ensures.value c.requires.shared

pub returns : goal.returns
returns g c =
    let parts = c.args.parted.parts.items in
    IfOk-weaker c.join_faces.result _ _
    (λ found f. IfSome_then found f (λ b joined ids kept set.
    body_of_parts c.args.pts.now c.args.parted.shared.items parts c.args.joint.gone.items ids c.args.joint.faces b c.requires.parts c.requires.some kept
    c.requires.given joined set))
    (rw (c.deref.ensures.value, c.deref-2.ensures.value, c.deref-3.ensures.value, c.in_ok-corners.ensures) at c.join_faces.ensures)
