-- A polygon that is found among the faces of the hull, or shown by its plane, is a piece of a face of the set.
use Rattle.{std.proofs.Common.◌≡◌, std.proofs.lemmas.Result.IfOk-weaker, qh_check.proofs.HullPieces.faces_of_body, qh_check.proofs.HullPieces.seen_pieces}
use Rattle.qh_check.proofs.search.find_fault.Goals as goal

pub returns : goal.returns
returns c =
    let pts = c.args.claim.pts.now in let ids = c.args.claim.ids.now in let faces = c.deref.result.now in
    let told : c.in_ok-body.body.polygons ≡ faces = cc in
    IfOk-weaker c.fault_among.result _ _ (λ o h set solid.
    seen_pieces pts ids faces c.args.claim.polygons.now (faces_of_body pts ids set solid c.in_ok-body.body (c.in_ok-body.ensures set) faces told) o h)
    c.fault_among.ensures
