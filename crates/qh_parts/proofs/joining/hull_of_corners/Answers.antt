-- The hull of the kept ids of a set is its hull.
use Rattle.{std.proofs.lemmas.Option.IfSome_then, std.proofs.lemmas.Result.IfOk-weaker, qh_model.proofs.hulls.ExtremeParts.part_body}
use Rattle.qh_parts.proofs.joining.hull_of_corners.Goals as goal

pub returns : goal.returns
returns c =
    let pts = c.args.set.pts.now in let rising = rw c.in-Some.is at c.in_ok-kept.ensures.rising in
    let are = (rw c.in-Some.is at c.in_ok-kept.ensures.kept) pts c.requires in
    IfOk-weaker c.hull_of_kept.result _ _
    (λ found f. IfSome_then found f (λ b is set.
    part_body pts c.args.ids.now c.in-Some.kept.items b set rising (record { within = are.inside; extremes = are.extremes }) is))
    (rw c.deref.ensures.value at c.hull_of_kept.ensures)
