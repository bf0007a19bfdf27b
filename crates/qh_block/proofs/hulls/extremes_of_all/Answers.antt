-- The extreme ids are those at the extreme positions of the gathered set.
use Rattle.std.proofs.Common.{◌≡◌, ◌∙◌}
use Rattle.qh_block.proofs.GatheredSets.{gathered, positions, positions_in, positions_set, extremes_by_position}
use Rattle.qh_block.proofs.hulls.extremes_of_all.Goals as goal

pub invariant_of-gathered : goal.invariant_of-gathered
invariant_of-gathered c =
    let pts = c.args.set.pts.now in let ids = c.args.set.ids.now in
    let points : c.deref.result.now ≡ gathered pts ids = c.deref.ensures.value ∙ c.in_ok-points.ensures in
    let numbers : c.deref-2.result.now ≡ positions pts ids = c.deref-2.ensures.value ∙ c.in_ok-positions.ensures in
    record { indices = rw (points, numbers) (positions_in pts ids) }

pub returns : goal.returns
returns c = λ s.
    let pts = c.args.set.pts.now in let ids = c.args.set.ids.now in
    let points : c.deref.result.now ≡ gathered pts ids = c.deref.ensures.value ∙ c.in_ok-points.ensures in
    let numbers : c.deref-2.result.now ≡ positions pts ids = c.deref-2.ensures.value ∙ c.in_ok-positions.ensures in
    rw (c.in_ok-ids_at.ensures, c.deref-3.ensures.value) (extremes_by_position pts ids s c.in_ok-found.found.items
    ((rw (points, numbers) at c.in_ok-found.ensures) (positions_set pts ids s)))
