-- The first of the ids so far.
use Rattle.qh_model.proofs.Common.{◌<◌, ℕ, length, get_or, ◌≤ℤ◌, In}
use Rattle.qh_block.specs.steps.Segments.{position}
use Rattle.qh_block.proofs.segment.first_along.Given as goal

abbrev pub invariant-loop-id : goal.invariant-loop-id
invariant-loop-id l =
    (l.first < length l.set.pts.now) × In l.first l.set.ids.now
    × ((m : ℕ) → m < l.id-index → position l.set.pts.now l.a l.b l.first ≤ℤ position l.set.pts.now l.a l.b (get_or l.set.ids.now m 0))
