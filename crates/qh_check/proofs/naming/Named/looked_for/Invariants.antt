-- The point of none of the ids so far is at the place.
use Rattle.qh_model.proofs.Common.{ℕ, ◌<◌, ◌≢◌, get_or, place}
use Rattle.qh_check.proofs.naming.Named.looked_for.Given as goal

abbrev pub invariant-loop-id : goal.invariant-loop-id
invariant-loop-id l = (k : ℕ) → k < l.id-index → place l.self.pts.now (get_or l.self.ids.now k 0) ≢ l.point
