-- The corners of the faces so far are indices of points.
use Rattle.std.proofs.Common.{ℕ, ◌<◌, [], All, get_or, length}
use Rattle.qh_check.proofs.own_indices.are_own.Given as goal

abbrev pub invariant-loop-face : goal.invariant-loop-face
invariant-loop-face l = (k : ℕ) → k < l.face-index → All (λ i. i < length l.pts) (get_or l.faces k [])
