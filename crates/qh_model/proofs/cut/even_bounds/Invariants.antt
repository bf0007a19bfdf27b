use Rattle.qh_model.proofs.Common.{◌≡◌, ◌*◌, ◌<◌, length, ℕ, bound}
use Rattle.qh_model.proofs.cut.even_bounds.Given as goal

-- the first bounds are the multiples of the size
abbrev pub invariant-loop-block : goal.invariant-loop-block
invariant-loop-block l = (length l.bounds.items ≡ l.block) × ((k : ℕ) → k < l.block → bound l.bounds.items k ≡ k * l.size)
