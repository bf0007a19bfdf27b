-- The numbers so far represent the ids.
use Rattle.std.proofs.Common.{ℕ, ◌≡◌, ◌<◌, get_or, length}
use Rattle.qh_check.specs.contract.Naming.{IsNamed}
use Rattle.qh_check.proofs.naming.Named.renamed.Given as goal

abbrev pub invariant-loop-number : goal.invariant-loop-number
invariant-loop-number l = (length l.ids.items ≡ l.number-index)
    × ((k : ℕ) → k < l.number-index → IsNamed l.self.pts.now l.self.ids.now l.self.list.now (get_or l.number-items k 0) (get_or l.ids.items k 0))
