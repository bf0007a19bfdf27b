-- The rest of the list is met along the rest of the ids exactly if the list is met along all.
use Rattle.qh_model.proofs.Common.{ℕ, ◌≤◌, ◌++◌, List, drop, length, ◌↔◌}
use Rattle.qh_check.specs.contract.Pieces.{IsMetAlong}
use Rattle.qh_check.proofs.rounds.met.Given as goal

abbrev pub invariant-loop-id : goal.invariant-loop-id
invariant-loop-id l = (l.next ≤ length l.part)
    × ((rest : List ℕ) → IsMetAlong (drop l.next l.part) (drop l.id-index l.ids ++ rest) ↔ IsMetAlong (drop l.before l.part) (l.ids ++ rest))
