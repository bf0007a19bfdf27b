-- The ids of the parts so far in the plane are listed.
use Rattle.qh_model.proofs.Common.{ℕ, List, ◌++◌, map, take, All, flat_map, Vector}
use Rattle.qh_places.specs.contract.Places.{AreLevel}
use Rattle.qh_parts_join.specs.{contract.Kept.held_in, contract.Kept.ArePlaced, steps.Bridges.places_in}
use Rattle.qh_parts_join.proofs.join.bridges.list_own.Given as goal

abbrev pub invariant-loop-part : goal.invariant-loop-part
invariant-loop-part l = (pts : List Vector) → All (ArePlaced pts) (map places_in l.nears) → (ids : List ℕ)
    → AreLevel pts ids l.plane l.initial.level.items → AreLevel pts (ids ++ flat_map held_in (map places_in (take l.part-index l.nears))) l.plane l.level.items
