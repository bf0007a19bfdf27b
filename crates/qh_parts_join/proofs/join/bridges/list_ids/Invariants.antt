-- Those of the ids so far that are in the plane are listed.
use Rattle.{std.proofs.Common.ℕ, std.proofs.Common.List, std.proofs.Common.◌++◌, std.proofs.Common.take, qh_places.specs.contract.Places.AreLevel}
use Rattle.qh_parts_join.proofs.join.bridges.list_ids.Given as goal

abbrev pub invariant-loop-id : goal.invariant-loop-id
invariant-loop-id l = (ids : List ℕ) → AreLevel l.pts ids l.plane l.initial.level.items
    → AreLevel l.pts (ids ++ take l.id-index l.others) l.plane l.level.items
