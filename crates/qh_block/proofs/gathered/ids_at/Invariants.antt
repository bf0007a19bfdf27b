-- The ids at the positions so far.
use Rattle.{std.proofs.Common.◌≡◌, std.proofs.Common.map, std.proofs.Common.take, qh_mesh.specs.contract.Names.name_in}
use Rattle.qh_block.proofs.gathered.ids_at.Given as goal

abbrev pub invariant-loop-position : goal.invariant-loop-position
invariant-loop-position l = l.found.items ≡ map (name_in l.ids) (take l.position-index l.positions)
