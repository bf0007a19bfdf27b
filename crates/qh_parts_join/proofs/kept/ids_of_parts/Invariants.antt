-- The ids of the parts so far.
use Rattle.{qh_model.proofs.Common.◌≡◌, qh_model.proofs.Common.take, qh_model.proofs.Common.flat_map, qh_parts_join.specs.contract.Parts.ids_in}
use Rattle.qh_parts_join.proofs.kept.ids_of_parts.Given as goal

abbrev pub invariant-loop-part : goal.invariant-loop-part
invariant-loop-part l = l.ids.items ≡ flat_map ids_in (take l.part-index l.parts)
