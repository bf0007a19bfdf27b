-- The ids so far are those of their keys.
use Rattle.qh_model.proofs.Common.{◌≡◌, map, take, low_of}
use Rattle.qh_surface.proofs.starts.morton.keys_of.Given as goal

abbrev pub invariant-loop-id : goal.invariant-loop-id
invariant-loop-id l = map low_of l.keys.items ≡ take l.id-index l.ids
