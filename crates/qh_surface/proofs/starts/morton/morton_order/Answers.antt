-- The ids of sorted keys are the same ids.
use Rattle.qh_model.proofs.Common.{IsPermutation-map, low_of}
use Rattle.qh_surface.proofs.starts.morton.morton_order.Goals as goal

pub returns : goal.returns
returns c = rw c.in_ok-ids_of.ensures
    (rw c.in_ok-keys.ensures at (IsPermutation-map low_of c.in_ok-keys.keys.items c.sort_unstable.new.self.items c.sort_unstable.ensures.permutation))
