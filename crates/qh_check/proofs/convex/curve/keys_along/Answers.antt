-- Sorted keys have the same ids.
use Rattle.{qh_model.proofs.Common.IsPermutation-map, qh_check.specs.steps.Hidden.id_in}
use Rattle.qh_check.proofs.convex.curve.keys_along.Goals as goal

pub returns : goal.returns
returns c = rw c.in_ok-keys.ensures at (IsPermutation-map id_in _ _ c.sort_unstable.ensures.permutation)
