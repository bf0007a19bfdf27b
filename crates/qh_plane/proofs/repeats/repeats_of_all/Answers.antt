use Rattle.qh_plane.proofs.repeats.repeats_of_all.Goals as goal
use Rattle.std.proofs.lemmas.{List.Sorted.IsNonDecreasingBy-from_sort, Option.IfSome_then, Result.IfOk-weaker}
use Rattle.qh_plane.{proofs.PlaceLists.sorted_within, proofs.PlaceLists.sorted_repeats, specs.steps.HashedKeys.AllHashes}

pub repeats_told-requires : goal.repeats_told-requires
repeats_told-requires c =
    sorted_within c.args.pts.now AllHashes _ _ c.requires c.in_ok-keys.ensures c.sort_unstable.ensures.permutation
    (IsNonDecreasingBy-from_sort (λ x. x) _ c.sort_unstable.ensures.sorted) _ c.deref.ensures.value

pub returns : goal.returns
returns c =
    IfOk-weaker c.repeats_told.result _ _ (λ found f. IfSome_then found f (λ v told.
    sorted_repeats c.args.pts.now AllHashes _ _ c.requires c.in_ok-keys.ensures c.sort_unstable.ensures.permutation
    (IsNonDecreasingBy-from_sort (λ x. x) _ c.sort_unstable.ensures.sorted) _ c.deref.ensures.value v.items told))
    c.repeats_told.ensures
