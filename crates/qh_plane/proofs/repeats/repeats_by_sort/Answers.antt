use Rattle.qh_plane.proofs.repeats.repeats_by_sort.Goals as goal
use Rattle.std.proofs.Common.{◌∙◌, IsPermutation, subst}
use Rattle.std.proofs.lemmas.{List.take_at, List.Sorted.IsNonDecreasingBy-from_sort, Option.IfSome_then, Result.IfOk-weaker}
use Rattle.qh_plane.{proofs.PlaceLists.sorted_within, proofs.PlaceLists.sorted_repeats, specs.steps.HashedKeys.AllHashes}

pub repeats_told-requires : goal.repeats_told-requires
repeats_told-requires g c =
    let sort = c.par_sort_unstable in
    sorted_within c.args.pts.now AllHashes _ sort.new.s c.requires c.in_ok-keys.ensures
    (subst (λ xs. IsPermutation xs sort.new.s) c.deref_mut.ensures.value sort.ensures.permutation)
    (IsNonDecreasingBy-from_sort (λ x. x) _ sort.ensures.sorted) _
    (c.deref.ensures.value ∙ take_at sort.new.s _ c.in_ok-keys.keys.len (sort.ensures.len ∙ c.deref_mut.ensures.len))

pub returns : goal.returns
returns g c =
    let sort = c.par_sort_unstable in
    IfOk-weaker c.repeats_told.result _ _ (λ found f. IfSome_then found f (λ v told.
    sorted_repeats c.args.pts.now AllHashes _ sort.new.s c.requires c.in_ok-keys.ensures
    (subst (λ xs. IsPermutation xs sort.new.s) c.deref_mut.ensures.value sort.ensures.permutation)
    (IsNonDecreasingBy-from_sort (λ x. x) _ sort.ensures.sorted) _
    (c.deref.ensures.value ∙ take_at sort.new.s _ c.in_ok-keys.keys.len (sort.ensures.len ∙ c.deref_mut.ensures.len)) v.items told))
    c.repeats_told.ensures
