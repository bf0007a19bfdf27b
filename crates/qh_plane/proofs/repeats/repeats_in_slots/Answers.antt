use Rattle.qh_model.proofs.Common.{arith, sym, subst, length, IsNonDecreasingBy-from_sort, IfSome_then, IfOk-weaker}
use Rattle.qh_plane.proofs.repeats.repeats_in_slots.Goals as goal
use Rattle.qh_plane.proofs.{PlaceLists.sorted_within, PlaceLists.sorted_repeats, SharedSlots.all_in_slots}
use Rattle.qh_plane.specs.steps.SharedSlots.{MarkedHashes, AreShared}

pub repeats_told-requires : goal.repeats_told-requires
repeats_told-requires c =
    sorted_within c.args.pts.now (MarkedHashes c.deref.result.now) _ _ (omega (arith, c.requires.few)) c.in_ok-keys.ensures c.sort_unstable.ensures.permutation
    (IsNonDecreasingBy-from_sort (λ x. x) _ c.sort_unstable.ensures.sorted) _ c.deref-2.ensures.value

pub returns : goal.returns
returns c =
    let pts = c.args.pts.now in let marks = c.deref.result.now in
    let shared = subst (AreShared pts (length pts)) (sym c.deref.ensures.value) c.in_ok-shared.ensures.shared in
    IfOk-weaker c.repeats_told.result _ _ (λ found f. IfSome_then found f (λ v told. all_in_slots pts marks v.items shared
    (sorted_repeats pts (MarkedHashes marks) _ _ (omega (arith, c.requires.few)) c.in_ok-keys.ensures c.sort_unstable.ensures.permutation
    (IsNonDecreasingBy-from_sort (λ x. x) _ c.sort_unstable.ensures.sorted) _ c.deref-2.ensures.value v.items told)))
    c.repeats_told.ensures
