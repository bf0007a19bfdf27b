-- A facet without an outside set is skipped, and the first point of a set is the apex.
use Rattle.std.proofs.Common.{◌<◌, ◌≡◌, ◌∙◌, ◌∷◌, length, refl, arith, IsPermutation}
use Rattle.std.proofs.lemmas.List.{nil_from_length, Elements.All-head, Elements.All-tail, Sorted.All-permutation, Sorted.IsPermutation-swap_remove}
use Rattle.qh_surface.proofs.runs.PickedApexes.{taken_is, none_taken, passed_over, picked, all_done}
use Rattle.qh_surface.proofs.quickhull.waiting_facets.next_apex.Goals as goal

-- the removed facet and the others are those that waited
taken_out : (c : goal.After-take_first-arg-1)
    → IsPermutation c.loop-pending.pending.items (c.swap_remove-facet.result ∷ c.swap_remove-facet.new.self.items)
taken_out c =
    let pending = c.loop-pending.pending in let f = c.swap_remove-facet.result in let len = c.len-in-loop-pending.ensures in
    rw c.swap_remove-facet.ensures.items
    (IsPermutation-swap_remove pending.items c.next.result f (omega (arith, c.next.ensures, len, pending.ok.0)) c.swap_remove-facet.ensures.value)

pub take_first-requires : goal.take_first-requires
take_first-requires c =
    let v = c.loop-pending.sets in
    All-head (λ f. f < length v.sets) _ _ (All-permutation (λ f. f < length v.sets) _ _ (taken_out c) c.loop-pending.invariant.within)

pub returns-in-Some-clause-picked : goal.returns-in-Some-clause-picked
returns-in-Some-clause-picked c s k =
    let e = c.in-Some.ensures in
    rw (taken_is _ _ _ e.positions e.orphans e.sets) (picked (c.loop-pending.invariant.under_way s k) _ _ (taken_out c.before.before) e.first e.position)

pub loop-pending-preserved : goal.loop-pending-preserved
loop-pending-preserved c =
    let v = c.loop-pending.sets in let rest = c.swap_remove-facet.new.self.items in let old = c.loop-pending.invariant in
    let e = c.in_default.ensures in let f = c.swap_remove-facet.result in let out = taken_out c.before.before in
    let empty = e.none.0 refl in
    let same : c.take_first.new.self ≡ v = taken_is _ _ _ e.positions e.orphans e.sets ∙ none_taken v f empty in record {
      within = rw same (All-tail (λ g. g < length v.sets) f rest (All-permutation (λ g. g < length v.sets) _ _ out old.within));
      same = same ∙ old.same;
      under_way = λ s k. rw same
          (passed_over (old.under_way s k) _ _ out empty);
    }

pub returns-clause-done : goal.returns-clause-done
returns-clause-done c s k =
    let pending = c.loop-pending.pending in
    all_done (nil_from_length pending.items (omega (arith, c.len.ensures, c.loop-pending-test.false, pending.ok.0))) (c.loop-pending.invariant.under_way s k)
