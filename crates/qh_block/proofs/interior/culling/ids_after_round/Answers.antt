-- A sample is a part of the set.
use Rattle.qh_model.proofs.Common.{◌≡◌, ◌∙◌, ◌<◌, ◌*◌, ℕ, List, length, slice_index, sym, subst, AreIndices, In}
use Rattle.qh_model.proofs.{Members.In-get_or, Members.in_at, hulls.ExtremeParts.part_indices}
use Rattle.qh_block.{specs.contract.Cells.HoldsPoint, specs.steps.InnerPoints.AreInner, proofs.InnerPoints.kept_part}
use Rattle.qh_block.proofs.interior.culling.ids_after_round.Goals as goal

-- ids at multiples of a number are ids of the list
part : (ids sample : List ℕ) (n : ℕ) → ((k : ℕ) → k < length sample → k * n < length ids)
    → ((k : ℕ) → k < length sample → slice_index sample k ≡ slice_index ids (k * n)) → (i : ℕ) → In i sample → In i ids
part ids sample n inside each i m = let r = in_at sample i m in subst (λ v. In v ids) (sym (each r.0 r.1) ∙ r.2) (In-get_or ids (r.0 * n) 0 (inside r.0 r.1))

pub invariant_of-sampled : goal.invariant_of-sampled
invariant_of-sampled g c =
    let pts = c.args.set.pts.now in let ids = c.args.set.ids.now in let s = c.in_ok-sample in
    record {
      indices = subst (AreIndices pts) (sym c.deref.ensures.value)
          (part_indices pts ids s.sample.items c.args.set.indices (part ids s.sample.items _ s.ensures.inside s.ensures.each));
    }

pub returns-clause-part : goal.returns-clause-part
returns-clause-part g c =
    let pts = c.args.set.pts.now in let ids = c.args.set.ids.now in let s = c.in_ok-sample in
    let inner = subst (λ xs. AreInner pts xs c.in-Some.columns) c.deref.ensures.value
    (rw c.in-Some.is at c.in_ok-columns.ensures) ids (part ids s.sample.items _ s.ensures.inside s.ensures.each) in
    kept_part pts (HoldsPoint c.in-Some.columns) ids c.in_ok-outer.outer.items inner c.in_ok-outer.ensures
