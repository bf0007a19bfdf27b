use Rattle.qh_model.proofs.Common.{◌≡◌, ◌∙◌, ◌<◌, ◌*◌, ◌||◌, false, true, length, ap, sym, subst, get_or, get_or_read, length-set}
use Rattle.qh_plane.proofs.{SeenPlaces.point_read, SharedSlots.taken_more, SharedSlots.shared_more}
use Rattle.qh_plane.specs.steps.{HashedKeys.place_hash, HashedKeys.hash_at, SharedSlots.slot_in}
use Rattle.qh_plane.proofs.shared_slots.shared_slots.Goals as goal

pub loop-point-preserved : goal.loop-point-preserved
loop-point-preserved c =
    let pts = c.args.pts.now in let n = c.loop-point.point-index in let slots = length pts * 4 in let s = c.slot_of-slot.result in
    let taken = c.loop-point.taken.items in let shared = c.loop-point.shared.items in let before = c.loop-point.invariant in
    let is : s ≡ slot_in slots (hash_at pts n) = c.slot_of-slot.ensures.value ∙ ap (slot_in slots)
    (c.place_hash.ensures.value ∙ ap place_hash (point_read pts n c.point-item.result c.loop-point-test.true c.point-item.is)) in
    let within = c.slot_of-slot.ensures.limit in
    let was_shared = get_or_read shared s c.index.result.now (subst (λ v. s < v) (sym before.shared_len) within) c.index.ensures false in
    let was_taken = get_or_read taken s c.index-in-loop-point.result.now (subst (λ v. s < v) (sym before.taken_len) within)
    c.index-in-loop-point.ensures false in
    record {
      taken_len = length-set taken s true ∙ before.taken_len;
      shared_len = length-set shared s (c.index.result.now || c.index-in-loop-point.result.now) ∙ before.shared_len;
      are_taken = taken_more pts n slots s is within taken before.taken_len before.are_taken;
      are_shared = rw (ap (λ v. v || get_or taken s false) (sym was_shared) ∙ ap (λ v. c.index.result.now || v) (sym was_taken)) at
          (shared_more pts n slots s is within taken shared before.taken_len before.shared_len before.are_taken before.are_shared);
    }
