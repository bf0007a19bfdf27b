-- A point with an equal point in its slot, and a point whose slot was empty.
use Rattle.qh_model.proofs.Common.{rules, ◌≡◌, ◌∙◌, ◌<◌, ◌+◌, ◌++◌, [], ◌∷◌, length, set, arith, ap, sym, subst, get_or_read, place}
use Rattle.qh_plane.specs.{declared.first_ids.TheConstants.NO_ID, steps.CloseBoxes.slot_of, steps.FirstIds.slot_at, steps.FirstIds.HaveFirsts}
use Rattle.qh_plane.proofs.SeenPlaces.{point_read, seen_id, new_seen, repeat_seen}
use Rattle.qh_plane.proofs.first_ids.FirstIds.look.Goals as goal

pub returns-then-first : goal.returns-then-first
returns-then-first c same =
    let pts = c.args.pts.now in let f = c.args.self.now in let k = c.args.number in let i = c.index-first.result.now in
    let within = c.requires.within in
    let below : i < k = seen_id pts f.close f.slots.items k f.ids.items c.requires.seen c.slot-slot.result i (search rules)
    c.index-first.ensures c.if-first.true in
    let is : place pts i ≡ place pts k =
    sym (point_read pts i c.index-pts-first.result (omega (arith, below, within)) c.index-pts-first.is) ∙ c.same_point.ensures.0 same
    ∙ point_read pts k c.index-pts-number-then-first.result within c.index-pts-number-then-first.is in
    repeat_seen pts f.close f.slots.items k f.ids.items c.requires.seen within c.requires.few i below is

pub returns : goal.returns
returns c _ =
    let pts = c.args.pts.now in let f = c.args.self.now in let k = c.args.number in let s = c.slot-slot.result in let slots = f.slots.items in
    let within = c.requires.within in
    let at : s ≡ slot_of f.close (place pts k) =
    c.slot-slot.ensures ∙ ap (slot_of f.close) (point_read pts k c.index-pts-number.result within c.index-pts-number.is) in
    let room : s < length slots = search rules in
    let free : slot_at slots s ≡ NO_ID = sym (get_or_read slots s c.index-first.result.now room c.index-first.ensures NO_ID) ∙ c.if-first.false in
    let next = new_seen pts f.close slots k f.ids.items c.requires.seen within c.requires.few (subst (λ n. n < length slots) at room)
    (subst (λ n. slot_at slots n ≡ NO_ID) at free) in
    let items : c.push.new.self.items ≡ f.ids.items ++ k ∷ [] = c.in_ok-push.ensures.items ∙ ap (λ n. f.ids.items ++ n ∷ []) c.new.ensures in
    rw (at) (subst (HaveFirsts pts f.close (set slots (slot_of f.close (place pts k)) k) (k + 1)) (sym items) next)
