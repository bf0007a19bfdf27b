-- The kept ids of one more part are added.
use Rattle.qh_model.proofs.Common.{◌≡◌, ◌≤◌, ◌++◌, ◌*◌, ◌+◌, ◌∙◌, ℕ, List, [], arith, ap, sym, subst, take, drop, length, mul-le-mul_right, take-add, take_all}
use Rattle.qh_block.{specs.contract.Cells.HoldsPoint, specs.contract.KeptIds.KeepsExtremes, proofs.KeptIds.all_kept, proofs.KeptIds.both_kept}
use Rattle.qh_block.proofs.regions.sieves.joined.Goals as goal

pub loop-part-init : goal.loop-part-init
loop-part-init c =
    let pts = c.args.set.pts.now in let cs = HoldsPoint c.args.columns.now in
    let zero : 0 * c.args.size ≡ 0 = omega arith in
    rw (ap (λ n. take n c.args.set.ids.now) zero)
    (subst (λ (xs : List ℕ). KeepsExtremes pts cs [] xs) (sym c.new-kept.ensures.items) (all_kept pts cs []))

pub loop-part-preserved : goal.loop-part-preserved
loop-part-preserved c =
    let pts = c.args.set.pts.now in let cs = HoldsPoint c.args.columns.now in let ids = c.args.set.ids.now in
    let i = c.loop-part.part-index in let size = c.args.size in let back = take size (drop (i * size) ids) in
    let part : KeepsExtremes pts cs back c.in-Ok.ids.items = rw c.in-Ok.is at
    (rw (sym c.part-item.is) at (c.requires.parts i c.part-item.result c.loop-part-test.true)) in
    let items : c.extend_from_slice.new.self.items ≡ c.loop-part.kept.items ++ c.in-Ok.ids.items =
    c.in_ok-extend_from_slice-in-Ok.ensures.items ∙ ap (λ (v : List ℕ). c.loop-part.kept.items ++ v) c.deref.ensures.value in
    let next : i * size + size ≡ (i + 1) * size = omega arith in
    let both = both_kept pts cs (take (i * size) ids) back c.loop-part.kept.items c.in-Ok.ids.items c.loop-part.invariant part in
    rw items (rw (sym (take-add (i * size) size ids) ∙ ap (λ n. take n ids) next) at both)

pub returns : goal.returns
returns c =
    let more : length c.args.parts.now * c.args.size ≤ c.loop-part.part-index * c.args.size =
    mul-le-mul_right c.args.size c.loop-part-test.false in
    rw (take_all (c.loop-part.part-index * c.args.size) c.args.set.ids.now (omega (arith, more, c.requires.all))) at c.loop-part.invariant
