-- A plane that is not listed again is above all of the part.
use Rattle.qh_model.proofs.Common.{◌≡◌, ◌∷◌, ◌+◌, ℕ, drop, ap, slice_index, sym, ◌∙◌, List, drop_more, drop_all}
use Rattle.qh_block.proofs.CellParts.{none_sifted, next_above, next_kept, part_is_cell}
use Rattle.qh_block.proofs.regions.cells.Cell.part.Goals.{then-not-is_far+in_ok-push, else-not-is_far}
use Rattle.qh_block.proofs.regions.cells.Cell.part.Goals as goal

pub loop-number-init : goal.loop-number-init
loop-number-init c = none_sifted c.args.planes.now c.common-bounds.result c.args.self.now.near.items c.new-near.result.items

pub loop-number-preserved : goal.loop-number-preserved
loop-number-preserved c =
    let planes = c.args.planes.now in let near = c.args.self.now.near.items in let items = c.deref-number-items in
    let i = c.loop-number.number-index in let rest = drop (i + 1) near in
    let next : drop i near ≡ slice_index items.result.now i ∷ rest =
    drop_more near i 0 (rw items.ensures.value at c.loop-number-test.true) ∙ ap (λ (xs : List ℕ). slice_index xs i ∷ rest) (sym items.ensures.value) in
    elim c.if-not-is_far.branch [
      | then-not-is_far+in_ok-push w ↦ rw (ap (λ v. v.items) w.near-is ∙ w.in_ok-push.ensures.items) (next_kept next c.loop-number.invariant)
      | else-not-is_far w ↦ rw (ap (λ v. v.items) w.near-is) (next_above next c.loop-number.invariant (c.is_far.ensures w.if-not-is_far.false))
    ]

pub returns : goal.returns
returns c = part_is_cell c.args.self.now.bounds c.loop-number.invariant
    (drop_all c.loop-number.number-index c.args.self.now.near.items (rw c.deref-number-items.ensures.value at c.loop-number-test.false))
    c.common-bounds.ensures
