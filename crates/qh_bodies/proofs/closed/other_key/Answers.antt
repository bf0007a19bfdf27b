-- The lower key at the first difference, or the next key of the longer list.
use Rattle.qh_model.proofs.Common.{◌≡◌, ◌<◌, ◌≤◌, ◌∙◌, arith, eqb, length, subst, sym, take, get_or_default}
use Rattle.qh_model.proofs.closed_surfaces.Sums.{count, count-is}
use Rattle.qh_bodies.proofs.SortedNumbers.{lower_differs, count_longer, same_whole}
use Rattle.qh_bodies.proofs.closed.other_key.Goals as goal

pub returns-then-ne : goal.returns-then-ne
returns-then-ne c = λ e.
    let k = c.loop-k.k in let up = c.args.up.now in let down = c.args.down.now in
    let m = c.min-shorter.ensures in let test = c.loop-k-test.true in
    let l : k < length up = omega (arith, m, test) in let r : k < length down = omega (arith, m, test) in
    lower_differs k up down c.requires.up c.requires.down l r c.loop-k.invariant _ _ c.index-up-k.is c.index-down-k.is
    (sym c.if-ne.true ∙ c.ne.ensures) (count-is _ up ∙ (rw c.min.ensures at e) ∙ sym (count-is _ down))

pub returns-then-shorter-up : goal.returns-then-shorter-up
returns-then-shorter-up c = λ e.
    let up = c.args.up.now in let down = c.args.down.now in let shorter = c.min-shorter.result in
    let m = c.min-shorter.ensures in let test = c.if-shorter-up.true in
    let k : c.loop-k.k ≡ shorter = omega (arith, c.loop-k-test.false, c.loop-k.auto.k-end) in
    let end : length down ≤ shorter = omega (arith, m, test) in
    let key = c.index-up-shorter.is ∙ get_or_default up shorter _ 0 test in
    count_longer shorter up down (subst (λ n. take n up ≡ take n down) k c.loop-k.invariant) end test
    (subst (λ z. count (eqb z) up ≡ count (eqb z) down) key (count-is _ up ∙ e ∙ sym (count-is _ down)))

pub returns-then-shorter-down : goal.returns-then-shorter-down
returns-then-shorter-down c = λ e.
    let up = c.args.up.now in let down = c.args.down.now in let shorter = c.min-shorter.result in
    let k : c.loop-k.k ≡ shorter = omega (arith, c.loop-k-test.false, c.loop-k.auto.k-end) in
    let key = c.index-down-shorter.is ∙ get_or_default down shorter _ 0 c.if-shorter-down.true in
    count_longer shorter down up (sym (subst (λ n. take n up ≡ take n down) k c.loop-k.invariant))
    c.if-shorter-up.false c.if-shorter-down.true
    (subst (λ z. count (eqb z) down ≡ count (eqb z) up) key (count-is _ down ∙ sym e ∙ sym (count-is _ up)))

pub returns : goal.returns
returns c =
    let up = c.args.up.now in let down = c.args.down.now in let shorter = c.min-shorter.result in
    let k : c.loop-k.k ≡ shorter = omega (arith, c.loop-k-test.false, c.loop-k.auto.k-end) in
    same_whole shorter up down (subst (λ n. take n up ≡ take n down) k c.loop-k.invariant)
    c.if-shorter-up.false c.if-shorter-down.false
