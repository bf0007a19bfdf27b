use Rattle.qh_model.proofs.{Common.IsEvenCut, Common.[], Common.arith, Common.subst, Common.sym, Common.◌++◌, Common.◌∷◌, Cuts.even_cut}
use Rattle.qh_model.proofs.cut.even_bounds.Goals as goal

-- src/cut.rt:44:1
pub returns : goal.returns
returns c =
    let inv = c.loop-block.invariant in
    let xs = c.loop-block.bounds.items in
    let cut : IsEvenCut c.args.m c.args.size (xs ++ c.args.m ∷ []) =
    even_cut c.args.m c.args.size c.args.blocks xs (grind (arith, c.requires.size)) c.requires.blocks
    (grind (arith, inv.0, c.loop-block.auto)) (grind (arith, inv.1, c.loop-block.auto)) in
    subst (IsEvenCut c.args.m c.args.size) (sym (c.in_ok-push-2.ensures.items)) cut
