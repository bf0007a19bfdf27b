-- All members are met, before the end and after it.
use Rattle.qh_model.proofs.Common.{◌≡◌, ◌+◌, ◌-◌, arith, drop, eq-eqb, eqb-true, length, take, length-drop, take_all}
use Rattle.qh_check.proofs.MetLists.{met_both}
use Rattle.qh_check.proofs.rounds.is_met_behind.Goals as goal

pub returns : goal.returns
returns c =
    let face = c.args.face.now in let from = c.args.position + 1 in
    let whole : take (length face - from) (drop from face) ≡ drop from face =
    take_all (length face - from) (drop from face) (omega (arith, length-drop from face)) in
    let first = rw whole at c.met-behind.ensures.on in
    let both = met_both c.args.part.now (drop from face) (take c.args.position face) c.met-behind.result c.met-all.result first
    c.met-all.ensures.on c.met-all.ensures.bound in
    (λ yes. both.0 (eqb-true _ _ yes), λ h. eq-eqb _ _ (both.1 h))
