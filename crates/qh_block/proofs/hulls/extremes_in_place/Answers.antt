-- The extreme ids of a solid are those of its finished mesh.
use Rattle.{std.proofs.lemmas.Result.IfOk-weaker, qh_model.proofs.Members.rising_once}
use Rattle.qh_block.proofs.hulls.extremes_in_place.Goals as goal

pub returns-in-Solid : goal.returns-in-Solid
returns-in-Solid c =
    let ids = c.args.set.ids.now in
    IfOk-weaker c.solid_extremes.result _ _ (λ v h s. h ids s (c.in_ok-surface.ensures.finished (rising_once ids s.rising))) c.solid_extremes.ensures
