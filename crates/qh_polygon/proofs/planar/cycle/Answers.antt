use Rattle.qh_model.proofs.Common.{ap, sym, ◌∙◌, take, length, ◌-◌, ◌++◌, [], reverse, IfOk-weaker}
use Rattle.qh_polygon.proofs.polygons.Stacks.{fronts}
use Rattle.qh_polygon.specs.steps.Chains.{turn_of, joined, chain}
use Rattle.qh_polygon.proofs.planar.cycle.Goals as goal

pub returns : goal.returns
returns c =
    IfOk-weaker c.joined.result _ _ (λ v h.
    h
    ∙ ap (λ t. take (length c.in_ok-there.there.items - 1) c.in_ok-there.there.items ++ take (length t - 1) t) c.deref-3.ensures.value
    ∙ sym (fronts c.in_ok-there.there.items c.in_ok-back.back.items)
    ∙ ap (λ t. joined t (reverse c.in_ok-back.back.items))
    (c.in_ok-there.ensures ∙ ap (chain (turn_of c.args.pts.now c.args.normal.now) []) c.deref.ensures.value)
    ∙ ap (λ t. joined (chain (turn_of c.args.pts.now c.args.normal.now) [] c.args.sorted.items) t) (c.in_ok-back.ensures
    ∙ ap (chain (turn_of c.args.pts.now c.args.normal.now) []) (c.deref-2.ensures.value ∙ c.reverse.ensures.items)))
    c.joined.ensures
