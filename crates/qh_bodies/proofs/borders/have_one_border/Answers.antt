-- The keys are the same for both, or one of them occurs more often for one.
use Rattle.qh_bodies.proofs.{AbsentValues.is_none_tells, StepBorders.one_border, StepBorders.other_border}
use Rattle.qh_bodies.proofs.borders.have_one_border.Goals as goal

pub returns : goal.returns
returns c =
    let polygons = c.args.polygons.now in let others = c.args.others.now in
    let keys = c.in_ok-steps.steps.items in let other_keys = c.in_ok-other_steps.other_steps.items in
    let steps = c.in_ok-steps.ensures.steps in let other_steps = c.in_ok-other_steps.ensures.steps in
    is_none_tells c.other_key.result c.is_none.result c.is_none.ensures
    (rw (c.deref.ensures.value, c.deref-2.ensures.value) at c.other_key.ensures)
    (one_border polygons others keys other_keys steps other_steps)
    (λ key. other_border polygons others keys other_keys key steps other_steps)
