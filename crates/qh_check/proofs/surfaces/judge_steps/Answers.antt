-- There is a step that is taken twice, or an open step, or no fault.
use Rattle.qh_check.proofs.SurfaceVerdicts.{is_open, is_twice, is_right}
use Rattle.qh_check.proofs.surfaces.judge_steps.Goals as goal

pub returns-in-Some : goal.returns-in-Some
returns-in-Some c = λ pts ids set solid some faces.
    is_twice pts ids c.args.polygons.now set solid _ _ (rw c.in-Some.is at c.in_ok-step.ensures)

pub returns-in-Some-2 : goal.returns-in-Some-2
returns-in-Some-2 c = λ pts ids set solid some faces.
    is_open pts ids c.args.polygons.now set solid _ _ (rw c.in-Some-2.is at c.in_ok-step-2.ensures)

pub returns-in-None : goal.returns-in-None
returns-in-None c = λ pts ids set solid some faces.
    is_right pts ids c.args.polygons.now set solid some faces (rw c.in-None.is at c.in_ok-step-2.ensures) (rw c.in_default.is at c.in_ok-step.ensures)
