-- Solid sets and other sets are checked separately.
use Rattle.{std.proofs.lemmas.Result.IfOk-weaker, qh_model.proofs.extremes.Dimensions.one_dimension, qh_polygon.proofs.ShapeIds.solid_only}
use Rattle.qh_check.proofs.surfaces.check_surface.Goals as goal

pub returns-in-Solid : goal.returns-in-Solid
returns-in-Solid c = IfOk-weaker c.check_solid_surface.result _ _ (λ v h set. h set (c.in-Solid.ensures.dimension set)) c.check_solid_surface.ensures

pub returns-in_default : goal.returns-in_default
returns-in_default c =
    IfOk-weaker c.compare_surface.result _ _ (λ v h set. h set (λ solid. solid_only c.rank.result
    (one_dimension _ _ _ 3 (c.rank.ensures.dimension set) solid) c.in_default.not-Solid)) c.compare_surface.ensures
