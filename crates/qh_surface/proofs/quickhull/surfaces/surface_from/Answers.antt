-- Facts about the ids in Morton order hold for the ids in their given order.
use Rattle.std.proofs.lemmas.Result.{IfOk-weaker}
use Rattle.qh_surface.proofs.runs.OrderedIds.{finished_reordered, indices_reordered, once_reordered, simplex_reordered}
use Rattle.qh_surface.proofs.quickhull.surfaces.surface_from.Goals as goal

pub surface_along-requires-2-clause-indices : goal.surface_along-requires-2-clause-indices
surface_along-requires-2-clause-indices c = indices_reordered c.in_ok-near.ensures c.args.pts.now c.requires.indices

pub surface_along-requires-2-clause-first : goal.surface_along-requires-2-clause-first
surface_along-requires-2-clause-first c = simplex_reordered c.in_ok-near.ensures c.wide_simplex-far.ensures

pub returns-clause-finished : goal.returns-clause-finished
returns-clause-finished c =
    let p = c.in_ok-near.ensures in
    IfOk-weaker c.surface_along-2.result _ _ (λ m h once. finished_reordered p (h (once_reordered p once)))
    c.surface_along-2.ensures.finished
