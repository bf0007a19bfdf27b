-- A finished run has a finished surface over the points of the ids.
use Rattle.std.proofs.{Common.◌∙◌, lemmas.List.length-map}
use Rattle.qh_surface.proofs.runs.{FinishedRuns.finished, OrderedIds.simplex_in}
use Rattle.qh_surface.proofs.quickhull.surfaces.run_over.Goals as goal

pub start-requires : goal.start-requires
start-requires c =
    simplex_in c.args.pts.now c.in_ok-points.points.items c.args.ids.now c.args.first c.in_ok-first.first c.in_ok-points.ensures
    c.in_ok-first.ensures c.requires.first

pub returns-clause-finished : goal.returns-clause-finished
returns-clause-finished c =
    let run = c.finish.new.self in let done = finished run.points.items run.mesh c.in_ok-finish.ensures.grown c.in_ok-finish.ensures.done in
    rw (c.finish.ensures.points ∙ c.in_ok-run.ensures.points ∙ c.in_ok-points.ensures, length-map) at done
