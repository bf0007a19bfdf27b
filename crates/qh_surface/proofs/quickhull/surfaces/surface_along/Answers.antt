-- The corners of a finished surface over positions are mapped to their ids.
use Rattle.{qh_model.proofs.surfaces.Named.finished_by_position, qh_mesh.specs.contract.Names.name_in}
use Rattle.qh_surface.proofs.runs.OrderedIds.{name_is, named_corners, positions_within}
use Rattle.qh_surface.proofs.quickhull.surfaces.surface_along.Goals as goal

pub returns-clause-finished : goal.returns-clause-finished
returns-clause-finished c once =
    let ids = c.args.ids.items in
    finished_by_position c.args.pts.now ids (name_in ids) c.in_ok-run.run'.mesh once (name_is ids) (rw c.deref.ensures.value at c.in_ok-run.ensures.finished)

pub returns-clause-named : goal.returns-clause-named
returns-clause-named c = let ids = c.args.ids.items in let mesh = c.in_ok-run.run'.mesh in
    let done = rw c.deref.ensures.value at c.in_ok-run.ensures.finished in record {
      points = rw c.deref.ensures.value at c.in_ok-run.ensures.points;
      positions = positions_within mesh ids done;
      corners = named_corners c.args.pts.now ids _ mesh c.requires.indices done;
    }
