-- The first ids of a solid set are a simplex.
use Rattle.qh_surface.proofs.runs.FirstSimplexes.{simplex_is}
use Rattle.qh_block.proofs.solids.solid_mesh.Goals as goal

pub surface_from-requires-clause-first : goal.surface_from-requires-clause-first
surface_from-requires-clause-first c =
    let first = c.args.first in
    simplex_is c.args.set.pts.now c.args.set.ids.now first.i first.j first.k first.l c.requires.two c.requires.off_line c.requires.off_plane
