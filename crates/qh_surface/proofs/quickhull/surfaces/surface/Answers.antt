-- A set of dimension 3 has a simplex, and the surface of a run from it is that of the hull.
use Rattle.qh_mesh.proofs.{Rewiring.in_live, SoundMeshes.finished_is_closed}
use Rattle.qh_model.proofs.{Members.rising_once, extremes.Dimensions.dimension_is_unique, surfaces.Finished.facets_support}
use Rattle.{qh_model.specs.headline.Predicates.place, qh_polygon.proofs.ShapeIds.solid_only, qh_polygon.specs.contract.Shapes.dimension_of}
use Rattle.qh_surface.proofs.quickhull.surfaces.surface.Goals as goal

pub unreachable-requires : goal.unreachable-requires
unreachable-requires c =
    let dim = dimension_of c.rank.result in let same = c.rank.ensures.dimension c.requires.set in
    solid_only c.rank.result (dimension_is_unique (place c.args.pts.now) c.args.ids.now dim 3 same c.requires.solid) c.in_default.not-Solid

pub returns-clause-finished : goal.returns-clause-finished
returns-clause-finished c = rw c.renamed.ensures (c.in_ok-surface.ensures.finished (rising_once c.args.ids.now c.requires.set.rising))

pub returns-clause-closed : goal.returns-clause-closed
unfolding returns-clause-finished
returns-clause-closed c = finished_is_closed (place c.args.pts.now) c.args.ids.now _ (returns-clause-finished c)

pub returns-clause-supporting : goal.returns-clause-supporting
unfolding returns-clause-finished
returns-clause-supporting c = λ f l.
    facets_support (place c.args.pts.now) c.args.ids.now _ (returns-clause-finished c) f (in_live _ f l)
