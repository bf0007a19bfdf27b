-- A rebuilt mesh is the result of a step according to the laws.
use Rattle.qh_model.specs.headline.Predicates.{place}
use Rattle.qh_mesh.proofs.mesh.Mesh.replace.Goals as goal

pub returns-clause-rewired : goal.returns-clause-rewired
returns-clause-rewired c = (rw (c.make_room.ensures.facets, c.self.view_is, c.number.ensures) at c.rebuild.ensures).rewired (place c.args.pts.now)

pub returns-clause-sound : goal.returns-clause-sound
returns-clause-sound c = (rw (c.make_room.ensures.facets, c.self.view_is, c.number.ensures) at c.rebuild.ensures).sound (place c.args.pts.now)

pub returns-clause-closed : goal.returns-clause-closed
returns-clause-closed c = (rw (c.make_room.ensures.facets, c.self.view_is, c.number.ensures) at c.rebuild.ensures).closed (place c.args.pts.now)

pub returns-clause-falls : goal.returns-clause-falls
returns-clause-falls c = (rw (c.make_room.ensures.facets, c.self.view_is, c.number.ensures) at c.rebuild.ensures).falls (place c.args.pts.now)
