-- The ids found up to a position.
use Rattle.qh_places.specs.steps.Levels.{HasLooked}
use Rattle.qh_places.proofs.places.Places.look.Given as goal

abbrev pub invariant-loop-position : goal.invariant-loop-position
invariant-loop-position l = HasLooked l.self.points.items l.self.ids.items l.plane l.from l.position l.initial.found.items l.found.items
