-- The results at the starts so far.
use Rattle.qh_places.specs.steps.Levels.{HasSeen}
use Rattle.qh_places.proofs.places.Places.on_plane.Given as goal

abbrev pub invariant-loop-index : goal.invariant-loop-index
invariant-loop-index l = HasSeen l.self.points.items l.self.ids.items l.plane l.near.starts.items l.index l.found.items
