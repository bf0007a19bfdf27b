-- The ends so far are ids of the set.
use Rattle.qh_model.specs.headline.Sets.{Members}
use Rattle.qh_surface.proofs.starts.ends.ends_of.Given as goal

-- the end in each direction is one of the ids
abbrev pub invariant-loop-id : goal.invariant-loop-id
invariant-loop-id l =
    Members l.ids l.west.id × Members l.ids l.east.id × Members l.ids l.south.id × Members l.ids l.north.id × Members l.ids l.bottom.id × Members l.ids l.top.id
