-- A block of one of the levels decides, or one of the lowest level.
use Rattle.qh_places.proofs.places.Places.below_all.Goals as goal

pub returns-then-below-gt0 : goal.returns-then-below-gt0
returns-then-below-gt0 c = c.below_all-below.ensures c.args.self.now.points.items (rw c.deref.ensures.value c.args.self.now.blocks)

pub returns : goal.returns
returns c = c.below_all.ensures c.args.self.now.points.items c.args.self.now.lowest
