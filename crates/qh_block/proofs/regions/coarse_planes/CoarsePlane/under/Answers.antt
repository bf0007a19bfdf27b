-- A plane of whole steps, or a plane with no point below it.
use Rattle.qh_model.proofs.Common.{arith, ints}
use Rattle.qh_block.proofs.regions.coarse_planes.CoarsePlane.under.Goals as goal

pub returns-in-Some : goal.returns-in-Some
returns-in-Some c = c.in-Some.ensures

pub returns-in-None : goal.returns-in-None
returns-in-None c = λ p at below. absurd (let no = c.below_all.ensures p in omega (arith, ints, no, below))
