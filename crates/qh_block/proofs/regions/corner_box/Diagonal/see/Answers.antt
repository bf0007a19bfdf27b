-- Each end is the previous end or the new point.
use Rattle.qh_block.proofs.regions.corner_box.Diagonal.see.Goals.{then-reach-self, else-reach-self}
use Rattle.qh_block.proofs.regions.corner_box.Diagonal.see.Goals as goal

pub returns-else-reach-self-2 : goal.returns-else-reach-self-2
returns-else-reach-self-2 c pts ids e p = elim c.if-reach-self.branch [
  | then-reach-self w ↦ rw w.self-is (p, e.1)
  | else-reach-self w ↦ rw w.self-is e
]

pub returns-then-reach-self-2 : goal.returns-then-reach-self-2
returns-then-reach-self-2 c pts ids e p = elim c.if-reach-self.branch [
  | then-reach-self w ↦ rw w.self-is (p, p)
  | else-reach-self w ↦ rw w.self-is (e.0, p)
]
