use Rattle.qh_laws.proofs.Slabs.{slab_is_below}
use Rattle.qh_laws.proofs.seam.slab_is_below.Goals as goal

pub returns : goal.returns
returns c = slab_is_below
