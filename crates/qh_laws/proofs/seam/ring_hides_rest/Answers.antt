use Rattle.qh_laws.proofs.Rings.{ring_hides_rest}
use Rattle.qh_laws.proofs.seam.ring_hides_rest.Goals as goal

pub returns : goal.returns
returns c = ring_hides_rest
