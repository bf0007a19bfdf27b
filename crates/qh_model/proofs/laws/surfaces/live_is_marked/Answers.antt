use Rattle.qh_model.proofs.surfaces.Stored.{live_is_marked, live_is_listed_once}
use Rattle.qh_model.proofs.laws.surfaces.live_is_marked.Goals as goal

pub returns : goal.returns
returns c = record { marked = live_is_marked; once = live_is_listed_once }
