use Rattle.qh_model.proofs.hulls.Unique.{body_is_unique, hull_is_unique, text_is_unique}
use Rattle.qh_model.proofs.laws.hulls.one_hull.Goals as goal

pub returns : goal.returns
returns c = record { body = body_is_unique; hull = hull_is_unique; text = text_is_unique }
