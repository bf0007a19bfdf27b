use Rattle.qh_laws.proofs.FoundHulls.{every_list_has_a_hull, every_list_has_a_text}
use Rattle.qh_laws.proofs.existence.every_list_has_a_text.Goals as goal

pub returns-clause-hull : goal.returns-clause-hull
returns-clause-hull c = every_list_has_a_hull

pub returns-clause-text : goal.returns-clause-text
returns-clause-text c = every_list_has_a_text
