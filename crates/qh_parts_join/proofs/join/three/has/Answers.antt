-- The test decides membership.
use Rattle.{std.proofs.Common.◌∙◌, std.proofs.Common.sym, qh_places.proofs.ListMembers.any_in}
use Rattle.qh_parts_join.proofs.join.three.has.Goals as goal

pub returns : goal.returns
returns c = λ found. any_in c.args.id c.args.ids.now (sym c.contains.ensures.value ∙ found)
