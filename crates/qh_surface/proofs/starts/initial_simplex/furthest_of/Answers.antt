-- An end is one of the ids.
use Rattle.qh_model.{specs.headline.Sets.Members, proofs.Members.All-In}
use Rattle.qh_surface.proofs.starts.initial_simplex.furthest_of.Goals as goal

pub returns-then-is_end-clause-member : goal.returns-then-is_end-clause-member
returns-then-is_end-clause-member c = All-In (Members c.args.ids.now) c.args.ends.now _ c.requires.ends c.furthest-end.ensures.member
