-- The corners and the shared ids are kept.
use Rattle.qh_parts_join.proofs.kept.kept_ids.Goals as goal

pub returns-clause-kept : goal.returns-clause-kept
returns-clause-kept c = c.in_ok-all.ensures.kept c.if-not-all.false c.in_ok-kept.kept.items c.in_ok-kept.ensures.members

pub returns-clause-inside : goal.returns-clause-inside
returns-clause-inside c = c.in_ok-all.ensures.inside c.if-not-all.false
