use Rattle.{std.proofs.Common.arith, qconvex_c.proofs.SetParts.kept_between}
use Rattle.qconvex_c.proofs.set_hulls.hull_of_set.Goals as goal

pub returns-clause-extremes : goal.returns-clause-extremes
returns-clause-extremes c = kept_between _ _ _ _ c.requires.rising c.requires.parts.extremes c.qconvex_hull-code.auto.extremes

pub returns-clause-offsets : goal.returns-clause-offsets
returns-clause-offsets c = kept_between _ _ _ _ (omega arith) c.requires.parts.offsets c.qconvex_hull-code.auto.offsets

pub returns-clause-corners : goal.returns-clause-corners
returns-clause-corners c = kept_between _ _ _ _ (omega arith) c.requires.parts.corners c.qconvex_hull-code.auto.corners
