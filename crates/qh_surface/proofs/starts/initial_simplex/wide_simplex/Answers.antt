-- The four corners are ids, and not in one plane.
use Rattle.std.proofs.Common.{arith, rules}
use Rattle.qh_surface.proofs.starts.initial_simplex.wide_simplex.Goals as goal

pub returns : goal.returns
returns c = record {
  has_i = c.requires.ends 0 _ (omega arith);
  has_j = c.requires.ends 1 _ (omega arith);
  has_k = c.furthest_of-k.ensures.member;
  has_l = c.furthest_of-l.ensures.member;
  volume = search rules;
}
