-- The lists agree so far.
use Rattle.std.proofs.Common.{◌≡◌, take}
use Rattle.qh_bodies.proofs.order.comes_before.Given as goal

abbrev pub invariant-loop-k : goal.invariant-loop-k
invariant-loop-k l = take l.k l.p ≡ take l.k l.q
