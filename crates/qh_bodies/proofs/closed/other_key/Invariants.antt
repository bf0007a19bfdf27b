-- The lists agree so far.
use Rattle.std.proofs.Common.{◌≡◌, take}
use Rattle.qh_bodies.proofs.closed.other_key.Given as goal

abbrev pub invariant-loop-k : goal.invariant-loop-k
invariant-loop-k l = take l.k l.up ≡ take l.k l.down
