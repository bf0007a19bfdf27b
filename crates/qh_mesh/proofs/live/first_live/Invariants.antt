-- No place so far is live.
use Rattle.std.proofs.Common.{◌≡◌}
use Rattle.qh_mesh.specs.contract.LiveNumbers.{live_after}
use Rattle.qh_mesh.proofs.live.first_live.Given as goal

abbrev pub invariant-loop-f : goal.invariant-loop-f
invariant-loop-f l = live_after l.mesh l.from ≡ live_after l.mesh l.f
