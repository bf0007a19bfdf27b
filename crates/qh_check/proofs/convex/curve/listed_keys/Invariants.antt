-- The keys of the ids so far.
use Rattle.{std.proofs.Common.◌≡◌, std.proofs.Common.map, std.proofs.Common.take, qh_check.specs.steps.Hidden.id_in}
use Rattle.qh_check.proofs.convex.curve.listed_keys.Given as goal

abbrev pub invariant-loop-id : goal.invariant-loop-id
invariant-loop-id l = map id_in l.keys.items ≡ take l.id-index l.ids
