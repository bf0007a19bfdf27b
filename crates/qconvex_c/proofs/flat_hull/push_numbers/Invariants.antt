use Rattle.std.proofs.Common.{◌≡◌, ◌++◌, take}
use Rattle.qconvex_c.proofs.flat_hull.push_numbers.Given as goal

abbrev pub invariant-loop-id : goal.invariant-loop-id
invariant-loop-id l = l.numbers.items ≡ l.initial.numbers.items ++ take l.id-index l.ids
