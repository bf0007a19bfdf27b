-- The places of the parts that remain, and then those that are listed, in reversed order.
use Rattle.std.proofs.Common.{◌≡◌, ◌++◌, length, map, reverse}
use Rattle.qh_parts_join.specs.contract.Kept.{places_of}
use Rattle.qh_parts_join.proofs.join.kept.corners_of.Given as goal

abbrev pub invariant-loop-part : goal.invariant-loop-part
invariant-loop-part l = map places_of l.initial.parts.items ≡ map places_of l.parts.items ++ reverse l.corners.items

abbrev pub decreases-loop-part : goal.decreases-loop-part
decreases-loop-part l = length l.parts.items
