-- The remaining parts, followed by the pieces from the last one back, are all parts.
use Rattle.std.{proofs.Common.◌≡◌, proofs.Common.◌++◌, proofs.Common.Ok, proofs.Common.map, proofs.Common.vec_len, specs.Prelude.reverse}
use Rattle.qh_write.proofs.pieces.all_pieces.Given as goal

abbrev pub invariant-loop-part : goal.invariant-loop-part
invariant-loop-part l = l.left.items ++ map Ok (reverse l.pieces.items) ≡ l.fn.parts.items

abbrev pub decreases-loop-part : goal.decreases-loop-part
decreases-loop-part l = vec_len l.left
