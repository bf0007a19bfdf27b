-- The bytes of the pieces so far.
use Rattle.{std.proofs.Common.◌≡◌, std.proofs.Common.take, qh_write.specs.contract.Pieces.bytes_of}
use Rattle.qh_write.proofs.pieces.Pieces.joined.Given as goal

abbrev pub invariant-loop-piece : goal.invariant-loop-piece
invariant-loop-piece l = l.all.items ≡ bytes_of (take l.piece-index l.piece-items)
