-- The pieces so far were sent.
use Rattle.{std.proofs.Common.◌≡◌, std.proofs.Common.take, std.specs.Io.KnownBytes.Appends, qh_write.specs.contract.Pieces.bytes_of}
use Rattle.qh_write.proofs.sending.send_pieces.Given as goal

abbrev pub invariant-loop-piece : goal.invariant-loop-piece
invariant-loop-piece g l =
    Appends (g.K.Sink.went l.initial.sink) (g.K.Sink.went l.sink) (bytes_of (take l.piece-index l.text.done.items))
    × (g.K.Sink.count l.sink ≡ g.K.Sink.count l.initial.sink)
