use Rattle.std.{proofs.Common.length, proofs.Common.◌-◌, proofs.Common.◌≡◌, proofs.Common.◌≤◌, proofs.Common.take, specs.Io.KnownBytes.Appends}
use Rattle.qh_write.proofs.sending.send_all.Given as goal

abbrev pub invariant-loop-sent : goal.invariant-loop-sent
invariant-loop-sent g l =
    (l.sent ≤ length l.bytes) × Appends (g.K.Sink.went l.initial.sink) (g.K.Sink.went l.sink) (take l.sent l.bytes)
    × (g.K.Sink.count l.sink ≡ g.K.Sink.count l.initial.sink)

abbrev pub decreases-loop-sent : goal.decreases-loop-sent
decreases-loop-sent g l = length l.bytes - l.sent
