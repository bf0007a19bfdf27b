use Rattle.qh_read.proofs.scanner.Scanner.scan.Given as goal
use Rattle.std.proofs.Common.{◌≡◌, ◌≤◌, ◌+◌, length}
use Rattle.qh_read.specs.{contract.Holding.held_by, steps.Scanning.held, steps.Scanning.HasRoom, steps.SmallTokens.IsSmall}

-- the bytes so far, followed by the remaining bytes, are all bytes
abbrev pub invariant-loop-byte : goal.invariant-loop-byte
invariant-loop-byte l = record {
  told : held_by (held l.self l.token) l.rest ≡ held_by (held l.fn.self l.fn.token) l.fn.piece;
  small : IsSmall l.token;
  room : HasRoom l.self l.token (length l.rest);
  line : l.self.line + length l.rest ≤ l.fn.self.line + length l.fn.piece;
}

abbrev pub decreases-loop-byte : goal.decreases-loop-byte
decreases-loop-byte l = length l.rest
