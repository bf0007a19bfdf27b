use Rattle.{std.proofs.Common.◌≡◌, std.proofs.Common.◌≤◌, std.proofs.Common.false, std.proofs.Common.drop, qh_read.specs.contract.Holding.held_by}
use Rattle.qh_read.specs.{declared.token.TheConstants.MAGNITUDE_CAP, declared.token.Token.TheVariants.Digits, steps.Scanning.held, steps.Scanning.under_way}
use Rattle.qh_read.proofs.scanner.Scanner.digits.Given as goal

-- the digits so far, followed by the remaining bytes, are all bytes
abbrev pub invariant-loop-i : goal.invariant-loop-i
invariant-loop-i l = record {
  told : held_by (held l.self (Digits l.minus l.magnitude)) (drop l.i l.bytes) ≡ held_by (held l.fn.self l.fn.token) l.fn.bytes;
  small : l.magnitude ≤ MAGNITUDE_CAP;
  quiet : l.self.comment ≡ false;
  token : under_way l.fn.token ≡ 1;
}
