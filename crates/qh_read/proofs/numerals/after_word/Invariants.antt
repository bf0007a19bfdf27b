-- The bytes so far belong to the word.
use Rattle.qh_read.proofs.numerals.after_word.Given as goal
use Rattle.std.{proofs.Common.ℕ, proofs.Common.◌≡◌, proofs.Common.false, proofs.Common.drop, specs.Prelude.Some}
use Rattle.qh_read.specs.steps.{Arriving.arriving, SmallTokens.IsSmall}

abbrev pub invariant-loop-i : goal.invariant-loop-i
invariant-loop-i l = record {
  told : (line : ℕ) → arriving (Some l.fn.begun) false line l.bytes ≡ arriving (Some l.token) false line (drop l.i l.bytes);
  small : IsSmall l.token;
}
