-- The sign of a number that is parsed as a whole.
use Rattle.std.specs.Prelude.{Bool, true, false}
use Rattle.qh_read.specs.declared.numbers.Sign.{Sign, TheVariants.Plus, TheVariants.Minus}

-- the sign is a minus
abbrev pub is_minus : Sign → Bool
is_minus Plus = false
is_minus Minus = true
