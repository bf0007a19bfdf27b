-- Words whose magnitude is within the cap.
use Rattle.std.specs.Prelude.{ℤ, pos, negsuc, ◌≤◌, min}
use Rattle.qh_model.specs.declared.limits.TheConstants.{COORDINATE_LIMIT}
use Rattle.qh_read.specs.{contract.Tokens.cap, declared.token.TheConstants.MAGNITUDE_CAP, declared.token.Token.Token, declared.token.Token.TheVariants.Digits}

-- a number up to the cap, above which numbers are not distinguished
abbrev pub capped : ℤ → ℤ
capped (pos n) = pos (cap n)
capped (negsuc n) = negsuc (min n COORDINATE_LIMIT)

-- the magnitude is within the cap
abbrev pub IsSmall : Token → Type 0
IsSmall (Digits minus n) = n ≤ MAGNITUDE_CAP
IsSmall t = Unit {0}
