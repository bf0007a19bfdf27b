-- The token of an unfinished word: a sign, and digits with their value up to a cap; or letters of the keyword `OFF`.
use Rattle.std.specs.Prelude.{ℕ, ℤ, pos, neg_ℤ, Bool, true, false, ◌==◌, ◌+◌, ◌-◌, ◌*◌, min, if◌then◌else◌, Option, Some, None}
use Rattle.std.specs.Char.{is_ascii_digit}
use Rattle.qh_read.specs.declared.token.{TheConstants.MAGNITUDE_CAP, Token.Token}
use Rattle.qh_read.specs.declared.token.Token.TheVariants.{Empty, Sign, Digits, Keyword, Other}

-- a magnitude up to the cap, above which magnitudes are not distinguished
abbrev pub cap : ℕ → ℕ
cap n = min n MAGNITUDE_CAP

-- the word extended by a byte
abbrev pub grown : Token → ℕ → Token
grown Empty c =
    if c == 43 then Sign false
    else if c == 45 then Sign true
    else if is_ascii_digit c then Digits false (c - 48)
    else if c == 79 then Keyword 1
    else Other
grown (Sign minus) c = if is_ascii_digit c then Digits minus (c - 48) else Other
grown (Digits minus n) c = if is_ascii_digit c then Digits minus (cap (10 * n + (c - 48))) else Other
grown (Keyword letters) c =
    if c == 70 then (if letters == 1 then Keyword 2 else if letters == 2 then Keyword 3 else Other)
    else Other
grown Other c = Other

abbrev pub signed : Bool → ℕ → ℤ
signed minus n = if minus then neg_ℤ (pos n) else pos n

-- the number of a word that ends here
abbrev pub value_of : Token → Option ℤ
value_of (Digits minus n) = Some (signed minus n)
value_of t = None

-- the word that ends here is `OFF`
abbrev pub is_keyword : Token → Bool
is_keyword (Keyword letters) = letters == 3
is_keyword t = false
