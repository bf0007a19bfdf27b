-- The words in bytes that are read one at a time, as numbers.
use Rattle.std.specs.Prelude.{ℕ, ◌≡◌, ◌≤◌, ◌+◌, ◌==◌, ◌||◌, Bool, true, false, List, [], ◌∷◌, ◌++◌, length, if◌then◌else◌, Option, Some, None}
use Rattle.{std.specs.Option.option_to_list, qh_model.specs.declared.limits.TheConstants.BYTE_LIMIT, qh_model.specs.headline.Words.is_blank}
use Rattle.qh_read.specs.contract.{Tokens.grown, Tokens.value_of, Numerals.small_number}
use Rattle.qh_read.specs.declared.{numerals.Numeral.Numeral, numerals.Numerals.TheInside.Inside, token.Token.Token, token.Token.TheVariants.Empty}

-- the word that ends here, as a number
abbrev pub told : Token → ℕ → Numeral
told t line = record { number = small_number (value_of t); line = line }

-- the same, if there is an unfinished word
abbrev pub told_if : Option Token → ℕ → List Numeral
told_if None line = []
told_if (Some t) line = told t line ∷ []

-- the unfinished word extended by a byte, or a new word
abbrev pub grown_on : Option Token → ℕ → Token
grown_on None c = grown Empty c
grown_on (Some t) c = grown t c

-- the words that end in the bytes, which may begin in an unfinished word or in a comment
abbrev pub arriving : Option Token → Bool → ℕ → List ℕ → List Numeral
arriving t comment line [] = told_if t line
arriving t comment line (c ∷ cs) =
    if c == 10 then told_if t line ++ arriving None false (line + 1) cs
    else if comment then arriving t comment line cs
    else if is_blank c then told_if t line ++ arriving None false line cs
    else if c == 35 then told_if t line ++ arriving None true line cs
    else arriving (Some (grown_on t c)) false line cs

-- a byte ends a word
abbrev pub ends_word : ℕ → Bool
ends_word c = c == 10 || c == 35 || is_blank c

-- no byte remains, or the first byte belongs to a word
abbrev pub BeginsWord : List ℕ → Type 0
BeginsWord [] = Unit {0}
BeginsWord (c ∷ cs) = ends_word c ≡ false

-- the remaining words: a word that was read ahead, and those of the remaining bytes
abbrev pub to_come : Inside → List Numeral
to_come n = option_to_list n.head ++ arriving None false n.line n.rest.now

-- if no word was read ahead, no word remains; there are no more lines than bytes
pub record IsAhead (n : Inside) : Type 0 where
  pub ends : n.head ≡ None → arriving None false n.line n.rest.now ≡ []
  pub lines : n.line + length n.rest.now ≤ BYTE_LIMIT + 1
