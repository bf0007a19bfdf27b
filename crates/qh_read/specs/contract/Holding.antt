-- The state of a reader after the bytes so far.
use Rattle.std.specs.Prelude.{ℕ, ◌≡◌, ◌+◌, Bool, true, false, List, [], ◌∷◌, ◌==◌, if◌then◌else◌, length}
use Rattle.std.specs.Char.{is_ascii_digit}
use Rattle.qh_model.specs.declared.form.Form.{Form, TheVariants.Qhull, TheVariants.Off}
use Rattle.qh_model.specs.headline.Words.{is_blank, is_data}
use Rattle.qh_read.specs.contract.{Tokens.grown, Tokens.value_of, Tokens.is_keyword, Progress.Progress, Progress.started, Progress.after}
use Rattle.qh_read.specs.declared.token.Token.{Token, TheVariants.Empty}

-- the form, the progress, the unfinished word, whether a comment is unfinished, and the line
pub record Held : Type 0 where
  pub form : Form
  pub progress : Progress
  pub token : Token
  pub comment : Bool
  pub line : ℕ

abbrev pub held_at_start : Form → Held
held_at_start form = record { form = form; progress = started form; token = Empty; comment = false; line = 1 }

-- the unfinished word ends
abbrev pub word_ended : Progress → Token → ℕ → Progress
word_ended p Empty line = p
word_ended p t line = after p (is_keyword t) (value_of t) line

abbrev pub ended_held : Held → Held
ended_held h = record h { progress = word_ended h.progress h.token h.line; token = Empty }

-- in a point file, the byte continues a word, or begins a word, or begins a comment
abbrev pub held_begun : Held → Token → ℕ → Held
held_begun h Empty c = if is_data (c ∷ []) then record h { token = grown Empty c } else record h { comment = true }
held_begun h t c = record h { token = grown t c }

-- a byte that is neither a digit nor a separator; in an OFF file, `#` ends a word and begins a comment
abbrev pub held_marked : Form → Held → ℕ → Held
held_marked Qhull h c = held_begun h h.token c
held_marked Off h c = if c == 35 then record (ended_held h) { comment = true } else record h { token = grown h.token c }

-- the state after one more byte
abbrev pub next_held : Held → ℕ → Held
next_held h c =
    if c == 10 then record (ended_held h) { comment = false; line = h.line + 1 }
    else if h.comment then h
    else if is_blank c then ended_held h
    else if is_ascii_digit c then record h { token = grown h.token c }
    else held_marked h.form h c

abbrev pub held_by : Held → List ℕ → Held
held_by h [] = h
held_by h (c ∷ cs) = held_by (next_held h c) cs

-- the state of a reader, and the number of bytes read
pub record Reading : Type 0 where
  pub held : Held
  pub count : ℕ

-- the state of the reader is that of these bytes in this form, with their number
pub record Fed (form : Form) (r : Reading) (bytes : List ℕ) : Type 0 where
  pub count : r.count ≡ length bytes
  pub held : r.held ≡ held_by (held_at_start form) bytes
