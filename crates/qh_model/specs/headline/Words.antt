-- The data words of a byte string, each with its line.
-- Source: Qhull manual, "Qhull input: point coordinates"; lines, blanks and comments are this project's profile.
use Rattle.std.specs.Prelude.{ℕ, Bool, true, false, List, [], ◌∷◌, ◌++◌, ◌==◌, ◌||◌, ◌+◌, map, filter, if◌then◌else◌}
use Rattle.std.specs.{Char.is_ascii_digit, List.slice_split}

-- tab, vertical tab, form feed, carriage return or space
abbrev pub is_blank : ℕ → Bool
is_blank c = c == 9 || c == 11 || c == 12 || c == 13 || c == 32

-- a line ends at byte 10 or at the end of the input
abbrev pub lines_of : List ℕ → List (List ℕ)
lines_of bytes = slice_split (λ c. c == 10) bytes

abbrev pub is_word : List ℕ → Bool
is_word [] = false
is_word (c ∷ w) = true

-- the longest runs of bytes that are not blank
abbrev pub words_of : List ℕ → List (List ℕ)
words_of line = filter is_word (slice_split is_blank line)

-- the first byte is a digit, `+`, `-` or `.`
abbrev pub is_data : List ℕ → Bool
is_data [] = false
is_data (c ∷ w) = is_ascii_digit c || c == 43 || c == 45 || c == 46

-- the words before the first word that is not data, which begins a comment to the end of the line
abbrev pub before_comment : List (List ℕ) → List (List ℕ)
before_comment [] = []
before_comment (w ∷ ws) = if is_data w then w ∷ before_comment ws else []

-- a word and its line, counted from 1
pub record Word : Type 0 where
  pub text : List ℕ
  pub line : ℕ

abbrev pub on_line : ℕ → List (List ℕ) → List Word
on_line n ws = map (λ w. record { text = w; line = n }) ws

-- the words of lines that are numbered from n, for a function that splits a line into words
abbrev pub words_from : (List ℕ → List (List ℕ)) → ℕ → List (List ℕ) → List Word
words_from parts n [] = []
words_from parts n (line ∷ lines) = on_line n (parts line) ++ words_from parts (n + 1) lines

-- all words outside comments, in order over the whole file
abbrev pub data_words : List ℕ → List Word
data_words bytes = words_from (λ line. before_comment (words_of line)) 1 (lines_of bytes)
