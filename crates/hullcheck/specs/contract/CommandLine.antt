-- The settings that the words of a command line specify. This project's own.
use Rattle.std.specs.Prelude.{ℕ, Bool, ◌==◌, nat_lt, nat_le, ◌&&◌, ◌||◌, if◌then◌else◌, List, [], ◌∷◌, codes, length, slice_index}
use Rattle.std.specs.Prelude.{drop, Option, None, Some, is_some}
use Rattle.std.specs.List.{list_any}
use Rattle.std.specs.{Option.option_and_then, Option.option_map, Str.all_ascii_digits, Str.bytes_eq, Str.Parse.digits_value, Str.Parse.without_leading_plus}
use Rattle.qh_model.specs.declared.limits.TheConstants.{WORKER_LIMIT}
use Rattle.qh_read.specs.declared.faces.reading.{Reading.Reading, Layout.TheVariants.Off, Layout.TheVariants.Counted, Layout.TheVariants.Lines}
use Rattle.qh_read.specs.declared.faces.reading.Orientation.TheVariants.{Counterclockwise, Clockwise}
use Rattle.hullcheck.specs.declared.command_line.Settings.{Settings}

-- the settings: the number of workers, how the faces are read, and the names of the two files
pub record Asked : Type 0 where
  pub workers : ℕ
  pub reading : Reading
  pub points : Option (List ℕ)
  pub faces : Option (List ℕ)

-- the settings without any words
abbrev pub asked_by_default : Asked
asked_by_default = record { workers = 4; reading = record { layout = Off; orientation = Counterclockwise }; points = None; faces = None }

-- the digits are a numeral from 1 to the limit
abbrev pub is_number_of_workers : List ℕ → Bool
is_number_of_workers digits = (nat_lt 0 (length digits) && all_ascii_digits digits)
    && (nat_le 1 (digits_value 10 digits) && nat_le (digits_value 10 digits) WORKER_LIMIT)

-- the number of workers that a word denotes, which may begin with a plus
abbrev pub workers_in : List ℕ → Option ℕ
workers_in word = let digits = without_leading_plus word in
    if is_number_of_workers digits then Some (digits_value 10 digits) else None

-- the settings with this number of workers
abbrev pub with_workers : Asked → ℕ → Asked
with_workers asked n = record asked { workers = n }

-- the settings with one more name: the first names the points, the second the faces, and a third is refused
abbrev pub with_named : Option (List ℕ) → Option (List ℕ) → Asked → List ℕ → Option Asked
with_named None faces asked word = Some (record asked { points = Some word })
with_named (Some points) None asked word = Some (record asked { faces = Some word })
with_named (Some points) (Some faces) asked word = None

-- the settings with a file name, which does not begin with a minus
abbrev pub with_file : Asked → List ℕ → Option Asked
with_file asked word = if slice_index word 0 == 45 then None else with_named asked.points asked.faces asked word

-- the settings with an option without a value, or with a file name
abbrev pub with_word : Asked → List ℕ → Option Asked
with_word asked word =
    if bytes_eq word (codes "--indices") then Some (record asked { reading = record { layout = Lines; orientation = asked.reading.orientation } })
    else if bytes_eq word (codes "--counted") then Some (record asked { reading = record { layout = Counted; orientation = asked.reading.orientation } })
    else if bytes_eq word (codes "--clockwise") then Some (record asked { reading = record { layout = asked.reading.layout; orientation = Clockwise } })
    else with_file asked word

-- the settings with all of some words; the word after `--workers` is their number
abbrev pub with_words : Asked → List (List ℕ) → Option Asked
with_words asked [] = Some asked
with_words asked (word ∷ []) = if bytes_eq word (codes "--workers") then None else with_word asked word
with_words asked (word ∷ next ∷ rest) =
    if bytes_eq word (codes "--workers") then option_and_then (λ n. with_words (with_workers asked n) rest) (workers_in next)
    else option_and_then (λ more. with_words more (next ∷ rest)) (with_word asked word)

-- the settings, if the file of points is named
abbrev pub with_points : Asked → Option Asked
with_points asked = if is_some asked.points then Some asked else None

-- the settings that the words of a command line specify, the first of which is the name of the program; nothing if they are refused
abbrev pub asked_by : List (List ℕ) → Option Asked
asked_by words = option_and_then with_points (with_words asked_by_default (drop 1 words))

-- the word requests help
abbrev pub is_help : List ℕ → Bool
is_help word = bytes_eq word (codes "--help") || bytes_eq word (codes "-h")

-- one of the words after the first requests help
abbrev pub requests_help : List (List ℕ) → Bool
requests_help words = list_any is_help (drop 1 words)

-- the contract view of settings
abbrev pub asked_in : Settings → Asked
asked_in s = record { workers = s.workers; reading = s.reading; points = option_map (λ p. p.now) s.points; faces = option_map (λ p. p.now) s.faces }
