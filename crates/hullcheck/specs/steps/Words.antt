-- The settings that the words of a command line specify, word by word.
use Rattle.std.specs.Prelude.{ℕ, List, [], ◌∷◌, Option, None}
use Rattle.std.specs.Option.{option_and_then}
use Rattle.hullcheck.specs.contract.CommandLine.{Asked, with_words, with_workers, workers_in}
use Rattle.hullcheck.specs.declared.command_line.Next.{Next, TheVariants.Any, TheVariants.Workers}

-- the settings with a number of workers and all words after it
abbrev pub with_number : Asked → List (List ℕ) → Option Asked
with_number asked [] = None
with_number asked (word ∷ rest) = option_and_then (λ n. with_words (with_workers asked n) rest) (workers_in word)

-- the settings that all words specify, if the first is an option or a file, or the number of workers
abbrev pub with_next : Next → Asked → List (List ℕ) → Option Asked
with_next Any asked words = with_words asked words
with_next Workers asked words = with_number asked words
