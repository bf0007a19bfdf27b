-- The state of a scanner, and its room.
use Rattle.std.specs.Prelude.{ℕ, ◌≤◌, ◌+◌, ◌*◌, vec_capacity}
use Rattle.qh_read.specs.{contract.Holding.Held, declared.scanner.Scanner.Scanner, declared.token.Token.Token, declared.token.Token.TheVariants.Empty}
use Rattle.qh_read.specs.steps.Building.{shown, taken_count}

-- the state of a scanner, with the unfinished word
abbrev pub held : Scanner → Token → Held
held s t = record { form = s.form; progress = shown s.builder; token = t; comment = s.comment; line = s.line }

-- the number of unfinished words
abbrev pub under_way : Token → ℕ
under_way Empty = 0
under_way t = 1

-- for any next bytes of this number, after which the text may end, there is room for the points
abbrev pub HasRoom : Scanner → Token → ℕ → Type 0
HasRoom s t bytes = 2 * taken_count s.builder + under_way t + bytes ≤ 6 * vec_capacity s.builder.points + 4
