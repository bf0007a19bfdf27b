-- The bytes that are sent to a device of lines.
use Rattle.std.specs.Prelude.{ℕ, ◌≡◌, ◌+◌, List, [], ◌∷◌, ◌++◌, Option, Result, MatchResult, is_ok, if◌then◌else◌}
use Rattle.std.specs.Io.KnownBytes.{Appends}
use Rattle.qh_write.specs.{declared.sink.SinkFault.SinkFault, headline.Sinks.AppendsBeginning}

-- a text and a line end were sent; or the device failed after a prefix of them
abbrev pub SendsLine : Option (List ℕ) → Option (List ℕ) → List ℕ → Result (Unit {0}) SinkFault → Type 0
SendsLine old new text result = MatchResult result (λ _. Appends old new (text ++ 10 ∷ [])) (λ _. AppendsBeginning old new (text ++ 10 ∷ []))

-- the bytes received, if the device specifies them, and the number of its failed calls
pub record LineDevice : Type 0 where
  pub went : Option (List ℕ)
  pub failures : ℕ

-- the count of failures rises if the device failed
abbrev pub IsCounted : Result (Unit {0}) SinkFault → ℕ → ℕ → Type 0
IsCounted said old new = new ≡ (if is_ok said then old else old + 1)

-- a line with this text was sent, or a prefix of it if the device failed
abbrev pub SaysLine : List ℕ → LineDevice → LineDevice → Type 0
SaysLine text old new = (said : Result (Unit {0}) SinkFault) × SendsLine old.went new.went text said × IsCounted said old.failures new.failures
