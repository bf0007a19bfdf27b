-- The effect of the program for a command line, on a source and a sink.
-- Source: this project's own.
use Rattle.std.specs.Prelude.{ℕ, ◌≡◌, ◌+◌, Bool, List, Option, Result, Ok, Err, MatchResult, string_bytes, true}
use Rattle.std.specs.Io.KnownBytes.{Appends}
use Rattle.qh_model.specs.declared.read_fault.ReadFault.TheVariants as reads
use Rattle.qh_write.specs.headline.Sinks.{AppendsBeginning}
use Rattle.qh_serve.specs.declared.fault.Fault.{Fault}
use Rattle.qh_serve.specs.declared.fault.Fault.TheVariants as faults
use Rattle.qh_serve.specs.headline.Serving.{Devices, IsQuiet, IsServed, IsServeFault}
use Rattle.qh_command.specs.headline.SettingsValue.{SettingsValue}
use Rattle.qh_command.specs.declared.command_line.ArgFault.{ArgFault, TheVariants.Help, TheVariants.Usage, TheVariants.Memory}

-- the devices, by their observable state
abbrev pub devices : Option (List ℕ) → Option (List ℕ) → ℕ → ℕ → Bool → Devices
devices to_come went source_failures sink_failures flushed =
    record { to_come = to_come; went = went; source_failures = source_failures; sink_failures = sink_failures; flushed = flushed }

-- the text was sent, nothing is buffered; neither device failed, and the source was not read
pub record IsHelped (text : List ℕ) (old new : Devices) : Type 0 where
  pub went : Appends old.went new.went text
  pub flushed : new.flushed ≡ true
  pub quiet : IsQuiet old new
  pub unread : new.to_come ≡ old.to_come

-- the sink failed once, after a prefix of the text, perhaps all of it, and this is the fault; the source was not read
pub record IsHelpFailure (text : List ℕ) (old new : Devices) (fault : Fault) : Type 0 where
  pub told : fault ≡ faults.Send
  pub went : AppendsBeginning old.went new.went text
  pub source : new.source_failures ≡ old.source_failures
  pub sink : new.sink_failures ≡ old.sink_failures + 1
  pub unread : new.to_come ≡ old.to_come

-- the outcome: for settings as `serve` specifies it; for a request for help; and for an invalid command line
abbrev pub IsOutcome : Result SettingsValue ArgFault → Devices → Devices → Result (Unit {0}) Fault → Type 0
IsOutcome (Ok s) old new result = MatchResult result (λ _. IsServed s.form s.outs old new) (IsServeFault s.form s.outs old new)
IsOutcome (Err (Help text)) old new result = MatchResult result (λ _. IsHelped (string_bytes text) old new) (IsHelpFailure (string_bytes text) old new)
IsOutcome (Err Usage) old new result = (result ≡ Err faults.Usage) × (new ≡ old)
IsOutcome (Err Memory) old new result = (result ≡ Err (faults.Read reads.Memory)) × (new ≡ old)
