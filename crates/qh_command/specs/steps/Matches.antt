-- The settings in clap's matches, and the faults on the way.
use Rattle.std.specs.Prelude.{◌≡◌, ◌≢◌, ◌⊎◌, List, Option, codes, string_bytes}
use Rattle.std.specs.Option.{option_map}
use Rattle.clap.specs.Words.{Text, matched_of, one_text, raw_values}
use Rattle.clap.specs.declared.error.kind.ErrorKind.{ErrorKind, TheVariants.DisplayHelp, TheVariants.DisplayVersion, TheVariants.OutOfMemory}
use Rattle.clap.specs.declared.parser.matches.Found.{Found}
use Rattle.qh_model.specs.declared.out.Out.{Out}
use Rattle.qh_command.specs.contract.CommandLine.{AreOutsOf, IsFormOf, NumberOf}
use Rattle.qh_command.specs.declared.command_line.ArgFault.{ArgFault}
use Rattle.qh_command.specs.declared.help.TheConstants.{HELP, VERSION}
use Rattle.qh_command.specs.declared.command_line.ArgFault.TheVariants.{Help, Usage, Memory}
use Rattle.qh_command.specs.{contract.Ranges.IsInRange, headline.SettingsValue.SettingsValue}

-- the settings in the values found
pub record AreSettingsFound (found : Found) (s : SettingsValue) : Type 0 where
  pub workers : NumberOf (one_text found (codes "workers")) s.workers
  pub block : NumberOf (one_text found (codes "block")) s.block
  pub outs : AreOutsOf (option_map raw_values (matched_of found (codes "outs"))) s.outs
  pub form : IsFormOf (option_map raw_values (matched_of found (codes "from"))) s.form

-- the reason why no settings were found: the values are not settings in range, or an allocation failed
abbrev pub IsFindingFault : Found → ArgFault → Type 0
IsFindingFault found (Help text) = ⊥
IsFindingFault found Usage = (s : SettingsValue) → AreSettingsFound found s → ¬ (IsInRange s.workers s.block)
IsFindingFault found Memory = Unit {0}

-- the reason why there are no outputs: a word names no output, or an allocation failed
abbrev pub IsOutsFault : Option (List Text) → ArgFault → Type 0
IsOutsFault words (Help text) = ⊥
IsOutsFault words Usage = (outs : List Out) → ¬ (AreOutsOf words outs)
IsOutsFault words Memory = Unit {0}

-- the request for a text, or an allocation failed
abbrev pub IsTextOrMemory : Text → ArgFault → Type 0
IsTextOrMemory wanted (Help text) = string_bytes text ≡ wanted
IsTextOrMemory wanted Usage = ⊥
IsTextOrMemory wanted Memory = Unit {0}

-- the fault that corresponds to an error of clap
abbrev pub IsRefusalOf : ErrorKind → ArgFault → Type 0
IsRefusalOf kind (Help text) = ((kind ≡ DisplayHelp) × (string_bytes text ≡ HELP.now)) ⊎ ((kind ≡ DisplayVersion) × (string_bytes text ≡ VERSION.now))
IsRefusalOf kind Usage = (kind ≢ OutOfMemory) × (kind ≢ DisplayHelp) × (kind ≢ DisplayVersion)
IsRefusalOf kind Memory = Unit {0}
