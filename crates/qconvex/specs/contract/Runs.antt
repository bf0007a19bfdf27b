-- The effect of one run of the program on its devices, given the words.
-- Source: this project's own.
use Rattle.std.specs.Prelude.{ℕ, ◌≡◌, ◌≢◌, List, Result, Ok, Err, MatchResult}
use Rattle.std.specs.declared.io.ErrorKind.{ErrorKind, TheVariants.OutOfMemory}
use Rattle.qh_write.specs.contract.LineDevices.{LineDevice, SaysLine}
use Rattle.qh_serve.specs.{contract.FaultLines.fault_line, contract.FaultLines.status_of, declared.fault.Fault.Fault, headline.Serving.Devices}
use Rattle.qh_command.specs.headline.SettingsValue.{SettingsValue}
use Rattle.qh_command.specs.contract.CommandLine.{AreSettingsOf, IsArgFaultOf}
use Rattle.qconvex.specs.contract.Outcomes.{IsOutcome}
use Rattle.qh_command.specs.declared.command_line.ArgFault.{ArgFault, TheVariants.Usage, TheVariants.Memory}

-- there are no words: out of memory, or a word is not UTF-8
abbrev pub IsUnread : ErrorKind → Result SettingsValue ArgFault → Type 0
IsUnread kind asked = (kind ≡ OutOfMemory → asked ≡ Err Memory) × (kind ≢ OutOfMemory → asked ≡ Err Usage)

-- the settings of the words or the reason why there are no settings, if there are words
abbrev pub IsAsked : {W : Type 0} → (W → List (List ℕ)) → Result W ErrorKind → Result SettingsValue ArgFault → Type 0
IsAsked texts words asked = MatchResult words (λ w. MatchResult asked (AreSettingsOf (texts w)) (IsArgFaultOf (texts w))) (λ kind. IsUnread kind asked)

-- a line is written for a fault, and no line for an answer
abbrev pub SaysFault : Result (Unit {0}) Fault → LineDevice → LineDevice → Type 0
SaysFault (Ok _) old new = new ≡ old
SaysFault (Err fault) old new = SaysLine (fault_line fault) old new

-- 0 for an answer, else the status of the fault
abbrev pub outcome_status : Result (Unit {0}) Fault → ℕ
outcome_status (Ok _) = 0
outcome_status (Err fault) = status_of fault

-- the words have settings or a fault, the devices have its outcome, and the status and the line of errors are those of the outcome
pub record IsRun {W : Type 0} (texts : W → List (List ℕ)) (words : Result W ErrorKind) (old new : Devices) (before after : LineDevice) (status : ℕ)
    : Type 0 where
  pub asked : Result SettingsValue ArgFault
  pub outcome : Result (Unit {0}) Fault
  pub asks : IsAsked texts words asked
  pub done : IsOutcome asked old new outcome
  pub ends : status ≡ outcome_status outcome
  pub says : SaysFault outcome before after
