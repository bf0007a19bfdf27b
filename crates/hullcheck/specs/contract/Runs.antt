-- The effect of one run of the program on its devices, given the words and the files. This project's own.
use Rattle.std.specs.Prelude.{ℕ, ◌≡◌, ◌≢◌, false, List, Option, Result, Ok, Err, MatchResult}
use Rattle.std.specs.declared.io.ErrorKind.{ErrorKind, TheVariants.OutOfMemory}
use Rattle.qh_write.specs.contract.LineDevices.{IsCounted, LineDevice, SaysLine, SendsLine}
use Rattle.qh_write.specs.declared.sink.SinkFault.{SinkFault}
use Rattle.hullcheck.specs.contract.{Answering.IsAnswerTo, Answering.answer_text, Checking.IsJudgeFault, CommandLine.requests_help}
use Rattle.hullcheck.specs.contract.{FaultTexts.fault_text, Statuses.answer_status, Statuses.fault_status}
use Rattle.hullcheck.specs.declared.answer.Answer.{Answer}
use Rattle.hullcheck.specs.declared.fault.Fault.{Fault, TheVariants.Memory, TheVariants.Output, TheVariants.Usage}

-- there are no words: out of memory, or a word is not UTF-8
abbrev pub IsUnread : ErrorKind → Result Answer Fault → Type 0
IsUnread kind answered = (kind ≡ OutOfMemory → answered ≡ Err Memory) × (kind ≢ OutOfMemory → answered ≡ Err Usage)

-- the answer to the words, or the fault that prevents it, if there are words
abbrev pub IsAnswered : {W : Type 0} → (W → List (List ℕ)) → Result W ErrorKind → (Option (List ℕ) → Option (List ℕ)) → (Option (List ℕ) → Type 0)
    → Result Answer Fault → Type 0
IsAnswered texts words contents Failed answered = MatchResult words
    (λ w. MatchResult answered (IsAnswerTo (texts w) contents)
    (λ f. (requests_help (texts w) ≡ false) × IsJudgeFault (texts w) contents Failed f)) (λ kind. IsUnread kind answered)

-- the run ends with the line and the status of a fault
abbrev pub IsRefusal : Fault → LineDevice → LineDevice → ℕ → Type 0
IsRefusal fault old new status = SaysLine (fault_text fault) old new × (status ≡ fault_status fault)

-- the run ends with the text and the status of the answer, or with those of a fault
abbrev pub IsEnd : Result Answer Fault → LineDevice → LineDevice → LineDevice → LineDevice → ℕ → Type 0
IsEnd (Ok answer) old new before after status = (said : Result (Unit {0}) SinkFault)
    × SendsLine old.went new.went (answer_text answer) said × IsCounted said old.failures new.failures
    × MatchResult said (λ _. (status ≡ answer_status answer) × (after ≡ before)) (λ _. IsRefusal Output before after status)
IsEnd (Err fault) old new before after status = (new ≡ old) × IsRefusal fault before after status

-- the answer, and the end of the run: the text on the output and on the errors, and the status
pub record IsRun (IsAnsweredSo : Result Answer Fault → Type 0) (old new before after : LineDevice) (status : ℕ) : Type 0 where
  pub answered : Result Answer Fault
  pub so : IsAnsweredSo answered
  pub ends : IsEnd answered old new before after status
