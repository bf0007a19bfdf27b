-- What the program writes on standard output. This project's own.
use Rattle.std.specs.Prelude.{ℕ, ◌≡◌, true, false, List, Option}
use Rattle.qh_check.specs.{contract.Texts.judgement_text}
use Rattle.hullcheck.specs.contract.{CommandLine.requests_help, Judging.IsToldBy}
use Rattle.hullcheck.specs.declared.answer.{Answer.Answer, Answer.TheVariants.Help, Answer.TheVariants.Told, TheConstants.HELP}

-- the text of an answer, without the line end
abbrev pub answer_text : Answer → List ℕ
answer_text Help = HELP.now
answer_text (Told j) = judgement_text j

-- the answer to words: the help text if they request it, else the judgement on the files that they name
abbrev pub IsAnswerTo : List (List ℕ) → (Option (List ℕ) → Option (List ℕ)) → Answer → Type 0
IsAnswerTo words contents Help = requests_help words ≡ true
IsAnswerTo words contents (Told j) = (requests_help words ≡ false) × IsToldBy words contents j
