use Rattle.std.proofs.Common.{ℕ, List, ◌≡◌, ◌≤◌, ◌∙◌, arith, ap, sym, length}
use Rattle.{std.proofs.lemmas.Result.MatchResult-weaker, qh_model.specs.declared.form.Form.Form, qh_model.specs.declared.limits.TheConstants.BYTE_LIMIT}
use Rattle.qh_read.specs.contract.{Holding.Held, Holding.Reading, Holding.Fed, Holding.ended_held, Progress.started}
use Rattle.qh_read.specs.steps.Building.{shown, lack, filled_in}
use Rattle.qh_read.proofs.{FaultLaws.found, FormLaws.reads, HoldingLaws.progress-words, Lexing.words_in, ProgressLaws.judged}
use Rattle.qh_read.proofs.reader.Reader.finish.Goals as goal

-- the state of the builder is determined by the words of the bytes fed
told : (c : goal.After-finish) (form : Form) (bytes : List ℕ) → Fed form c.args.self bytes
    → shown c.end_word.new.self.builder ≡ judged (started form) (words_in form bytes)
told c form bytes fed =
    ap (λ (h : Held). h.progress) (c.end_word.ensures.held ∙ ap ended_held (ap (λ (r : Reading). r.held) c.self.view_is ∙ fed.held)) ∙ progress-words form bytes

small : (c : goal.After-finish) (form : Form) (bytes : List ℕ) → Fed form c.args.self bytes → length bytes ≤ BYTE_LIMIT
small c form bytes fed = let count : c.self.inside.count ≡ length bytes = ap (λ (r : Reading). r.count) c.self.view_is ∙ fed.count in
    omega (arith, c.self.invariant.fits)

pub returns-clause-read : goal.returns-clause-read
returns-clause-read c =
    MatchResult-weaker c.finish.result c.finish.ensures.all
    (λ points all form bytes fed. reads form bytes points.items all.0 (small c form bytes fed) (sym (ap filled_in (told c form bytes fed)) ∙ all.1)) (λ e h. h)

pub returns-clause-fault : goal.returns-clause-fault
returns-clause-fault c =
    MatchResult-weaker c.finish.result c.finish.ensures.lack (λ points h. h)
    (λ e h form bytes fed. found form bytes e (small c form bytes fed) (sym (ap lack (told c form bytes fed)) ∙ h))
