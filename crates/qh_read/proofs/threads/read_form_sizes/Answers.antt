use Rattle.std.proofs.{Common.◌≡◌, Common.◌∙◌, Common.ap, Common.Ok, lemmas.Result.err_from_is_err_and}
use Rattle.qh_read.specs.{contract.Holding.Fed, headline.SourceBytes.GivesAll}
use Rattle.qh_read.proofs.SourceLemmas.{AnswersSource-fed, AnswersSource-stopped, FedOn-append, Gives-all, Stops-after}
use Rattle.qh_read.proofs.threads.read_form_sizes.{Given.Over, Goals.then-not-branch+in_ok-feed_batches, Goals.else-not-branch}
use Rattle.qh_read.proofs.threads.read_form_sizes.Goals as goal

-- the batches were read after the start
pub returns-in_err-feed_batches : goal.returns-in_err-feed_batches
returns-in_err-feed_batches g c =
    let p = err_from_is_err_and c.from_residual-in_err-feed_batches.result c.from_residual-in_err-feed_batches.ensures.1 in
    let start = c.in_ok-feed_from.ensures.fed in
    rw (p.1, p.2) (AnswersSource-stopped c.args.form _ _ _ _ _ _ c.of_form-reader.ensures.count
    (Stops-after _ _ _ _ _ _ _ _ start.given _ start.took c.in_ok-feed_from.ensures.steady start.count c.in_err-feed_batches.ensures.stops))

-- all was fed, at the start or in batches
all_fed : (g : Over) (c : goal.After-finish g) → GivesAll (g.S.Source.remaining c.args.source.now)
    (g.S.Source.remaining c.if-not-branch.source) (Fed c.args.form c.if-not-branch.reader)
all_fed g c =
    let start = c.in_ok-feed_from.ensures in elim c.if-not-branch.branch [
      | then-not-branch+in_ok-feed_batches w ↦ let more = w.in_ok-feed_batches.ensures in rw (w.source-is, w.reader-is)
          (more.end, Gives-all c.args.form _ _ _ _ c.of_form-reader.ensures (FedOn-append _ _ _ _ _ _ start.fed more.fed))
      | else-not-branch w ↦ rw (w.source-is, w.reader-is)
          (start.end (ap Ok w.if-not-branch.false), Gives-all c.args.form _ _ _ _ c.of_form-reader.ensures start.fed)
    ]

steady : (g : Over) (c : goal.After-finish g) → g.S.Source.failure_count c.if-not-branch.source ≡ g.S.Source.failure_count c.args.source.now
steady g c = elim c.if-not-branch.branch [
  | then-not-branch+in_ok-feed_batches w ↦ rw w.source-is (w.in_ok-feed_batches.ensures.steady ∙ c.in_ok-feed_from.ensures.steady)
  | else-not-branch w ↦ rw w.source-is c.in_ok-feed_from.ensures.steady
]

pub returns : goal.returns
returns g c =
    AnswersSource-fed c.args.form _ _ _ _ _ c.finish.result (all_fed g c) (steady g c)
    c.finish.ensures.read c.finish.ensures.fault c.finish.ensures.text
