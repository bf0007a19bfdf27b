use Rattle.qh_model.proofs.Common.{◌≡◌, arith, refl, ap, Bool, true, false, Ok, IsAtEnd}
use Rattle.qh_read.proofs.whole.read_form_from.Goals as goal
use Rattle.qh_read.proofs.SourceLemmas.{AnswersSource-fed, Gives-all}

-- one of two cases, the other of which is impossible
one_of : {X : Type 0} (b : Bool) → (b ≡ true → X) → (b ≡ false → ⊥) → X
one_of true f h = f refl
one_of false f h = absurd (h refl)

-- the reader never has more bytes than the limit, so the end was reached, and all bytes read from the source were fed
pub returns : goal.returns
returns g c =
    let ok = c.in_ok-feed_from in
    let end : IsAtEnd (g.S.Source.remaining c.feed_from.new.source) = one_of ok.field-0 (λ e. ok.ensures.end (ap Ok e))
    (λ e. omega (arith, ok.ensures.enough (ap Ok e), c.feed_from.ensures.fits)) in
    AnswersSource-fed c.args.form _ _ _ _ _ c.finish.result (end, Gives-all c.args.form _ _ _ _ c.of_form-reader.ensures ok.ensures.fed)
    ok.ensures.steady c.finish.ensures.read c.finish.ensures.fault c.finish.ensures.text
