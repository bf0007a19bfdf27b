-- The current number represents no id.
use Rattle.qh_model.proofs.{Common.◌≡◌, Common.◌∙◌, Common.get_or, Common.subst, Common.sym, Common.get_or_default, Common.In, Members.In-get_or}
use Rattle.qh_check.proofs.naming.Named.renamed.Goals as goal

pub returns-in-None : goal.returns-in-None
returns-in-None c =
    let numbers = c.ids-number-items.result.now in let k = c.loop-number.number-index in let own = c.number-item.result in
    let here : own ≡ get_or numbers k 0 = c.number-item.is ∙ get_or_default numbers k own 0 c.loop-number-test.true in
    let has : In own numbers = subst (λ x. In x numbers) (sym here) (In-get_or numbers k 0 c.loop-number-test.true) in
    (own, subst (λ xs. In own xs) c.ids-number-items.ensures has, c.in-None.ensures)
