use Rattle.qh_read.proofs.faces.list.take_list.Goals as goal
use Rattle.std.{proofs.Common.◌≡◌, proofs.Common.◌∙◌, proofs.Common.drop, proofs.Common.rules, specs.Prelude.Some}
use Rattle.qh_read.{proofs.ListLaws.behind-fault, specs.contract.FaceFaults.faces_fault, specs.contract.FaceFaults.list_fault, specs.steps.Lists.behind}

pub returns-in_err-count-clause-fault : goal.returns-in_err-count-clause-fault
returns-in_err-count-clause-fault c =
    let layout = c.args.reading.layout in
    let fault : list_fault layout (behind c.args.skipped c.args.words.now) ≡ Some c.in_err-count.field-0.0 =
    behind-fault (λ n line rest. faces_fault layout n rest) c.args.skipped c.args.words.now
    ∙ c.in_err-count.ensures.fault (λ n line rest. faces_fault layout n (drop c.args.skipped rest)) in
    search (rules, fault)
