-- One more corner was taken, and the fault of the remaining words is that of the rest.
use Rattle.qh_read.proofs.faces.corners.take_corners.Goals as goal
use Rattle.std.proofs.Common.{ℕ, ◌≡◌, ◌∙◌, ◌++◌, ◌+◌, ◌-◌, [], ◌∷◌, List, arith, ap, inr, rules, subst, sym}
use Rattle.std.{proofs.lemmas.Grind.common_steps, specs.Prelude.Some}
use Rattle.qh_read.{proofs.WordLaws.corners-next, proofs.WordLaws.taken-more, specs.contract.FaceFaults.corners_fault}
use Rattle.qh_read.specs.{contract.FaceFaults.number_fault, declared.numerals.Numeral.Numeral, steps.Corners.AreTaken, steps.Corners.IsFaultFor}

pub returns-in_err-number-clause-fault : goal.returns-in_err-number-clause-fault
returns-in_err-number-clause-fault c =
    let fault : IsFaultFor (λ after. corners_fault after c.args.count c.args.line c.args.words.now) c.in_err-number.field-0.0 =
    inr (λ after. c.corners.invariant.passes after ∙ corners-next after c.args.count c.corners.counter c.corners.last c.corners.words (omega arith)
    ∙ c.in_err-number.ensures.fault (λ corner next rest. corners_fault after (c.args.count - (c.corners.counter + 1)) next rest)) in
    search (rules, fault)

pub corners-preserved : goal.corners-preserved
corners-preserved c =
    let v = c.in_ok-number.number.value in let at = c.in_ok-number.number.line in let left = c.next_number.new.words in
    let w : Numeral = record { number = Some v; line = at } in
    let took : c.corners.words ≡ w ∷ left = c.in_ok-number.ensures.ok in
    let pushed : c.push.new.self.items ≡ c.corners.ids.items ++ v ∷ [] = grind (arith, common_steps) in
    let before : AreTaken c.args.line c.args.words.now c.corners.ids.items c.corners.last (w ∷ left) =
    subst (λ (ws : List Numeral). AreTaken c.args.line c.args.words.now c.corners.ids.items c.corners.last ws) took c.corners.invariant.taken in record {
      taken = subst (λ (ids : List ℕ). AreTaken c.args.line c.args.words.now ids at left) (sym pushed)
          (taken-more c.args.line c.args.words.now c.corners.ids.items c.corners.last v at left before);
      count = rw pushed (grind (arith, common_steps));
      passes = λ after. c.corners.invariant.passes after ∙ corners-next after c.args.count c.corners.counter c.corners.last c.corners.words (omega arith)
          ∙ ap (number_fault (λ corner next rest. corners_fault after (c.args.count - (c.corners.counter + 1)) next rest)) took;
    }

pub returns-clause-passes : goal.returns-clause-passes
returns-clause-passes c = λ after.
    let none : c.args.count - c.corners.counter ≡ 0 = omega (arith, c.corners-test.false) in
    c.corners.invariant.passes after ∙ ap (λ (n : ℕ). corners_fault after n c.corners.last c.corners.words) none
