-- One more face was taken, and the fault of the remaining words is that of the rest.
use Rattle.std.proofs.Common.{ℕ, ◌≡◌, ◌⊎◌, ◌∙◌, ◌++◌, ◌+◌, ◌-◌, [], ◌∷◌, List, arith, ap, inl, inr, rules, append_assoc}
use Rattle.std.{proofs.lemmas.Grind.common_steps, proofs.lemmas.List.append-nil, specs.Prelude.Some}
use Rattle.qh_read.{proofs.WordLaws.faces-next, specs.contract.FaceFaults.faces_fault, specs.contract.FaceWords.AreFaces}
use Rattle.qh_model.specs.declared.read_fault.ReadFault.TheVariants as faults
use Rattle.qh_read.proofs.faces.list.take_faces.Goals as goal

pub returns-in_err-face-clause-fault : goal.returns-in_err-face-clause-fault
returns-in_err-face-clause-fault c =
    let layout = c.args.reading.layout in let count = c.args.count in let k = c.faces.counter in
    let next = c.faces.invariant.passes ∙ faces-next layout count k c.faces.words (omega arith) in
    let fault : (c.in_err-face.field-0.0 ≡ faults.Memory) ⊎ (faces_fault layout count c.args.words.now ≡ Some c.in_err-face.field-0.0) =
    elim c.in_err-face.ensures.fault [ inl m ↦ inl m | inr f ↦ inr (next ∙ f (λ rest. faces_fault layout (count - (k + 1)) rest)) ] in
    search (rules, fault)

pub faces-preserved : goal.faces-preserved
faces-preserved c =
    let layout = c.args.reading.layout in let orientation = c.args.reading.orientation in let count = c.args.count in let k = c.faces.counter in
    let face = c.in_ok-face.face in let t = c.in_ok-face.ensures.ok in
    let pushed : c.push.new.self.items ≡ c.faces.faces.items ++ face ∷ [] = grind (arith, common_steps) in record {
      taken = λ more later.
          let one : AreFaces layout orientation c.faces.words (face ∷ more) = (t.0, c.take_face.new.words, t.1, t.2, later) in
          rw (ap (λ (fs : List (List ℕ)). fs ++ more) pushed ∙ append_assoc c.faces.faces.items (face ∷ []) more) (c.faces.invariant.taken (face ∷ more) one);
      count = rw pushed (grind (arith, common_steps));
      passes = c.faces.invariant.passes ∙ faces-next layout count k c.faces.words (omega arith)
          ∙ c.in_ok-face.ensures.passes (λ rest. faces_fault layout (count - (k + 1)) rest);
    }

pub returns-in_err-finish-clause-fault : goal.returns-in_err-finish-clause-fault
returns-in_err-finish-clause-fault c =
    let layout = c.args.reading.layout in
    let none : c.args.count - c.faces.counter ≡ 0 = omega (arith, c.faces-test.false) in
    let fault : faces_fault layout c.args.count c.args.words.now ≡ Some c.in_err-finish.field-0.0 =
    c.faces.invariant.passes ∙ ap (λ (n : ℕ). faces_fault layout n c.faces.words) none ∙ c.in_err-finish.ensures.fault layout in
    search (rules, fault)

pub returns-clause-ok : goal.returns-clause-ok
returns-clause-ok c = rw (append-nil c.faces.faces.items) at (c.faces.invariant.taken [] c.in_ok-finish.ensures.end)
