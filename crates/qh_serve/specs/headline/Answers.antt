-- The right answer to an input.
use Rattle.std.specs.Prelude.{ℕ, ◌≡◌, ◌⊎◌, List}
use Rattle.qh_model.specs.{declared.form.Form.Form, declared.out.Out.Out, headline.Vector.Vector, headline.Forms.ReadsIn, headline.Forms.IsFirstFault}
use Rattle.qh_model.specs.headline.Text.{IsText}
use Rattle.qh_model.specs.declared.read_fault.ReadFault.TheVariants as reads
use Rattle.qh_serve.specs.declared.fault.Fault.{Fault}
use Rattle.qh_serve.specs.declared.fault.Fault.TheVariants as faults

-- the bytes, read in this form, are points with this property
pub record ReadsAs (form : Form) (bytes : List ℕ) (P : List Vector → Type 0) : Type 0 where
  pub pts : List Vector
  pub reads : ReadsIn form bytes pts
  pub holds : P pts

-- the only text of the points that are read from the bytes
abbrev pub IsAnswer : Form → List ℕ → List Out → List ℕ → Type 0
IsAnswer form input outs text = ReadsAs form input (λ pts. IsText pts outs text)

-- an allocation failed, or the fault is the first of the bytes
abbrev pub IsAnswerFault : Form → List ℕ → Fault → Type 0
IsAnswerFault form input (faults.Read f) = (f ≡ reads.Memory) ⊎ IsFirstFault form input f
IsAnswerFault form input faults.Send = ⊥
IsAnswerFault form input faults.Usage = ⊥
