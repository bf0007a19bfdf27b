-- Laws of files: in each form, each byte string has exactly one list of points or exactly one first fault.
use Rattle.std.specs.Prelude.{ℕ, ◌≡◌, ◌⊎◌, List, None}
use Rattle.qh_model.specs.{declared.form.Form.Form, declared.read_fault.ReadFault.ReadFault, headline.Vector.Vector}
use Rattle.qh_model.specs.headline.Forms.{ReadsIn, first_fault_in, IsFirstFault}

-- a byte string is the file of at most one list of points
abbrev pub ReadsOneList : Type 0
ReadsOneList = (form : Form) (bytes : List ℕ) (ps qs : List Vector) → ReadsIn form bytes ps → ReadsIn form bytes qs → ps ≡ qs

-- a byte string is the file of some points, or it has a first fault
abbrev pub HasListOrFault : Type 0
HasListOrFault = (form : Form) (bytes : List ℕ) →
    ((ps : List Vector) × ReadsIn form bytes ps × (first_fault_in form bytes ≡ None)) ⊎ ((f : ReadFault) × IsFirstFault form bytes f)

-- the file of some points has no fault
abbrev pub IsNeverBoth : Type 0
IsNeverBoth = (form : Form) (bytes : List ℕ) (ps : List Vector) → ReadsIn form bytes ps → first_fault_in form bytes ≡ None
