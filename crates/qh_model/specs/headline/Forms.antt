-- The meaning of a byte string in each form.
use Rattle.std.specs.Prelude.{ℕ, ◌≡◌, List, Option, Some}
use Rattle.qh_model.specs.declared.{form.Form.Form, form.Form.TheVariants.Qhull, form.Form.TheVariants.Off, read_fault.ReadFault.ReadFault}
use Rattle.qh_model.specs.headline.{Vector.Vector, PointFile.Reads, FileFault.first_fault, OffFile.ReadsOff, OffFault.first_off_fault}

-- the bytes are a file of these points
abbrev pub ReadsIn : Form → List ℕ → List Vector → Type 0
ReadsIn Qhull bytes points = Reads bytes points
ReadsIn Off bytes points = ReadsOff bytes points

-- the first fault of the bytes, if they are a file of no points
abbrev pub first_fault_in : Form → List ℕ → Option ReadFault
first_fault_in Qhull bytes = first_fault bytes
first_fault_in Off bytes = first_off_fault bytes

-- this is the first fault of the bytes
abbrev pub IsFirstFault : Form → List ℕ → ReadFault → Type 0
IsFirstFault form bytes f = first_fault_in form bytes ≡ Some f
