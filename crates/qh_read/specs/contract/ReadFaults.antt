-- The faults that a call may return.
use Rattle.std.specs.Prelude.{ℕ, ◌≡◌, ◌≢◌, ◌⊎◌, List}
use Rattle.qh_model.specs.declared.{form.Form.Form, read_fault.ReadFault.ReadFault, read_fault.ReadFault.TheVariants.Memory}
use Rattle.qh_model.specs.{declared.read_fault.ReadFault.TheVariants.Device, declared.read_fault.ReadFault.TheVariants.Big, headline.Forms.IsFirstFault}
use Rattle.qh_read.specs.declared.fault.FeedFault.{FeedFault}
use Rattle.qh_read.specs.declared.fault.FeedFault.TheVariants as refusals

-- a fault of the text alone
abbrev pub IsTextFault : ReadFault → Type 0
IsTextFault f = (f ≢ Memory) × (f ≢ Device) × (f ≢ Big)

-- an allocation failed, or this is the first fault of the bytes in this form
abbrev pub IsFaultOf : Form → List ℕ → ReadFault → Type 0
IsFaultOf form bytes f = (f ≡ Memory) ⊎ IsFirstFault form bytes f

-- the refusal of a piece, as a fault of reading
abbrev pub read_fault : FeedFault → ReadFault
read_fault refusals.Big = Big
read_fault refusals.Memory = Memory
