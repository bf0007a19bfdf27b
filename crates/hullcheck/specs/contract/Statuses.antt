-- The exit statuses of the program. This project's own.
use Rattle.std.specs.Prelude.{ℕ}
use Rattle.qh_model.specs.declared.read_fault.ReadFault.{ReadFault}
use Rattle.qh_model.specs.declared.read_fault.ReadFault.TheVariants as read
use Rattle.qh_check.specs.declared.verdict.SurfaceVerdict.TheVariants.{Right, OtherPolygons, NoPiece, Open, Twice}
use Rattle.qh_check.specs.declared.judgement.Judgement.{Judgement, TheVariants.Told, TheVariants.Stranger}
use Rattle.hullcheck.specs.declared.answer.Answer.{Answer, TheVariants.Help}
use Rattle.hullcheck.specs.declared.answer.Answer.TheVariants as answer
use Rattle.hullcheck.specs.declared.fault.Fault.{Fault}
use Rattle.hullcheck.specs.declared.fault.Fault.TheVariants.{Usage, Memory, Output, Points, Faces}

-- the faces are the hull, or the help text was written
abbrev pub all_right : ℕ
all_right = 0

-- the faces are not the hull
abbrev pub not_right : ℕ
not_right = 1

-- the command line is invalid
abbrev pub no_command : ℕ
no_command = 2

-- an allocation failed
abbrev pub no_memory : ℕ
no_memory = 3

-- a file or a stream failed
abbrev pub no_device : ℕ
no_device = 4

-- a file has an invalid text
abbrev pub no_such_text : ℕ
no_such_text = 5

-- the status of a judgement
abbrev pub judgement_status : Judgement → ℕ
judgement_status (Told Right) = all_right
judgement_status (Told OtherPolygons) = not_right
judgement_status (Told (NoPiece n fault)) = not_right
judgement_status (Told (Open u v)) = not_right
judgement_status (Told (Twice u v)) = not_right
judgement_status (Stranger n) = not_right

-- the status of an answer
abbrev pub answer_status : Answer → ℕ
answer_status Help = all_right
answer_status (answer.Told j) = judgement_status j

-- the status for a file that could not be read
abbrev pub read_fault_status : ReadFault → ℕ
read_fault_status read.NoHeader = no_such_text
read_fault_status (read.BadNumber line) = no_such_text
read_fault_status read.NotThree = no_such_text
read_fault_status read.Count = no_such_text
read_fault_status (read.Range line) = no_such_text
read_fault_status (read.Long line) = no_such_text
read_fault_status read.Short = no_such_text
read_fault_status read.Memory = no_memory
read_fault_status read.Device = no_device
read_fault_status read.Big = no_such_text
read_fault_status read.NotOff = no_such_text

-- the status for each fault that prevents a verdict
abbrev pub fault_status : Fault → ℕ
fault_status Usage = no_command
fault_status Memory = no_memory
fault_status Output = no_device
fault_status (Points f) = read_fault_status f
fault_status (Faces f) = read_fault_status f
