-- The text that is written for a fault, without the line end. This project's own.
use Rattle.std.specs.Prelude.{ℕ, List, ◌++◌, codes, decimal}
use Rattle.qh_model.specs.declared.read_fault.ReadFault.{ReadFault}
use Rattle.qh_model.specs.declared.read_fault.ReadFault.TheVariants as read
use Rattle.hullcheck.specs.declared.fault.Fault.{Fault}
use Rattle.hullcheck.specs.declared.fault.Fault.TheVariants.{Usage, Memory, Output, Points, Faces}

-- the text for a fault of a file
abbrev pub read_fault_text : ReadFault → List ℕ
read_fault_text read.NoHeader = codes "NoHeader"
read_fault_text (read.BadNumber line) = codes "BadNumber at line " ++ decimal line
read_fault_text read.NotThree = codes "NotThree"
read_fault_text read.Count = codes "Count"
read_fault_text (read.Range line) = codes "Range at line " ++ decimal line
read_fault_text (read.Long line) = codes "Long at line " ++ decimal line
read_fault_text read.Short = codes "Short"
read_fault_text read.Memory = codes "out of memory"
read_fault_text read.Device = codes "the file could not be read"
read_fault_text read.Big = codes "Big"
read_fault_text read.NotOff = codes "NotOff"

-- the text for any fault
abbrev pub fault_text : Fault → List ℕ
fault_text Usage = codes "usage: hullcheck [--workers N] [--indices | --counted] [--clockwise] POINTS [FACES]"
fault_text Memory = codes "hullcheck: out of memory"
fault_text Output = codes "hullcheck: the judgement could not be written"
fault_text (Points fault) = codes "hullcheck: the points: " ++ read_fault_text fault
fault_text (Faces fault) = codes "hullcheck: the faces: " ++ read_fault_text fault
