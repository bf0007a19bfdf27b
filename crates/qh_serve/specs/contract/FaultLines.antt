-- The line on standard error for a fault, without the line end, and the exit status.
use Rattle.std.specs.Prelude.{ℕ, List, ◌++◌, codes, decimal}
use Rattle.qh_model.specs.declared.read_fault.ReadFault.TheVariants as read
use Rattle.qh_serve.specs.declared.fault.Fault.{Fault, TheVariants.Read, TheVariants.Send, TheVariants.Usage}

abbrev pub fault_line : Fault → List ℕ
fault_line (Read read.NoHeader) = codes "qconvex: 1: NoHeader"
fault_line (Read (read.BadNumber line)) = codes "qconvex: 2: BadNumber at line " ++ decimal line
fault_line (Read read.NotThree) = codes "qconvex: 3: NotThree"
fault_line (Read read.Count) = codes "qconvex: 4: Count"
fault_line (Read (read.Range line)) = codes "qconvex: 5: Range at line " ++ decimal line
fault_line (Read (read.Long line)) = codes "qconvex: 6: Long at line " ++ decimal line
fault_line (Read read.Short) = codes "qconvex: 7: Short"
fault_line (Read read.Memory) = codes "qconvex: 8: Memory"
fault_line (Read read.Device) = codes "qconvex: 9: Device"
fault_line (Read read.Big) = codes "qconvex: 10: Big"
fault_line (Read read.NotOff) = codes "qconvex: 14: NotOff"
fault_line Send = codes "qconvex: 11: Send"
fault_line Usage = codes "qconvex: 12: Usage"

abbrev pub status_of : Fault → ℕ
status_of (Read read.NoHeader) = 1
status_of (Read (read.BadNumber line)) = 1
status_of (Read read.NotThree) = 1
status_of (Read read.Count) = 1
status_of (Read (read.Range line)) = 1
status_of (Read (read.Long line)) = 1
status_of (Read read.Short) = 1
status_of (Read read.Memory) = 3
status_of (Read read.Device) = 4
status_of (Read read.Big) = 1
status_of (Read read.NotOff) = 1
status_of Send = 4
status_of Usage = 2
