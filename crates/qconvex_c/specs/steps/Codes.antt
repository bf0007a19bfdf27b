-- The return codes of a call without a hull.
use Rattle.{std.specs.Prelude.ℕ, qconvex_c.specs.declared.fault.Fault.Fault}
use Rattle.qconvex_c.specs.contract.Codes.{QCONVEX_NO_POINT, QCONVEX_TOO_MANY, QCONVEX_RANGE, QCONVEX_MEMORY, QCONVEX_ROOM}
use Rattle.qconvex_c.specs.declared.fault.Fault.TheVariants.{NoPoint, TooMany, Range, Memory, Room}

-- the code of a fault
abbrev pub code_of : Fault → ℕ
code_of NoPoint = QCONVEX_NO_POINT
code_of TooMany = QCONVEX_TOO_MANY
code_of Range = QCONVEX_RANGE
code_of Memory = QCONVEX_MEMORY
code_of Room = QCONVEX_ROOM
