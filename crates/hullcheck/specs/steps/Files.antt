-- Why a file could not be opened or read.
use Rattle.std.specs.Prelude.{◌≡◌, ◌⊎◌}
use Rattle.hullcheck.specs.declared.fault.Fault.{Fault, TheVariants.Memory}

-- out of memory; or the fault of the file, and a call for it failed
abbrev pub IsUnread : Fault → Type 0 → Fault → Type 0
IsUnread fault Failed f = (f ≡ Memory) ⊎ ((f ≡ fault) × Failed)
