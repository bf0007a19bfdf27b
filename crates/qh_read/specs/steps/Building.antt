-- The state of a builder for the file so far.
use Rattle.std.specs.Prelude.{ℕ, ℤ, ◌≡◌, ◌+◌, ◌*◌, List, ◌++◌, zero, suc, Option, None, Some, vec_len}
use Rattle.qh_model.specs.declared.read_fault.ReadFault.{ReadFault, TheVariants.NoHeader, TheVariants.Short}
use Rattle.qh_model.specs.headline.{PointFile.coordinates, Vector.Vector}
use Rattle.qh_read.specs.{contract.Progress.Progress, contract.Progress.wants, contract.Progress.fails, declared.builder.Builder.Builder}
use Rattle.qh_read.specs.{declared.builder.Pending.Pending, steps.Stages.stage_shown, steps.Stages.pending_list, steps.Stages.pending_count}

-- all coordinates so far
abbrev pub taken : Builder → List ℤ
taken b = coordinates b.points.items ++ pending_list b.pending

-- the number of coordinates so far
abbrev pub taken_count : Builder → ℕ
taken_count b = 3 * vec_len b.points + pending_count b.pending

abbrev pub shown : Builder → Progress
shown b = stage_shown b.stage (taken b)

-- the fault of a file that ends here
abbrev pub lack : Progress → Option ReadFault
lack (wants trailing zero taken) = None
lack (wants trailing (suc left) taken) = Some Short
lack (fails f) = Some f
lack header = Some NoHeader

-- the coordinates, if all expected ones are present
abbrev pub filled_in : Progress → Option (List ℤ)
filled_in (wants trailing zero taken) = Some taken
filled_in p = None

-- the points are all expected ones
abbrev pub AreAll : Progress → List Vector → Type 0
AreAll p ps = (q : Pending) × (filled_in p ≡ Some (coordinates ps ++ pending_list q))
