-- The ranges of settings.
use Rattle.std.specs.Prelude.{ℕ, ◌≤◌}
use Rattle.qh_model.specs.declared.limits.TheConstants.{WORKER_LIMIT}
use Rattle.qh_command.specs.declared.settings.TheConstants.{BLOCK_SIZE_LIMIT}

-- from 1 to the limit
abbrev pub IsWorkers : ℕ → Type 0
IsWorkers n = (1 ≤ n) × (n ≤ WORKER_LIMIT)

abbrev pub IsBlockSize : ℕ → Type 0
IsBlockSize n = (1 ≤ n) × (n ≤ BLOCK_SIZE_LIMIT)

abbrev pub IsInRange : ℕ → ℕ → Type 0
IsInRange workers block = IsWorkers workers × IsBlockSize block
