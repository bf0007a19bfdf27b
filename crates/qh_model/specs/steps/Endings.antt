-- The number of passes that have ended.
use Rattle.std.specs.Prelude.{ℕ}
use Rattle.qh_model.specs.contract.BoardMachine.{Mark, none, left, gave_up}

-- 1 for a pass that has ended, otherwise 0
abbrev pub ended : Mark → ℕ
ended none = 0
ended left = 1
ended gave_up = 1
