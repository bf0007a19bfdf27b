-- Steps because of which polygons do not close up.
-- This project's own.
use Rattle.std.specs.Prelude.{ℕ, ◌≡◌, List}
use Rattle.qh_model.specs.contract.ClosedPolygons.{step_count}

-- the step from u to v and the step back are not taken equally often
abbrev pub IsOpen : List (List ℕ) → ℕ → ℕ → Type 0
IsOpen qs u v = ¬ (step_count qs u v ≡ step_count qs v u)
