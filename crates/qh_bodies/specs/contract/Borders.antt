-- Borders of polygons: the steps that they do not take as often as the steps back.
-- This project's own.
use Rattle.std.specs.Prelude.{ℕ, ◌≡◌, ◌+◌, List}
use Rattle.qh_model.specs.contract.ClosedPolygons.{step_count}

-- for each step, the count of the step minus that of the step back is the same for both lists
abbrev pub HaveOneBorder : List (List ℕ) → List (List ℕ) → Type 0
HaveOneBorder ps qs = (u v : ℕ) → step_count ps u v + step_count qs v u ≡ step_count ps v u + step_count qs u v
