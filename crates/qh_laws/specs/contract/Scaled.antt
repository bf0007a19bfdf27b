-- Points at a larger scale, at which the middle of some of them is a whole vector.
-- This project's own.
use Rattle.std.specs.Prelude.{ℕ, pos, ◌*ℤ◌}
use Rattle.qh_model.specs.headline.Vector.{Vector}

-- the points at m times the scale
abbrev pub at_scale : ℕ → (ℕ → Vector) → ℕ → Vector
at_scale m at i = record { x = pos m *ℤ (at i).x; y = pos m *ℤ (at i).y; z = pos m *ℤ (at i).z }
