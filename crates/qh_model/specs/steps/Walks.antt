-- The rest of the walk along the sides of a polygon.
use Rattle.std.specs.Prelude.{ℕ, List, [], Option, None, Some}
use Rattle.qh_model.specs.contract.ClosedPolygons.{steps_along}

-- the sides from a corner along the next corners to the last end; no side after the walk has ended
abbrev pub sides_left : ℕ → List ℕ → Option ℕ → List (ℕ × ℕ)
sides_left from along (Some to) = steps_along from along to
sides_left from along None = []
