-- The corner across a side.
use Rattle.std.specs.Prelude.{ℕ}
use Rattle.qh_model.specs.contract.Surface.{Side, Surface, rest}

-- the third id of the neighbour
abbrev pub far : Surface → ℕ → Side → ℕ
far m f s = rest m (m.over f s) (m.back f s)
