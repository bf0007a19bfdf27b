-- Pieces of one size into which the points of a list are cut. Only private functions cite them.
use Rattle.std.specs.Prelude.{ℕ, ◌*◌, min, List, length}
use Rattle.qh_model.specs.headline.Vector.{Vector}

-- the end of a number of pieces of one size, limited to the number of points
abbrev pub end_of : List Vector → ℕ → ℕ → ℕ
end_of pts size pieces = min (pieces * size) (length pts)
