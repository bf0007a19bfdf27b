-- The range of coordinates. The limits themselves are constants of the program.
use Rattle.std.specs.Prelude.{ℤ, Bool, ◌≤◌, nat_le, unsigned_abs}
use Rattle.qh_model.specs.declared.limits.TheConstants.{COORDINATE_LIMIT}

-- from -COORDINATE_LIMIT to COORDINATE_LIMIT
abbrev pub IsCoordinate : ℤ → Type 0
IsCoordinate z = unsigned_abs z ≤ COORDINATE_LIMIT

-- the same range, as a test
abbrev pub is_coordinate : ℤ → Bool
is_coordinate z = nat_le (unsigned_abs z) COORDINATE_LIMIT
