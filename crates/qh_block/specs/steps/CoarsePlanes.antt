-- How a plane with a normal of few bits is lowered below another plane. This project's own.
use Rattle.std.specs.Prelude.{◌≡◌, ℤ, pos, ◌+ℤ◌, ◌*ℤ◌, ◌≤ℤ◌}
use Rattle.qh_model.specs.{declared.limits.TheConstants.COORDINATE_LIMIT, headline.Vector.Vector}

-- the rest of a number after a number of steps, not below 0
abbrev pub IsRest : ℤ → ℤ → ℤ → ℤ → Type 0
IsRest number steps step rest = (number ≡ steps *ℤ step +ℤ rest) × (pos 0 ≤ℤ rest)

-- the rests of the three components of a normal
pub record AreRests (normal tip : Vector) (step : ℤ) (rests : Vector) : Type 0 where
  pub x : IsRest normal.x tip.x step rests.x
  pub y : IsRest normal.y tip.y step rests.y
  pub z : IsRest normal.z tip.z step rests.z

-- the room for the rests: no scalar product of the rests and a point is greater
abbrev pub IsRoomFor : Vector → Vector → ℤ → ℤ → Type 0
IsRoomFor normal tip step room = (rests : Vector) × AreRests normal tip step rests
    × (room ≡ (rests.x +ℤ rests.y +ℤ rests.z) *ℤ pos COORDINATE_LIMIT)

-- a number of steps leaves room below an offset
abbrev pub IsLowered : ℤ → ℤ → ℤ → ℤ → Type 0
IsLowered offset room step steps = (steps *ℤ step +ℤ room) ≤ℤ offset
