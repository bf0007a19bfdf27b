-- The return codes, as numbers for C: those of `c/qconvex.h`.
use Rattle.std.specs.Prelude.{ℕ}

-- the buffers hold the answer
abbrev pub QCONVEX_DONE : ℕ
QCONVEX_DONE = 0

-- there is no point
abbrev pub QCONVEX_NO_POINT : ℕ
QCONVEX_NO_POINT = 1

-- there are more than `POINT_LIMIT` points
abbrev pub QCONVEX_TOO_MANY : ℕ
QCONVEX_TOO_MANY = 2

-- a coordinate is out of range
abbrev pub QCONVEX_RANGE : ℕ
QCONVEX_RANGE = 3

-- an allocation failed
abbrev pub QCONVEX_MEMORY : ℕ
QCONVEX_MEMORY = 4

-- a buffer is too short
abbrev pub QCONVEX_ROOM : ℕ
QCONVEX_ROOM = 5

-- for many sets: there is no start, the starts do not rise, or one is beyond the points
abbrev pub QCONVEX_STARTS : ℕ
QCONVEX_STARTS = 6

-- for neighbours: no triangle has the reversed side
abbrev pub QCONVEX_NONE : ℕ
QCONVEX_NONE = 4294967295

-- ---- kinds of verdicts
-- the faces are the surface of the hull
abbrev pub QCONVEX_RIGHT : ℕ
QCONVEX_RIGHT = 0

-- a corner of a face is not the index of a point
abbrev pub QCONVEX_STRANGER : ℕ
QCONVEX_STRANGER = 1

-- the first three corners of a face do not span a plane
abbrev pub QCONVEX_NO_PLANE : ℕ
QCONVEX_NO_PLANE = 2

-- a point lies above the plane of a face
abbrev pub QCONVEX_ABOVE : ℕ
QCONVEX_ABOVE = 3

-- the plane of a face supports the points, but its polygon differs from the face
abbrev pub QCONVEX_OTHER_FACE : ℕ
QCONVEX_OTHER_FACE = 4

-- more faces run along an edge in one direction than in the other
abbrev pub QCONVEX_OPEN : ℕ
QCONVEX_OPEN = 5

-- faces run along an edge in one direction more than once
abbrev pub QCONVEX_TWICE : ℕ
QCONVEX_TWICE = 6

-- there is no face, or the points lie in one plane and have a different polygon
abbrev pub QCONVEX_OTHERS : ℕ
QCONVEX_OTHERS = 7
