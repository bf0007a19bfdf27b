-- Positions on the way round a polygon.
use Rattle.std.specs.Prelude.{ℕ, ◌≡◌, ◌+◌, ◌++◌, ◌<◌, ◌≤◌, ◌⊎◌, List, drop, take}

-- the second position comes this number of steps plus one after the first, past the end or not
abbrev pub IsBehind : ℕ → ℕ → ℕ → ℕ → Type 0
IsBehind from to count steps = ((from < to) × (from + 1 + steps ≡ to)) ⊎ ((to ≤ from) × (from + 1 + steps ≡ to + count))

-- the corners after a position, and then those before it
abbrev pub way_behind : List ℕ → ℕ → List ℕ
way_behind face from = drop (from + 1) face ++ take from face
