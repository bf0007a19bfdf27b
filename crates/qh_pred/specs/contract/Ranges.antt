-- Ranges of numbers, each from the least to the greatest. This project's own.
use Rattle.std.specs.Prelude.{◌≡◌, ℤ, pos, ◌≤ℤ◌, ◌<ℤ◌}

-- a number in a range
abbrev pub IsBetween : ℤ → ℤ → ℤ → Type 0
IsBetween low n high = (low ≤ℤ n) × (n ≤ℤ high)

-- e is the end of a range at which a product with a is greatest
abbrev pub IsFarEnd : ℤ → ℤ → ℤ → ℤ → Type 0
IsFarEnd a low high e = (pos 0 <ℤ a → e ≡ high) × (a ≤ℤ pos 0 → e ≡ low)
