-- The number that a word represents, of any length: an optional sign and one or more decimal digits.
use Rattle.std.specs.Prelude.{ℕ, ℤ, pos, neg_ℤ, Bool, true, List, [], ◌∷◌, ◌==◌, ◌&&◌, ◌+◌, ◌-◌, ◌*◌, if◌then◌else◌, Option, Some, None, option_map}
use Rattle.std.specs.Char.{is_ascii_digit}

-- the value of decimal digits that follow a number
abbrev pub read_digits : ℕ → List ℕ → ℕ
read_digits n [] = n
read_digits n (c ∷ cs) = read_digits (10 * n + (c - 48)) cs

abbrev pub are_digits : List ℕ → Bool
are_digits [] = true
are_digits (c ∷ cs) = is_ascii_digit c && are_digits cs

-- one or more digits
abbrev pub magnitude_of : List ℕ → Option ℕ
magnitude_of [] = None
magnitude_of (c ∷ cs) = if are_digits (c ∷ cs) then Some (read_digits 0 (c ∷ cs)) else None

-- an optional sign and one or more digits
abbrev pub number_of : List ℕ → Option ℤ
number_of [] = None
number_of (c ∷ cs) =
    if c == 43 then option_map pos (magnitude_of cs)
    else if c == 45 then option_map (λ n. neg_ℤ (pos n)) (magnitude_of cs)
    else option_map pos (magnitude_of (c ∷ cs))
