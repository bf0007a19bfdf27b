-- The points of a byte string that is read as a point file.
-- Source: Qhull manual, "Qhull input: point coordinates": a dimension, a number of points, the coordinates.
-- This project's profile: the two numbers of the header may have either order.
use Rattle.std.specs.Prelude.{ℕ, ℤ, pos, List, [], ◌∷◌, ◌≡◌, ◌≢◌, ◌≤◌, ◌⊎◌, map, length, Some}
use Rattle.std.specs.List.{AllByRecursion}
use Rattle.qh_model.specs.{declared.limits.TheConstants.POINT_LIMIT, declared.limits.TheConstants.BYTE_LIMIT, headline.Vector.Vector}
use Rattle.qh_model.specs.headline.{Limits.IsCoordinate, Words.data_words, Numbers.number_of}

-- x, y and z of each point in turn
abbrev pub coordinates : List Vector → List ℤ
coordinates [] = []
coordinates (p ∷ ps) = p.x ∷ p.y ∷ p.z ∷ coordinates ps

-- the header has dimension 3 and this count, in either order; a first number 3 is the dimension
abbrev pub IsHeader : ℤ → ℤ → ℕ → Type 0
IsHeader first second count =
    ((first ≡ pos 3) × (second ≡ pos count)) ⊎ ((first ≢ pos 3) × (second ≡ pos 3) × (first ≡ pos count))

-- the bytes are a file of these points
pub record Reads (bytes : List ℕ) (points : List Vector) : Type 0 where
  pub small : length bytes ≤ BYTE_LIMIT
  pub first : ℤ
  pub second : ℤ
  pub numbers : map (λ w. number_of w.text) (data_words bytes) ≡ map Some (first ∷ second ∷ coordinates points)
  pub header : IsHeader first second (length points)
  pub some : 1 ≤ length points
  pub few : length points ≤ POINT_LIMIT
  pub limit : AllByRecursion IsCoordinate (coordinates points)
