-- The distinct ids of the corners of faces. A corner is the index of a point of a list, and the distinct id is that of an equal point.
-- Source: Geomview OFF (a face is the list of the indices of its vertices, from 0).
use Rattle.std.specs.Prelude.{ℕ, ◌≡◌, ◌≢◌, ◌<◌, List, [], length, slice_index_or}
use Rattle.qh_model.specs.headline.{Vector.Vector, Predicates.place, Sets.In}

-- the id i is one of the set, and its point is at the place
abbrev pub IsAt : List Vector → List ℕ → Vector → ℕ → Type 0
IsAt pts ids p i = In i ids × (place pts i ≡ p)

-- no id of the set has its point at the place
abbrev pub IsNowhere : List Vector → List ℕ → Vector → Type 0
IsNowhere pts ids p = (i : ℕ) → In i ids → place pts i ≢ p

-- the number represents the id i
abbrev pub IsNamed : List Vector → List ℕ → List Vector → ℕ → ℕ → Type 0
IsNamed pts ids named number i = (number < length named) × IsAt pts ids (place named number) i

-- the number represents no id: it is too high, or no id has its point
abbrev pub IsStranger : List Vector → List ℕ → List Vector → ℕ → Type 0
IsStranger pts ids named number = number < length named → IsNowhere pts ids (place named number)

-- one of the corners of a face represents no id
abbrev pub HasStranger : List Vector → List ℕ → List Vector → List ℕ → Type 0
HasStranger pts ids named numbers = (number : ℕ) × In number numbers × IsStranger pts ids named number

-- the corners of a polygon are the ids that the corners of a face represent, one by one
pub record AreNamed (pts : List Vector) (ids : List ℕ) (named : List Vector) (numbers q : List ℕ) : Type 0 where
  pub count : length q ≡ length numbers
  pub each : (k : ℕ) → k < length numbers → IsNamed pts ids named (slice_index_or numbers k 0) (slice_index_or q k 0)

-- the polygons are renamed faces, one by one
pub record AreNamedFaces (pts : List Vector) (ids : List ℕ) (named : List Vector) (faces qs : List (List ℕ)) : Type 0 where
  pub count : length qs ≡ length faces
  pub each : (k : ℕ) → k < length faces → AreNamed pts ids named (slice_index_or faces k []) (slice_index_or qs k [])
