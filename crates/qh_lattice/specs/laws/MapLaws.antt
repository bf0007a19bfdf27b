-- Linear maps and shifts keep hulls: facts about points hold for their images.
use Rattle.std.specs.Prelude.{◌≡◌, ◌≢◌, ℕ, ℤ, pos, ◌*ℤ◌, ◌<ℤ◌, ◌↔◌, List}
use Rattle.qh_model.specs.headline.Vector.{Vector}
use Rattle.qh_model.specs.headline.Predicates.{cross, vol, left, AreInLine}
use Rattle.qh_model.specs.headline.{Sets.Members, Dimension.IsDimension, Extreme.Extreme, Polygons.AreFaces, Hull.BodyValue, Hull.IsBody}
use Rattle.qh_lattice.specs.contract.LatticeMaps.{Matrix, determinant, moved}

-- both are above 0, both are 0, or both are below 0
pub record SameSign (a b : ℤ) : Type 0 where
  pub above : (pos 0 <ℤ a) ↔ (pos 0 <ℤ b)
  pub level : (a ≡ pos 0) ↔ (b ≡ pos 0)
  pub below : (a <ℤ pos 0) ↔ (b <ℤ pos 0)

-- the images of the points of all ids
abbrev pub at_moved : Matrix → Vector → (ℕ → Vector) → ℕ → Vector
at_moved m s at i = moved m s (at i)

-- a map multiplies a volume by the determinant; a shift does not change it
abbrev pub MovedVolume : Type 0
MovedVolume = (m : Matrix) (s a b c d : Vector) → vol (moved m s a) (moved m s b) (moved m s c) (moved m s d) ≡ determinant m *ℤ vol a b c d

-- a volume keeps its sign if the determinant is above 0
abbrev pub MovedVolumeSign : Type 0
MovedVolumeSign = (m : Matrix) → pos 0 <ℤ determinant m → (s a b c d : Vector)
    → SameSign (vol a b c d) (vol (moved m s a) (moved m s b) (moved m s c) (moved m s d))

-- points are in line exactly if their images are
abbrev pub MovedLine : Type 0
MovedLine = (m : Matrix) → determinant m ≢ pos 0 → (s a b c : Vector) → AreInLine (moved m s a) (moved m s b) (moved m s c) ↔ AreInLine a b c

-- a turn in the plane of i, j, k keeps its sign, seen from the same side of the plane
abbrev pub MovedTurn : Type 0
MovedTurn = (m : Matrix) → determinant m ≢ pos 0 → (s i j k u v w : Vector)
    → vol i j k u ≡ pos 0 → vol i j k v ≡ pos 0 → vol i j k w ≡ pos 0
    → SameSign (left (cross i j k) u v w) (left (cross (moved m s i) (moved m s j) (moved m s k)) (moved m s u) (moved m s v) (moved m s w))

-- the extreme ids are the same
abbrev pub MovedExtreme : Type 0
MovedExtreme = (m : Matrix) → determinant m ≢ pos 0 → (s : Vector) (at : ℕ → Vector) (ids : List ℕ) (l : ℕ)
    → Extreme (at_moved m s at) (Members ids) l ↔ Extreme at (Members ids) l

-- the dimension is the same
abbrev pub MovedDimension : Type 0
MovedDimension = (m : Matrix) → pos 0 <ℤ determinant m → (s : Vector) (at : ℕ → Vector) (ids : List ℕ) (k : ℕ)
    → IsDimension (at_moved m s at) (Members ids) k ↔ IsDimension at (Members ids) k

-- the faces are the same
abbrev pub MovedFaces : Type 0
MovedFaces = (m : Matrix) → pos 0 <ℤ determinant m → (s : Vector) (at : ℕ → Vector) (ids : List ℕ) (qs : List (List ℕ))
    → AreFaces (at_moved m s at) (Members ids) qs ↔ AreFaces at (Members ids) qs

-- the hull is the same, except for a flat set, whose only face is seen from the side of a normal that points forward
abbrev pub MovedBody : Type 0
MovedBody = (m : Matrix) → pos 0 <ℤ determinant m → (s : Vector) (at : ℕ → Vector) (ids : List ℕ) (b : BodyValue)
    → b.dim ≢ 2 → IsBody (at_moved m s at) (Members ids) b ↔ IsBody at (Members ids) b
