-- Linear maps of whole numbers with a shift, and lists of images of points. This project's own.
-- Source of the idea: Minkowski reduction of lattice bases (Nguyen and Stehlé 2009).
use Rattle.std.specs.Prelude.{ℕ, ℤ, pos, ◌≡◌, ◌<◌, ◌+ℤ◌, ◌<ℤ◌, List, length}
use Rattle.qh_model.specs.{contract.IdSets.IsIdSet, headline.Dimension.IsDimension, headline.Predicates.place, headline.Sets.Members}
use Rattle.qh_model.specs.headline.Vector.{Vector, cross_product, dot}

-- nine whole numbers, by rows
pub record Matrix : Type 0 where
  pub first : Vector
  pub second : Vector
  pub third : Vector

-- the determinant of a matrix
abbrev pub determinant : Matrix → ℤ
determinant m = dot (cross_product m.first m.second) m.third

-- the image of a vector, then shifted
abbrev pub moved : Matrix → Vector → Vector → Vector
moved m s v = record { x = dot m.first v +ℤ s.x; y = dot m.second v +ℤ s.y; z = dot m.third v +ℤ s.z }

-- the second list has the images of the points of the first, in order
pub record AreImages (m : Matrix) (s : Vector) (pts images : List Vector) : Type 0 where
  pub count : length images ≡ length pts
  pub each : (i : ℕ) → i < length pts → place images i ≡ moved m s (place pts i)

-- the second list has the images of the first under some map that keeps orientation
pub record IsMapped (pts images : List Vector) : Type 0 where
  pub matrix : Matrix
  pub shift : Vector
  pub oriented : pos 0 <ℤ determinant matrix
  pub each : AreImages matrix shift pts images

-- the points are mapped in this way, and the ids are those of a solid if they rise and have distinct points
pub record IsReduced (pts : List Vector) (ids : List ℕ) (images : List Vector) : Type 0 where
  pub mapped : IsMapped pts images
  pub solid : IsIdSet pts ids → IsDimension (place pts) (Members ids) 3
