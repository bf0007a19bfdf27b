-- A hull in flat lists, as C reads it.
use Rattle.std.specs.Prelude.{ℕ, ◌≡◌, ◌+◌, List, [], ◌∷◌, ◌++◌, length}
use Rattle.qh_model.specs.headline.{Hull.HullValue, Hull.IsHull, Vector.Vector}
use Rattle.qconvex_c.specs.declared.sizes.Sizes.{Sizes}

-- the corners of the faces, one face after the other
abbrev pub corners_of : List (List ℕ) → List ℕ
corners_of [] = []
corners_of (q ∷ qs) = q ++ corners_of qs

-- the ends of the faces in the list of their corners, whose first corner has the number n
abbrev pub ends_from : ℕ → List (List ℕ) → List ℕ
ends_from n [] = []
ends_from n (q ∷ qs) = (n + length q) ∷ ends_from (n + length q) qs

-- 0, and the end of each face
abbrev pub offsets_of : List (List ℕ) → List ℕ
offsets_of qs = 0 ∷ ends_from 0 qs

-- the sizes are those of the hull
pub record AreSizes (h : HullValue) (s : Sizes) : Type 0 where
  pub points : s.points ≡ h.given
  pub distinct : s.distinct ≡ h.distinct
  pub dimension : s.dimension ≡ h.body.dim
  pub extremes : s.extremes ≡ length h.body.extremes
  pub faces : s.faces ≡ length h.body.polygons
  pub corners : s.corners ≡ length (corners_of h.body.polygons)
  pub edges : s.edges ≡ h.body.edges

-- the lists are the hull of the points
pub record IsFlatHull (pts : List Vector) (s : Sizes) (extremes offsets corners : List ℕ) : Type 0 where
  pub hull : HullValue
  pub right : IsHull pts hull
  pub sizes : AreSizes hull s
  pub extreme_ids : extremes ≡ hull.body.extremes
  pub face_offsets : offsets ≡ offsets_of hull.body.polygons
  pub face_corners : corners ≡ corners_of hull.body.polygons
