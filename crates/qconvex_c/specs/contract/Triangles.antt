-- The faces of a hull as triangles with their normals, in flat lists.
use Rattle.std.specs.Prelude.{ℕ, ℤ, ◌≡◌, ◌*◌, ◌<◌, ◌⊎◌, List, [], ◌∷◌, length}
use Rattle.std.specs.List.{flat_map}
use Rattle.qh_model.specs.{contract.FaceTriangles.face_triangles, headline.Hull.HullValue, headline.Hull.IsHull}
use Rattle.qh_model.specs.headline.{Predicates.cross, Predicates.place, Vector.Vector}
use Rattle.qconvex_c.specs.contract.Flat.{corners_of}

-- the fans of faces, one after the other
abbrev pub triangles_of : List (List ℕ) → List (List ℕ)
triangles_of qs = flat_map face_triangles qs

-- the three components of the normal of a triangle
abbrev pub normal_of : (ℕ → Vector) → List ℕ → List ℤ
normal_of at (u ∷ v ∷ w ∷ r) = (cross (at u) (at v) (at w)).x ∷ (cross (at u) (at v) (at w)).y ∷ (cross (at u) (at v) (at w)).z ∷ []
normal_of at t = []

-- these triangles, by their corners and their normals, are the faces of the hull of the points
pub record AreFans (pts : List Vector) (count : ℕ) (triangles : List ℕ) (normals : List ℤ) : Type 0 where
  pub hull : HullValue
  pub right : IsHull pts hull
  pub counted : count ≡ length (triangles_of hull.body.polygons)
  pub triangle_corners : triangles ≡ corners_of (triangles_of hull.body.polygons)
  pub triangle_normals : normals ≡ flat_map (normal_of (place pts)) (triangles_of hull.body.polygons)

-- this is the number of triangles, and a buffer is too short for them
pub record NeedsFanRoom (pts : List Vector) (count : ℕ) (triangles : List ℕ) (normals : List ℤ) : Type 0 where
  pub all_triangles : List ℕ
  pub all_normals : List ℤ
  pub fans : AreFans pts count all_triangles all_normals
  pub short : (length triangles < 3 * count) ⊎ (length normals < 3 * count)
