-- The lists of fans, made face by face.
use Rattle.{std.specs.Prelude.ℕ, std.specs.Prelude.ℤ, std.specs.Prelude.List, std.specs.List.flat_map, qh_model.specs.contract.FaceTriangles.face_triangles}
use Rattle.{qh_model.specs.headline.Vector.Vector, qconvex_c.specs.contract.Flat.corners_of, qconvex_c.specs.contract.Triangles.normal_of}

-- the corners of the triangles of a face
abbrev pub face_corners : List ℕ → List ℕ
face_corners q = corners_of (face_triangles q)

-- the normals of the triangles of a face
abbrev pub face_normals : (ℕ → Vector) → List ℕ → List ℤ
face_normals at q = flat_map (normal_of at) (face_triangles q)
