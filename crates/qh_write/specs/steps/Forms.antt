-- Faces as they are written: as a whole, or as a fan of triangles.
-- Source: OpenGL (a fan of triangles goes out from its first vertex).
use Rattle.std.specs.Prelude.{ℕ, List}
use Rattle.qh_model.specs.headline.{Fan.fans, Fan.edge_count, Hull.BodyValue}
use Rattle.qh_write.specs.declared.texts.forms.FaceForm.{FaceForm, TheVariants.Whole, TheVariants.Fans}

-- the faces in a form
abbrev pub shown : FaceForm → List (List ℕ) → List (List ℕ)
shown Whole qs = qs
shown Fans qs = fans qs

-- the number of edges of the faces in a form
abbrev pub edges_shown : FaceForm → BodyValue → ℕ
edges_shown Whole b = b.edges
edges_shown Fans b = edge_count (fans b.polygons)

-- the hull with its faces in a form
abbrev pub body_shown : FaceForm → BodyValue → BodyValue
body_shown form b = record b { polygons = shown form b.polygons; edges = edges_shown form b }
