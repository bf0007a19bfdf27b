-- The texts of a hull.
-- Sources: Qhull manual, `s` (the summary; its wording is this project's own) and `Fx` (the number of extreme points
-- and their indices from 0); Geomview OFF (`OFF`, the counts, the vertices, the faces by vertex numbers from 0).
use Rattle.std.specs.Prelude.{◌≡◌, ℕ, suc, List, [], ◌∷◌, ◌++◌, ◌==◌, if◌then◌else◌, length, codes, decimal}
use Rattle.std.specs.{Fmt.signed_decimal, List.flat_map}
use Rattle.qh_model.specs.declared.out.Out.{Out}
use Rattle.qh_model.specs.declared.out.Out.TheVariants.{Rank, Summary, Fx, Off, OffTriangles}
use Rattle.qh_model.specs.headline.{Vector.Vector, Predicates.place, Fan.fans, Fan.edge_count, Hull.HullValue, Hull.BodyValue, Hull.IsHull}

-- a text followed by byte 10, which ends the line
abbrev pub line : List ℕ → List ℕ
line text = text ++ 10 ∷ []

-- a blank followed by the number
abbrev pub spaced : ℕ → List ℕ
spaced n = 32 ∷ decimal n

-- `rank`: the number of points, the number of distinct points, the dimension
abbrev pub rank_text : HullValue → List ℕ
rank_text h = line (decimal h.given ++ spaced h.distinct ++ spaced h.body.dim)

-- the first three lines of `s`: the input
abbrev pub given_text : HullValue → List ℕ
given_text h =
    line (codes "Convex hull of " ++ decimal h.given ++ codes " points in 3-d:")
    ++ line (codes "  dimension: " ++ decimal h.body.dim)
    ++ line (codes "  distinct points: " ++ decimal h.distinct)

-- the last three lines of `s`: the result
abbrev pub found_text : BodyValue → List ℕ
found_text b =
    line (codes "  extreme points: " ++ decimal (length b.extremes))
    ++ line (codes "  facets: " ++ decimal (length b.polygons))
    ++ line (codes "  edges: " ++ decimal b.edges)

-- `s`: six lines
abbrev pub summary_text : HullValue → List ℕ
summary_text h = given_text h ++ found_text h.body

-- `Fx`: the number of extreme points, then their ids, one a line
abbrev pub extremes_text : BodyValue → List ℕ
extremes_text b = line (decimal (length b.extremes)) ++ flat_map (λ i. line (decimal i)) b.extremes

-- the number of a vertex: its position, from 0, among the extreme ids
abbrev pub vertex_number : List ℕ → ℕ → ℕ
vertex_number [] i = 0
vertex_number (e ∷ es) i = if e == i then 0 else suc (vertex_number es i)

-- x, y and z of a vertex
abbrev pub vertex_text : Vector → List ℕ
vertex_text p = line (signed_decimal p.x ++ 32 ∷ signed_decimal p.y ++ 32 ∷ signed_decimal p.z)

-- the length of a face and its vertex numbers
abbrev pub face_text : List ℕ → List ℕ → List ℕ
face_text extremes q = line (decimal (length q) ++ flat_map (λ i. spaced (vertex_number extremes i)) q)

-- `off`: the keyword, the counts of vertices, faces and edges, the vertices, the faces
abbrev pub off_text : BodyValue → List Vector → List ℕ
off_text b pts =
    line (codes "OFF")
    ++ line (decimal (length b.extremes) ++ spaced (length b.polygons) ++ spaced b.edges)
    ++ flat_map (λ i. vertex_text (place pts i)) b.extremes
    ++ flat_map (face_text b.extremes) b.polygons

-- the body with the fans of the polygons instead of the polygons, and with their edges
abbrev pub in_triangles : BodyValue → BodyValue
in_triangles b = record b { polygons = fans b.polygons; edges = edge_count (fans b.polygons) }

-- the text of an output
abbrev pub output_text : HullValue → List Vector → Out → List ℕ
output_text h pts Rank = rank_text h
output_text h pts Summary = summary_text h
output_text h pts Fx = extremes_text h.body
output_text h pts Off = off_text h.body pts
output_text h pts OffTriangles = off_text (in_triangles h.body) pts

-- the texts of a list of outputs, joined in its order
abbrev pub hull_text : HullValue → List Vector → List Out → List ℕ
hull_text h pts outs = flat_map (output_text h pts) outs

-- the only text that the points define for a list of outputs
pub record IsText (pts : List Vector) (outs : List Out) (text : List ℕ) : Type 0 where
  pub hull : HullValue
  pub right : IsHull pts hull
  pub is : text ≡ hull_text hull pts outs
