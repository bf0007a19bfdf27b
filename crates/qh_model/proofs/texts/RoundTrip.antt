-- An OFF file that is written is read as the extreme points, which are written as the same bytes.
use Rattle.qh_model.proofs.Common.{BYTE_LIMIT, BodyValue, CanBeRead, Extreme, Fx, HullValue, IsHull, List, Members, OffTriangles, Out, Rank, ReadsOff, Summary}
use Rattle.qh_model.proofs.Common.{Vector, [], ap, append-nil, arith, edge_count, face_text, fan, fans, flat_map, hull_text, length, length-map, map, off_text}
use Rattle.qh_model.proofs.Common.{output_text, place, subst, sym, vertex_number, vertex_text, ℕ, ◌++◌, ◌∙◌, ◌∷◌, ◌≡◌, ◌≤◌}
use Rattle.qh_model.proofs.{DistinctIds.distinct_apart, hulls.ExtremePoints.extreme_points_can_be_read, hulls.OfExtremes.body_of_extremes}
use Rattle.qh_model.proofs.{hulls.Unique.edge_count_is_unique, hulls.Unique.hull_is_unique, lists.Joined.of_flat_map, polygons.EdgeCounts.edges_are_counted}
use Rattle.qh_model.proofs.{polygons.Fans.fan_members, renamed.Bodies.polygon_members, renamed.Bodies.renamed_body, renamed.Edges.edge_count_renamed}
use Rattle.qh_model.proofs.renamed.{Lists.AreWithin, Positions.by_position, Positions.extreme_points_have_hull, Positions.hull_of_extremes, Positions.points_of}
use Rattle.qh_model.proofs.texts.{OffTexts.reads_surface, OffTexts.surface_text, RenamedTexts.fans-map, RenamedTexts.off_text_renamed}
use Rattle.qh_model.specs.{declared.out.Out.TheVariants.Off, headline.Text.in_triangles}
use Rattle.qh_model.specs.laws.RoundTrip.{ExtremePointsHaveText, IsOffOutput, IsReadAsExtremePoints, IsWrittenAgain, extreme_points}
use Rattle.std.proofs.lemmas.List.Folds.{flat_map-map}

-- ---- reading
-- the text of a body's faces, by its vertices
off_text_surface : (pts : List Vector) (b : BodyValue) → let faces : List ℕ = flat_map (face_text b.extremes) b.polygons in
    off_text b pts ≡ surface_text (points_of pts b.extremes) (length b.polygons) b.edges faces
off_text_surface pts b =
    let vertices = flat_map-map vertex_text (place pts) b.extremes in
    let count = length-map b.extremes (place pts) in
    cc (vertices, count)

-- the text is read as the points of its vertices
reads_body : (pts : List Vector) (b : BodyValue) → CanBeRead (points_of pts b.extremes)
    → length (off_text b pts) ≤ BYTE_LIMIT → ReadsOff (off_text b pts) (points_of pts b.extremes)
reads_body = grind (arith, off_text_surface, reads_surface, points_of)

-- proof of the law `IsReadAsExtremePoints`
pub is_read_as_extreme_points : IsReadAsExtremePoints
is_read_as_extreme_points pts h Rank can s o small = absurd o
is_read_as_extreme_points pts h Summary can s o small = absurd o
is_read_as_extreme_points pts h Fx can s o small = absurd o
is_read_as_extreme_points pts h Off can s o small = reads_body pts h.body (extreme_points_can_be_read pts h s can) small
is_read_as_extreme_points pts h OffTriangles can s o small = reads_body pts (in_triangles h.body) (extreme_points_can_be_read pts h s can) small

-- ---- writing again
module _ (pts : List Vector) (h : HullValue) (s : IsHull pts h) where
  -- the extreme ids
  abbrev E : ℕ → Type 0
  E = Extreme (place pts) (Members s.ids)

  -- the corners of polygons are extreme ids
  corners_extreme : AreWithin E h.body.polygons
  corners_extreme =
      let apart = distinct_apart pts s.ids s.distinct_ids in
      polygon_members (place pts) E h.body.dim h.body.polygons ((body_of_extremes (place pts) s.ids h.body apart).1 s.body).polygons

  -- the corners of triangles are extreme ids
  triangles_extreme : AreWithin E (fans h.body.polygons)
  triangles_extreme t m i j = let r = of_flat_map fan h.body.polygons t m in corners_extreme r.0 r.1 i (fan_members r.0 t r.2 i j)

  -- triangles by positions have the same number of edges
  edges_again : edge_count (fans (map (map (vertex_number h.body.extremes)) h.body.polygons)) ≡ edge_count (fans h.body.polygons)
  edges_again =
      let f : ℕ → ℕ = vertex_number h.body.extremes in
      let triangles : List (List ℕ) = fans h.body.polygons in
      let r = by_position pts E h.body.extremes s.body.extremes.rising s.body.extremes.members in
      let renamed = edge_count_renamed r triangles (edge_count triangles) triangles_extreme (edges_are_counted triangles) in
      ap edge_count (fans-map f h.body.polygons)
      ∙ edge_count_is_unique (map (map f) triangles) _ _ (edges_are_counted (map (map f) triangles)) renamed

  -- the triangles by positions
  triangles_again : let f : ℕ → ℕ = vertex_number h.body.extremes in
      in_triangles (renamed_body f h.body) ≡ renamed_body f (in_triangles h.body)
  triangles_again =
      let f : ℕ → ℕ = vertex_number h.body.extremes in
      λ i. record (renamed_body f h.body) { polygons = fans-map f h.body.polygons i; edges = edges_again i }

  -- the text of the extreme points is that of the points
  text_again : (out : Out) → IsOffOutput out → output_text (hull_of_extremes h) (extreme_points pts h) out ≡ output_text h pts out
  text_again Rank o = absurd o
  text_again Summary o = absurd o
  text_again Fx o = absurd o
  text_again Off o = off_text_renamed pts h.body (λ q m i j. (s.body.extremes.members i).1 (corners_extreme q m i j))
  text_again OffTriangles o =
      ap (λ b. off_text b (extreme_points pts h)) triangles_again
      ∙ off_text_renamed pts (in_triangles h.body) (λ t m i j. (s.body.extremes.members i).1 (triangles_extreme t m i j))

-- proof of the law `ExtremePointsHaveText`
pub extreme_points_have_text : ExtremePointsHaveText
extreme_points_have_text pts h out text s o t =
    let same : text ≡ hull_text h pts (out ∷ []) = t.is ∙ ap (λ k. hull_text k pts (out ∷ [])) (hull_is_unique pts t.hull h t.right s) in
    record { hull = hull_of_extremes h; right = extreme_points_have_hull pts h s; is = same ∙ ap (λ bytes. bytes ++ []) (sym (text_again pts h s out o)) }

-- proof of the law `IsWrittenAgain`
pub is_written_again : IsWrittenAgain
is_written_again pts out text can o t small =
    let same : text ≡ output_text t.hull pts out = t.is ∙ append-nil (output_text t.hull pts out) in
    let read = is_read_as_extreme_points pts t.hull out can t.right o (subst (λ bytes. length bytes ≤ BYTE_LIMIT) same small) in (
      extreme_points pts t.hull,
      subst (λ bytes. ReadsOff bytes (extreme_points pts t.hull)) (sym same) read,
      extreme_points_have_text pts t.hull out text t.right o t,
    )
