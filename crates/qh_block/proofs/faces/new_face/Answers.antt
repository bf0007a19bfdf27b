-- A walk has found live facets: their corners are ids of points, and the polygon of the corners is a new face.
use Rattle.qh_model.proofs.Common.{rules, ◌≡◌, length, IfOk-weaker, All-weaker, surface_of, place}
use Rattle.{qh_mesh.specs.contract.Replacement.IsLive, qh_surface.specs.contract.NamedMeshes.named, qh_surface.proofs.NamedFacets.named_live}
use Rattle.qh_block.proofs.finished.{Corners.corners_in, NamedWalks.walk_named, NewFaces.new_face, LoneTriangles.lone_triangle}
use Rattle.qh_model.proofs.surfaces.FacetPlanes.{level_itself}
use Rattle.qh_block.proofs.faces.new_face.Goals as goal

pub walk-requires-clause-passes : goal.walk-requires-clause-passes
walk-requires-clause-passes c = level_itself (place c.deref.result.now) (surface_of c.args.surface.now.mesh) c.args.f

pub facet_polygon-requires-clause-indices : goal.facet_polygon-requires-clause-indices
facet_polygon-requires-clause-indices c =
    let surface = c.args.surface.now in let vs = c.walk.new.found.items in
    rw c.deref-3.ensures.value (corners_in _ (named surface) vs _ c.requires.named.corners
    (All-weaker (IsLive surface.mesh) (IsLive (named surface)) (named_live surface) vs c.in_ok-walk.ensures.walk.facets.live)
    c.in_ok-gather_corners.ensures.members)

pub returns-clause-face : goal.returns-clause-face
returns-clause-face c =
    let gathered = c.in_ok-gather_corners.ensures in let surface = c.args.surface.now in let f = c.args.f in
    IfOk-weaker c.facet_polygon.result _ _ (λ q h ids s z new.
    let walked = walk_named c.args.pts.now surface c.requires.named f _ _ _ c.requires.live z.whole
    (rw c.deref.ensures.value at c.in_ok-walk.ensures) in
    new_face _ ids _ _ _ _ _ s z (named_live surface f c.requires.live) new walked
    _ q gathered.members gathered.rising (rw c.deref-3.ensures.value at h))
    c.facet_polygon.ensures

pub returns-then-len-eq1-clause-face : goal.returns-then-len-eq1-clause-face
returns-then-len-eq1-clause-face c = λ ids s z new.
    let one : length c.walk.new.found.items ≡ 1 = search rules in let surface = c.args.surface.now in let f = c.args.f in
    let walked = walk_named c.args.pts.now surface c.requires.named f _ _ _ c.requires.live z.whole
    (rw c.deref.ensures.value at c.in_ok-walk.ensures) in
    rw c.lone_triangle.ensures (lone_triangle _ ids _ _ _ _ _ one s z (named_live surface f c.requires.live) new walked)
