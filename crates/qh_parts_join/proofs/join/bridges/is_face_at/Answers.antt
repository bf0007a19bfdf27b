-- No kept id is above the plane of the three, and the polygon of the ids in the plane is the claimed one.
use Rattle.qh_model.proofs.Common.{◌≡◌, ◌∙◌, subst, sym, both_ways, same_text, place, AreInLine, Members, IsFacePolygon}
use Rattle.{qh_places.proofs.LevelFaces.triple, qh_places.proofs.LevelFaces.face, qh_parts_join.proofs.BridgeLevels.level_indices}
use Rattle.qh_parts_join.proofs.join.bridges.is_face_at.Goals as goal

pub polygon-requires : goal.polygon-requires
polygon-requires c =
    rw c.deref-2.ensures.value
    (level_indices c.args.kept.corners.now c.args.kept.shared.now c.args.kept.pts.now c.args.kept.corners_in c.args.kept.shared_in
    c.through-plane.result c.in-Some.level.items (rw c.in-Some.is at c.in_ok-level.ensures.level))

pub returns : goal.returns
returns c = λ yes kept keeps distinct.
    let pts = c.args.kept.pts.now in
    let x = c.point_at-a.ensures in let y = c.point_at-b.ensures in let z = c.point_at-c.ensures in
    let level = (rw c.in-Some.is at c.in_ok-level.ensures.level) kept keeps in
    let rising = rw c.in-Some.is at c.in_ok-level.ensures.rising in let told = rw (x, y, z) at c.through-plane.ensures in
    let made = rw (c.deref-2.ensures.value, c.cross.ensures, x, y, z) at c.in_ok-face.ensures in
    let has_i = rw c.deref.ensures.value at (c.is_in.ensures.i c.if-not-is_in.false) in
    let has_j = rw c.deref.ensures.value at (c.is_in.ensures.j c.if-not-is_in.false) in
    let has_k = rw c.deref.ensures.value at (c.is_in.ensures.k c.if-not-is_in.false) in
    let alike : c.ids.result.now ≡ c.ids-2.result.now = same_text _ _ (sym yes ∙ c.eq.ensures) in
    let area = λ (e : AreInLine (place pts _) (place pts _) (place pts _)).
    (both_ways _ c.if-in_line.false (c.in_line.ensures.1 (rw (x, y, z) e))) in (
      c.args.three.i,
      c.args.three.j,
      c.args.three.k,
      triple pts kept c.through-plane.result _ level _ _ _ told area has_i has_j has_k,
      subst (IsFacePolygon (place pts) (Members kept) _ _ _) (rw (c.ids.ensures, c.ids-2.ensures) at alike)
          (face pts kept c.through-plane.result _ level _ _ _ told area has_i has_j has_k rising distinct _ made),
    )
