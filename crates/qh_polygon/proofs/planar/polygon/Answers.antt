-- The polygon of three or four ids by their turns, of more ids by their corners, of many ids without those inside.
use Rattle.qh_model.proofs.Common.{ℕ, IsStrictlyIncreasing, Extreme, place, In, Members}
use Rattle.qh_polygon.proofs.planar.polygon.Goals as goal
use Rattle.qh_polygon.specs.contract.PlanarSets.{IsPlanarSet}
use Rattle.qh_polygon.proofs.{InnerPlaces.planar_flat, InnerPlaces.outer_flat, InnerPlaces.outer_polygon, polygons.Quadrilateral.polygon_of_four}
use Rattle.qh_polygon.proofs.polygons.Triangle.{polygon_of_three}

pub returns-then-ids-eq3 : goal.returns-then-ids-eq3
returns-then-ids-eq3 c = λ h.
    let i = c.index-ids-0 in let j = c.index-ids-1 in let k = c.index-ids-2 in
    polygon_of_three c.args.pts.now c.args.ids.now c.args.normal.now i.result j.result k.result c.triangle.result
    c.if-ids-eq3.true i.is j.is k.is c.triangle.ensures h

pub returns-in-Some : goal.returns-in-Some
returns-in-Some c = λ h.
    let i = c.index-ids-0-then-ids-eq4 in let j = c.index-ids-1-then-ids-eq4 in
    let k = c.index-ids-2-then-ids-eq4 in let l = c.index-ids-3 in
    polygon_of_four c.args.pts.now c.args.ids.now c.args.normal.now i.result j.result k.result l.result c.of.result
    c.if-ids-eq4.true i.is j.is k.is l.is (rw (c.of.ensures, c.in_ok-from_slice.ensures.items) c.in-Some.ensures) h

pub returns-in_ok-corners-in-Some-2 : goal.returns-in_ok-corners-in-Some-2
returns-in_ok-corners-in-Some-2 c = λ h.
    let pts = c.args.pts.now in let ids = c.args.ids.now in let n = c.args.normal.now in let outer = c.in-Some-2.outer.items in
    let some = c.in-Some-2.is in let left = c.in_ok-outer.ensures in
    let rising : IsStrictlyIncreasing ids → IsStrictlyIncreasing outer = rw some at left.rising in
    let within : (i : ℕ) → In i outer → In i ids = rw some at left.within in
    let extremes : IsPlanarSet pts ids n → (i : ℕ) → Extreme (place pts) (Members ids) i → In i outer = rw some at left.extremes in
    let corners = c.in_ok-corners-in-Some-2 in let found = rw c.deref.ensures.value at corners.ensures in
    let flat = outer_flat pts ids outer n h (rising h.set.rising) within (extremes h) in
    rw c.of-in-Some-2.ensures (outer_polygon pts ids outer n h (rising h.set.rising) within (extremes h) corners.field-0.items (found flat))

pub returns-in_ok-corners-in-None : goal.returns-in_ok-corners-in-None
returns-in_ok-corners-in-None c = λ h.
    rw c.of-in-None.ensures (c.in_ok-corners-in-None.ensures (planar_flat c.args.pts.now c.args.ids.now c.args.normal.now h))
