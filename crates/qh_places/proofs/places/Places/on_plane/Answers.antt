-- The ids found at all starts are all ids in the plane, if the plane is in the bundle.
use Rattle.qh_model.proofs.Common.{arith, length, ◌≡◌, ◌<◌, ◌≤◌, IfOk-weaker}
use Rattle.qh_places.proofs.NearPositions.{seen_start, seen_goes, seen_all}
use Rattle.qh_places.proofs.FoundIds.{above_of, all_looked, level_of_near}
use Rattle.qh_places.proofs.places.Places.on_plane.Goals as goal

pub loop-index-init : goal.loop-index-init
loop-index-init c = rw c.clear.ensures.items (seen_start _ _ _ _)

pub loop-index-preserved : goal.loop-index-preserved
loop-index-preserved c =
    let l : c.loop-index.index < length c.args.near.now.starts.items = omega (arith, c.loop-index-test.true, c.len-index-end.ensures) in
    seen_goes _ _ _ _ _ _ _ _ c.loop-index.invariant l c.index-start.ensures (rw c.in_default.is at c.in_ok-id.ensures)

pub returns-in-Some : goal.returns-in-Some
returns-in-Some c = λ pts ids are. above_of pts ids c.args.self.now are _ _ (rw c.in-Some.is at c.in_ok-id.ensures)

pub returns-then-not-has : goal.returns-then-not-has
returns-then-not-has c =
    let e : c.len.result ≡ length c.args.self.now.points.items = omega (arith, c.len.ensures) in
    IfOk-weaker c.look.result _ _ (λ o h pts ids are. all_looked pts ids c.args.self.now are c.args.plane.now o _
    (rw (c.clear.ensures.items, e) at h)) c.look.ensures

pub returns : goal.returns
returns c = λ pts ids are.
    let l : length c.args.near.now.starts.items ≤ c.loop-index.index = omega (arith, c.loop-index-test.false, c.len-index-end.ensures) in
    level_of_near pts ids c.args.self.now are c.args.plane.now c.args.near.now _ c.requires (c.has.ensures (let n = c.if-not-has.false in cc))
    (seen_all _ _ _ _ _ _ c.loop-index.invariant l)
