-- A group of facets is above the ids, since their planes are.
use Rattle.qh_model.proofs.Common.{subst, arith, pos, ◌<ℤ◌, place}
use Rattle.qh_parts_join.proofs.Runs.{left_at_start, front_inside, left_behind, all_done}
use Rattle.qh_parts.proofs.StayingParts.{named_there}
use Rattle.qh_parts.proofs.seam.marked.Marked.are_over.Goals as goal

pub loop-rest-init : goal.loop-rest-init
loop-rest-init c = left_at_start _ c.args.facets.now

pub triangle-origin-requires : goal.triangle-origin-requires
triangle-origin-requires c = c.requires _ (c.loop-rest.invariant.inside _ (named_there _ 0 _ c.index-rest-0.is (omega arith)))

pub planes_of-requires : goal.planes_of-requires
planes_of-requires c = λ f m.
    c.requires f (front_inside _ _ _ _ _ _ c.loop-rest.invariant c.split_at.ensures.front c.split_at.ensures.back f m)

pub loop-rest-preserved : goal.loop-rest-preserved
loop-rest-preserved c =
    left_behind _ _ _ _ _ _ c.loop-rest.invariant c.split_at.ensures.front c.split_at.ensures.back
    (λ f m ids are l i. (let (plane, there, is) = c.in_ok-planes.ensures f m in
    let below = rw c.deref.ensures.value at (c.in_ok-below.ensures c.if-not-below.false) in
    subst (λ v. v <ℤ pos 0) (is (place c.args.self.pts.now l)) (below c.args.self.pts.now ids are plane there l i)))

pub returns : goal.returns
returns c = λ _ ids are f m. all_done _ _ _ c.loop-rest.invariant (omega arith) f m ids are
