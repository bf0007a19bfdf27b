use Rattle.qh_model.proofs.Common.{◌<◌, arith, IsNonDecreasingBy-from_sort}
use Rattle.qconvex_c.specs.{contract.Neighbors.side_from, contract.Neighbors.side_to, declared.side_keys.TheConstants.SIDE_ROOM}
use Rattle.qconvex_c.proofs.SideKeys.{one_more, moved}
use Rattle.qconvex_c.proofs.side_keys.SideKeys.sorted.Goals as goal

pub loop-side-preserved : goal.loop-side-preserved
loop-side-preserved c =
    let from = side_from c.args.triangles.now in let to = side_to c.args.triangles.now in
    let room : c.loop-side.side < SIDE_ROOM = omega arith in record {
      up = one_more from to _ _ _ room c.loop-side.invariant.up c.in_ok-add.ensures.up c.in_ok-add.ensures.down;
      down = one_more to from _ _ _ room c.loop-side.invariant.down c.in_ok-add-2.ensures.up c.in_ok-add-2.ensures.down;
    }

pub returns-clause-up : goal.returns-clause-up
returns-clause-up c =
    moved (side_from c.args.triangles.now) (side_to c.args.triangles.now) _ _ _ _ (omega arith) c.sort_unstable.ensures.permutation
    c.loop-side.invariant.up

pub returns-clause-down : goal.returns-clause-down
returns-clause-down c =
    moved (side_to c.args.triangles.now) (side_from c.args.triangles.now) _ _ _ _ (omega arith) c.sort_unstable-2.ensures.permutation
    c.loop-side.invariant.down

pub returns-clause-up_rises : goal.returns-clause-up_rises
returns-clause-up_rises c = IsNonDecreasingBy-from_sort (λ x. x) _ c.sort_unstable.ensures.sorted

pub returns-clause-down_rises : goal.returns-clause-down_rises
returns-clause-down_rises c = IsNonDecreasingBy-from_sort (λ x. x) _ c.sort_unstable-2.ensures.sorted
