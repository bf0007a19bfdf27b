-- The rests of the three components after the steps.
use Rattle.{qh_pred.specs.contract.Bounds.normal_limit, qh_model.specs.declared.limits.TheConstants.COORDINATE_LIMIT, qh_block.proofs.CoarsePlanes.room_of}
use Rattle.qh_block.proofs.{CoarsePlanes.same_product, CoarsePlanes.same_rest, Numbers.held_is, Numbers.held_as, Numbers.held_size, Numbers.held_within}
use Rattle.qh_model.proofs.Common.{◌≡◌, ◌^◌, lit<, refl, to_z-of_z, ◌+ℤ◌, pos, w32, w64, w128, to_z, of_z}
use Rattle.qh_block.proofs.regions.coarse_planes.room_for.Goals as goal

pub returns-clause-room : goal.returns-clause-room
returns-clause-room c =
    let n = c.args.normal.now in let tip = c.args.tip in let step = c.args.step in
    let x = c.in_ok-x.x in let y = c.in_ok-y.y in let z = c.in_ok-z.z in let step_is = to_z-of_z w64 step c.ranges.step in
    let total : c.total.result ≡ x +ℤ y +ℤ z =
    rw (
      held_is w128 x (2 ^ 64) c.in_ok-x.ensures.limit (lit< tt),
      held_is w128 y (2 ^ 64) c.in_ok-y.ensures.limit (lit< tt),
      held_is w128 z (2 ^ 64) c.in_ok-z.ensures.limit (lit< tt),
    ) at c.total.ensures.value in
    let long = same_product c.room.result c.total.result (pos COORDINATE_LIMIT) (to_z w128 (of_z w128 c.total.result)) (pos COORDINATE_LIMIT)
    (held_is w128 c.total.result (2 ^ 66) c.total.ensures.limit (lit< tt)) refl c.room.ensures.value in (
      record { x = x; y = y; z = z },
      record {
        x = same_rest n.x tip.x step x (to_z w128 (of_z w128 c.x.result)) (to_z w32 (of_z w32 c.x-2.result)) (to_z w64 (of_z w64 step))
            (held_as w128 c.x.result n.x normal_limit c.x.ensures.value c.x.ensures.limit.x (lit< tt))
            (held_as w32 c.x-2.result tip.x COORDINATE_LIMIT c.x-2.ensures.value c.x-2.ensures.limit.x (lit< tt)) step_is c.in_ok-x.ensures.rest;
        y = same_rest n.y tip.y step y (to_z w128 (of_z w128 c.y.result)) (to_z w32 (of_z w32 c.y-2.result)) (to_z w64 (of_z w64 step))
            (held_as w128 c.y.result n.y normal_limit c.y.ensures.value c.y.ensures.limit.y (lit< tt))
            (held_as w32 c.y-2.result tip.y COORDINATE_LIMIT c.y-2.ensures.value c.y-2.ensures.limit.y (lit< tt)) step_is c.in_ok-y.ensures.rest;
        z = same_rest n.z tip.z step z (to_z w128 (of_z w128 c.z.result)) (to_z w32 (of_z w32 c.z-2.result)) (to_z w64 (of_z w64 step))
            (held_as w128 c.z.result n.z normal_limit c.z.ensures.value c.z.ensures.limit.z (lit< tt))
            (held_as w32 c.z-2.result tip.z COORDINATE_LIMIT c.z-2.ensures.value c.z-2.ensures.limit.z (lit< tt)) step_is c.in_ok-z.ensures.rest;
      },
      room_of x y z c.total.result c.room.result (to_z w128 (of_z w128 c.room.result)) total long
          (held_is w128 c.room.result (2 ^ 96) c.room.ensures.limit (lit< tt)),
    )

pub rest_of-requires : goal.rest_of-requires
rest_of-requires c = held_within w128 c.x.result c.args.normal.now.x normal_limit c.x.ensures.value c.x.ensures.limit.x (lit< tt)

pub rest_of-requires-2 : goal.rest_of-requires-2
rest_of-requires-2 c = held_within w128 c.y.result c.args.normal.now.y normal_limit c.y.ensures.value c.y.ensures.limit.y (lit< tt)

pub rest_of-requires-3 : goal.rest_of-requires-3
rest_of-requires-3 c = held_within w128 c.z.result c.args.normal.now.z normal_limit c.z.ensures.value c.z.ensures.limit.z (lit< tt)

pub total-requires : goal.total-requires
total-requires c = record {
  x = held_size w128 c.in_ok-x.x (2 ^ 64) c.in_ok-x.ensures.limit (lit< tt);
  y = held_size w128 c.in_ok-y.y (2 ^ 64) c.in_ok-y.ensures.limit (lit< tt);
  z = held_size w128 c.in_ok-z.z (2 ^ 64) c.in_ok-z.ensures.limit (lit< tt);
}

pub room-requires : goal.room-requires
room-requires c = held_size w128 c.total.result (2 ^ 66) c.total.ensures.limit (lit< tt)

pub returns-clause-limit : goal.returns-clause-limit
returns-clause-limit c = held_size w128 c.room.result (2 ^ 96) c.room.ensures.limit (lit< tt)
