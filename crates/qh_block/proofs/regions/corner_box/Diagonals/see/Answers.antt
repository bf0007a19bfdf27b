-- Each diagonal has ends of the set after one more point of it.
use Rattle.qh_block.proofs.Numbers.{wide, sum_fits, difference_fits, add_add_fits, add_sub_fits, sub_add_fits, sub_sub_fits}
use Rattle.qh_block.proofs.regions.corner_box.Diagonals.see.Goals as goal

pub returns : goal.returns
returns c pts ids e p = record {
  up_up = c.see.ensures pts ids e.up_up p;
  up_down = c.see-2.ensures pts ids e.up_down p;
  down_up = c.see-3.ensures pts ids e.down_up p;
  down_down = c.see-4.ensures pts ids e.down_down p;
}

pub overflow_add-x : goal.overflow_add-x
overflow_add-x c =
    sum_fits c.from-x.result c.from-y.result (wide c.x.result c.from-x.result c.x.type_inv c.from-x.ensures)
    (wide c.y.result c.from-y.result c.y.type_inv c.from-y.ensures)

pub overflow_add-x-2 : goal.overflow_add-x-2
overflow_add-x-2 c =
    add_add_fits c.from-x.result c.from-y.result c.from-z.result (wide c.x.result c.from-x.result c.x.type_inv c.from-x.ensures)
    (wide c.y.result c.from-y.result c.y.type_inv c.from-y.ensures) (wide c.z.result c.from-z.result c.z.type_inv c.from-z.ensures)

pub overflow_add-x-3 : goal.overflow_add-x-3
overflow_add-x-3 c =
    sum_fits c.from-x.result c.from-y.result (wide c.x.result c.from-x.result c.x.type_inv c.from-x.ensures)
    (wide c.y.result c.from-y.result c.y.type_inv c.from-y.ensures)

pub overflow_sub-x : goal.overflow_sub-x
overflow_sub-x c =
    add_sub_fits c.from-x.result c.from-y.result c.from-z.result (wide c.x.result c.from-x.result c.x.type_inv c.from-x.ensures)
    (wide c.y.result c.from-y.result c.y.type_inv c.from-y.ensures) (wide c.z.result c.from-z.result c.z.type_inv c.from-z.ensures)

pub overflow_sub-x-2 : goal.overflow_sub-x-2
overflow_sub-x-2 c =
    difference_fits c.from-x.result c.from-y.result (wide c.x.result c.from-x.result c.x.type_inv c.from-x.ensures)
    (wide c.y.result c.from-y.result c.y.type_inv c.from-y.ensures)

pub overflow_add-x-4 : goal.overflow_add-x-4
overflow_add-x-4 c =
    sub_add_fits c.from-x.result c.from-y.result c.from-z.result (wide c.x.result c.from-x.result c.x.type_inv c.from-x.ensures)
    (wide c.y.result c.from-y.result c.y.type_inv c.from-y.ensures) (wide c.z.result c.from-z.result c.z.type_inv c.from-z.ensures)

pub overflow_sub-x-3 : goal.overflow_sub-x-3
overflow_sub-x-3 c =
    difference_fits c.from-x.result c.from-y.result (wide c.x.result c.from-x.result c.x.type_inv c.from-x.ensures)
    (wide c.y.result c.from-y.result c.y.type_inv c.from-y.ensures)

pub overflow_sub-x-4 : goal.overflow_sub-x-4
overflow_sub-x-4 c =
    sub_sub_fits c.from-x.result c.from-y.result c.from-z.result (wide c.x.result c.from-x.result c.x.type_inv c.from-x.ensures)
    (wide c.y.result c.from-y.result c.y.type_inv c.from-y.ensures) (wide c.z.result c.from-z.result c.z.type_inv c.from-z.ensures)
