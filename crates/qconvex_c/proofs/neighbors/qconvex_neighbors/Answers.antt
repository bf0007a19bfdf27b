-- The numbers of the sides are those of the two joins.
use Rattle.qh_model.proofs.Common.{◌<◌, length, arith, sym, subst, get_or_append_left, length-take-le}
use Rattle.qconvex_c.{specs.contract.Neighbors.IsNeighbor, specs.contract.Neighbors.sides_in, proofs.SideKeys.both_joined}
use Rattle.qconvex_c.proofs.neighbors.qconvex_neighbors.Goals as goal

pub returns-in-Ok-clause-done : goal.returns-in-Ok-clause-done
returns-in-Ok-clause-done c e s h =
    let corners = c.args.triangles.now in
    let up = rw c.deref.ensures.value at (rw c.deref-in-Ok.ensures.value at c.join.ensures) in
    let down = rw c.deref-in-Ok-2.ensures.value at (rw c.deref-in-Ok-3.ensures.value at c.join-in-Ok.ensures) in
    let found = both_joined corners (omega arith) (c.are_corners.ensures.0 c.if-not-are_corners.false) _ _ c.in-Ok.ensures.up c.in-Ok.ensures.down
    _ _ _ up down s h in
    let one = c.join.auto.neighbors in let two = c.join-in-Ok.auto.neighbors in
    let within : s < length c.join-in-Ok.new.neighbors = omega (arith, length-take-le (sides_in corners) c.args.neighbors.now (omega arith), one, two, h) in
    subst (IsNeighbor corners s) (sym (get_or_append_left c.join-in-Ok.new.neighbors _ 0 s within)) found
