-- Joined faces that close up are closed faces of the set.
use Rattle.std.proofs.Common.{◌≡◌, length, arith}
use Rattle.{qh_laws.proofs.Joined.closed_faces, qh_parts_join.proofs.JoinedLists.are_joined}
use Rattle.qh_parts_join.proofs.join.joined.body_of_joined.Goals as goal

pub returns : goal.returns
returns c = λ at ids kept distinct solid keeps closed each.
    let qs = c.args.polygons.items in
    let some = λ (e : length qs ≡ 0). absurd (omega (arith, e, c.len.ensures)) in
    let rising = rw c.deref.ensures.value at (c.are_in_order.ensures c.if-not-are_in_order.false) in
    c.body_of_faces.ensures at ids distinct solid
    (closed_faces at ids kept qs distinct keeps (are_joined at ids kept qs some each closed)) rising
