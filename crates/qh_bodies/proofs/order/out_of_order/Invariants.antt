-- Each polygon so far comes before the next.
use Rattle.qh_model.proofs.Common.{ℕ, ◌+◌, ◌<◌, [], get_or, ComesBefore}
use Rattle.qh_bodies.proofs.order.out_of_order.Given as goal

abbrev pub invariant-loop-next : goal.invariant-loop-next
invariant-loop-next l =
    (n : ℕ) → n + 1 < l.next → ComesBefore (get_or l.polygons n []) (get_or l.polygons (n + 1) [])
