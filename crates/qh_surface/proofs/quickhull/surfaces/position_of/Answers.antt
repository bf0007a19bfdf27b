-- An id of a list has a position.
use Rattle.std.proofs.{Common.◌≡◌, Common.◌≢◌, Common.rules, Common.arith, lemmas.Iterator.IsFirst-from_position, lemmas.Iterator.YieldsList-from_slice}
use Rattle.qh_model.proofs.Members.{in_at}
use borrow.Author.Tests.{tests}
use Rattle.qh_surface.proofs.quickhull.surfaces.position_of.Goals as goal

pub unreachable-requires : goal.unreachable-requires
unreachable-requires c =
    let ids = c.args.ids.now in let id = c.args.id in let at = in_at ids id c.requires in
    let none = IsFirst-from_position _ _ c.position.result (λ x. x ≡ id) (λ x. x ≢ id) c.position.ensures.ran (YieldsList-from_slice ids cc)
    (λ x q k. search (rules, tests)) (λ x q k. search (rules, tests)) in
    (rw c.in_default.is at none) at.0 0 (omega arith) at.1 at.2
