-- At the start each facet with a mark remains.
use Rattle.{std.proofs.Common.arith, std.proofs.Common.refl, std.proofs.Common.sym, qh_model.proofs.Members.in_at}
use Rattle.qh_surface.proofs.quickhull.walk.unmark.Goals as goal

pub loop-f-init : goal.loop-f-init
loop-f-init c = record { len = refl; left = λ g h. (let r = in_at c.args.found.now g (c.requires.only g h) in (r.0, omega arith, r.1, sym r.2)) }
