-- The point is not above one more facet.
use Rattle.std.proofs.{Common.take_all, Common.pos, Common.◌≤ℤ◌, lemmas.List.get_or_read, lemmas.List.Elements.All-more}
use Rattle.{qh_model.proofs.Members.In-get_or, qh_model.proofs.algebra.Signs.at_most_zero, qh_pred.specs.contract.Planes.height}
use Rattle.qh_surface.specs.steps.Planes.{no_plane, plane_at}
use Rattle.qh_surface.proofs.quickhull.settling.first_below.Goals as goal

pub loop-at-preserved : goal.loop-at-preserved
loop-at-preserved c =
    let made = c.args.made.now in let i = c.loop-at.at in let test = c.loop-at-test.true in let read = c.index-planes-index in
    let item = get_or_read made i c.index-made-at.result test c.index-made-at.is 0 in
    let is = get_or_read c.args.planes.now _ read.result (c.requires i 0 test) (rw (c.index.ensures, item) at read.is) no_plane in
    All-more (λ f. height (plane_at c.args.planes.now f) c.args.point ≤ℤ pos 0) made i 0 test c.loop-at.invariant
    (rw (← is) (at_most_zero _ (λ h. let b = c.if-sees.ensures.1 h in cc)))

pub returns-then-sees-clause-named : goal.returns-then-sees-clause-named
returns-then-sees-clause-named c = rw (c.index-made-at.is) (In-get_or c.args.made.now c.loop-at.at _ c.loop-at-test.true)

pub returns-clause-none : goal.returns-clause-none
returns-clause-none c = rw (take_all c.loop-at.at c.args.made.now c.loop-at-test.false) at c.loop-at.invariant
