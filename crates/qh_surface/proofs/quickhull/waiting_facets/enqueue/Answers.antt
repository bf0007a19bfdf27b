-- A new facet is queued if it has an outside set.
use Rattle.qh_model.proofs.Common.{arith, inl, inr, take_all, get_or_read, take_more}
use Rattle.qh_surface.proofs.runs.WaitingFacets.{more_queued, more_idle}
use Rattle.qh_surface.proofs.quickhull.waiting_facets.enqueue.Goals as goal

pub loop-facet-preserved : goal.loop-facet-preserved
loop-facet-preserved c =
    let sets = c.args.sets.now in let old = c.reserve.new.self.items in let made = c.args.made.now in let i = c.loop-facet.facet-index in
    let x = c.facet-item.result in let test = c.loop-facet-test.true in let is = get_or_read made i x test c.facet-item.is 0 in
    record {
      queued = rw (take_more made i 0 test, ← is) (elim c.add.ensures.items [
        | inl e ↦ rw e (more_queued sets old _ _ x (rw is (c.requires i 0 test)) c.loop-facet.invariant.queued)
        | inr e ↦ rw e.0 (more_idle sets old _ _ x e.1 c.loop-facet.invariant.queued)
      ]);
      room = let l = c.add.ensures.len in let k = c.add.ensures.capacity in let r = c.loop-facet.invariant.room in omega arith;
    }

pub returns-clause-kept : goal.returns-clause-kept
returns-clause-kept c = rw c.reserve.ensures.items at c.loop-facet.invariant.queued.kept

pub returns-clause-made : goal.returns-clause-made
returns-clause-made c = (rw (take_all c.loop-facet.facet-index c.args.made.now c.loop-facet-test.false) at c.loop-facet.invariant.queued).added
