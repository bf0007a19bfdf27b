-- A walk goes over one facet after the other.
use Rattle.qh_model.proofs.Common.{rules, ◌∙◌, ◌<◌, [], length, arith, subst, get_or_read}
use Rattle.qh_surface.{specs.contract.Walks.IsCrossed, proofs.WalkSteps.facets_fit, proofs.WalkSteps.further_trans, proofs.WalkSteps.crossed_more}
use Rattle.qh_surface.proofs.walk.walk.Goals as goal

pub loop-next-smaller : goal.loop-next-smaller
loop-next-smaller g c =
    let h = facets_fit c.args.mesh.now c.loop-next.found.items c.loop-next.invariant.walk.facets in
    let t : c.loop-next.next < length c.loop-next.found.items = search rules in
    omega arith

pub loop-next-preserved : goal.loop-next-preserved
loop-next-preserved g c =
    let P = g.T.FacetPredicate.Passes c.args.test.now c.args.mesh.now in let fs = c.args.mesh.now in
    let old = c.loop-next in let us = old.found.items in let vs = c.cross_all.new.found.items in let after = c.cross_all.new.marks in
    let step = c.in_ok-cross_all.ensures in let more = step.further.longer in let some = old.invariant.some in
    let h : old.next < length us = search rules in
    record {
      walk = step.walk;
      further = further_trans c.args.marks.now old.marks after [] us vs old.invariant.further step.further;
      some = omega (arith, more, some);
      start = step.further.same 0 some ∙ old.invariant.start;
      crossed = crossed_more old.marks after us vs step.further P fs old.next h old.invariant.crossed
          (subst (IsCrossed P fs after) (get_or_read us old.next c.index.result.now h c.index.ensures 0) step.crossed);
      next = omega (arith, more, h);
    }
