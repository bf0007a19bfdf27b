-- The points of one more facet are orphans.
use Rattle.qh_model.proofs.Common.{◌∙◌, ap, List, [], ℕ, length, refl, take_all, length-set, get_or_read, take_more}
use Rattle.qh_surface.proofs.runs.SettledOrphans.{none_released, more_released}
use Rattle.qh_surface.proofs.quickhull.settling.release.Goals as goal

pub loop-facet-init : goal.loop-facet-init
loop-facet-init c = record { released = none_released c.args.sets.now; places = refl; positions = refl; listed_same = refl }

pub loop-facet-preserved : goal.loop-facet-preserved
loop-facet-preserved c =
    let i = c.loop-facet.facet-index in let gone = c.args.gone.now in let was = c.loop-facet.invariant in let e = c.release.ensures in
    let x = c.facet-item.result in let is = get_or_read gone i x c.loop-facet-test.true c.facet-item.is 0 in record {
      released = rw (take_more gone i 0 c.loop-facet-test.true, ← is) (more_released x was.released e.orphans e.sets);
      places = ap (λ (xs : List (List ℕ)). length xs) e.sets ∙ length-set c.loop-facet.sets.sets x [] ∙ was.places;
      positions = e.positions ∙ was.positions;
      listed_same = e.listed ∙ was.listed_same;
    }

pub returns-clause-released : goal.returns-clause-released
returns-clause-released c = rw (take_all c.loop-facet.facet-index c.args.gone.now c.loop-facet-test.false) at c.loop-facet.invariant.released
