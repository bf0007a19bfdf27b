-- One more orphan is settled.
use Rattle.{std.proofs.Common.◌∙◌, std.proofs.Common.arith, qh_surface.proofs.runs.SettledOrphans.one_settled}
use Rattle.qh_surface.proofs.quickhull.settling.settle_orphans.Goals as goal

pub loop-orphan-preserved : goal.loop-orphan-preserved
loop-orphan-preserved c =
    let i = c.loop-orphan.invariant in let e = c.settle_orphan.ensures in record {
      places = e.places ∙ i.places;
      positions = e.positions ∙ i.positions;
      fewer = omega (arith, e.listed, i.fewer);
      settled = λ fs pending live planes k.
          one_settled live planes (rw i.places c.requires.places) c.in-Some.ensures.first e.settled (i.settled fs pending live planes k);
    }
