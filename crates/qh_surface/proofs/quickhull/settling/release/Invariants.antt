-- The points of the facets so far are orphans.
use Rattle.std.proofs.Common.{◌≡◌, length, take}
use Rattle.qh_surface.specs.{contract.OutsideSets.listed, steps.Settling.AreReleased}
use Rattle.qh_surface.proofs.quickhull.settling.release.Given as goal

abbrev pub invariant-loop-facet : goal.invariant-loop-facet
invariant-loop-facet l = record {
  released : AreReleased l.initial.sets l.sets (take l.facet-index l.gone);
  places : length l.sets.sets ≡ length l.initial.sets.sets;
  positions : l.sets.positions ≡ l.initial.sets.positions;
  listed_same : listed l.sets ≡ listed l.initial.sets;
}
