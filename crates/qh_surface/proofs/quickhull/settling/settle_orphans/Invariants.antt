-- Settled points stay settled, and each step leaves one orphan fewer.
use Rattle.qh_model.proofs.Common.{ℕ, All, ◌≡◌, ◌≤◌, List, length, StoredFacet, place}
use Rattle.qh_surface.specs.{contract.OutsideSets.listed, steps.Planes.ArePlanes, steps.Runs.IsSettling}
use Rattle.qh_mesh.specs.contract.Replacement.{IsLive}
use Rattle.qh_surface.proofs.quickhull.settling.settle_orphans.Given as goal

abbrev pub invariant-loop-orphan : goal.invariant-loop-orphan
invariant-loop-orphan l = record {
  places : length l.sets.sets ≡ length l.initial.sets.sets;
  positions : l.sets.positions ≡ l.initial.sets.positions;
  fewer : listed l.sets ≤ listed l.initial.sets;
  settled : (fs : List StoredFacet) (pending : List ℕ) → All (IsLive fs) l.made → ArePlanes (place l.points) fs l.planes
      → IsSettling l.points fs l.initial.sets pending l.made → IsSettling l.points fs l.sets pending l.made;
}

abbrev pub decreases-loop-orphan : goal.decreases-loop-orphan
decreases-loop-orphan l = length l.sets.orphans
