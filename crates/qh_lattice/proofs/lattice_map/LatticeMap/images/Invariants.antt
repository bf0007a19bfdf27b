-- The images so far are those of the points so far.
use Rattle.qh_model.proofs.Common.{ℕ, ◌≡◌, ◌<◌, length, place}
use Rattle.qh_lattice.specs.{contract.LatticeMaps.moved, steps.Rows.matrix_of, steps.Rows.shift_of}
use Rattle.qh_lattice.proofs.lattice_map.LatticeMap.images.Given as goal

abbrev pub invariant-loop-p : goal.invariant-loop-p
invariant-loop-p l = (length l.images.items ≡ l.p-index)
    × ((k : ℕ) → k < l.p-index → place l.images.items k
    ≡ moved (matrix_of l.self.first l.self.second l.self.third) (shift_of l.self.first l.self.second l.self.third) (place l.pts k))
