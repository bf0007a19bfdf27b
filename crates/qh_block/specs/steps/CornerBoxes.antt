-- Boxes between points of a set that lie furthest along the diagonals of space. This project's own.
use Rattle.std.specs.Prelude.{ℕ, List, true, false}
use Rattle.{qh_model.specs.headline.Vector.Vector, qh_block.specs.contract.CornerBoxes.IsOutward, qh_block.specs.contract.CornerBoxes.IsPointOf}
use Rattle.qh_block.specs.declared.regions.{bounds.Bounds.Bounds, corner_box.Diagonals.Diagonals}

-- two points of the set
abbrev pub AreEndsOf : List Vector → List ℕ → Vector → Vector → Type 0
AreEndsOf pts ids front back = IsPointOf pts ids front × IsPointOf pts ids back

-- the ends of four diagonals are points of the set
pub record HasEndsOf (pts : List Vector) (ids : List ℕ) (d : Diagonals) : Type 0 where
  pub up_up : AreEndsOf pts ids d.up_up.front d.up_up.back
  pub up_down : AreEndsOf pts ids d.up_down.front d.up_down.back
  pub down_up : AreEndsOf pts ids d.down_up.front d.down_up.back
  pub down_down : AreEndsOf pts ids d.down_down.front d.down_down.back

-- each end of a diagonal is in the octant of its corner
pub record AreOutward (d : Diagonals) (b : Bounds) : Type 0 where
  pub up_up : IsOutward true true true b d.up_up.front × IsOutward false false false b d.up_up.back
  pub up_down : IsOutward true true false b d.up_down.front × IsOutward false false true b d.up_down.back
  pub down_up : IsOutward true false true b d.down_up.front × IsOutward false true false b d.down_up.back
  pub down_down : IsOutward true false false b d.down_down.front × IsOutward false true true b d.down_down.back
