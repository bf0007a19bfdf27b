-- The buffers of a call, and the parts of them that belong to a set.
use Rattle.std.specs.Prelude.{◌≡◌, ◌≤◌, ◌+◌, ◌*◌, length}
use Rattle.qconvex_c.specs.declared.{buffers.Buffers.Buffers, sets.Set.Set}

-- the same buffers, with any contents
pub record AreSame (old new : Buffers) : Type 0 where
  pub extremes : new.extremes.ghost_name ≡ old.extremes.ghost_name
  pub offsets : new.offsets.ghost_name ≡ old.offsets.ghost_name
  pub corners : new.corners.ghost_name ≡ old.corners.ghost_name
  pub extremes_len : length new.extremes.now ≡ length old.extremes.now
  pub offsets_len : length new.offsets.now ≡ length old.offsets.now
  pub corners_len : length new.corners.now ≡ length old.corners.now

-- each buffer has room for the part of a set
pub record HaveParts (buffers : Buffers) (set : Set) : Type 0 where
  pub extremes : set.end ≤ length buffers.extremes.now
  pub offsets : 2 * set.end + 2 * (set.number + 1) ≤ length buffers.offsets.now
  pub corners : 6 * set.end + 4 * (set.number + 1) ≤ length buffers.corners.now
