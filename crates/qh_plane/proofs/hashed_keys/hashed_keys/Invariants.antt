use Rattle.qh_plane.specs.steps.HashedKeys.{AllHashes, AreKeysBelow}
use Rattle.qh_plane.proofs.hashed_keys.hashed_keys.Given as goal

abbrev pub invariant-loop-number : goal.invariant-loop-number
invariant-loop-number l = AreKeysBelow l.pts AllHashes l.number l.keys.items
