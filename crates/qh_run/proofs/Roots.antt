-- A value that is right for all blocks of a cut has the hull of all ids.
use Rattle.qh_model.proofs.Common.{ℕ, ◌≡◌, List, length, InSpan, IsCut, block_count, positions, HasDistinctPoints, RightValue, Vector, place, Members}
use Rattle.qh_model.proofs.hulls.RightValues.{hull_of_root, right_within}
use Rattle.qh_run.specs.steps.Parts.{StandsFor}

pub root_stands : (pts : List Vector) (ids bounds found : List ℕ) → HasDistinctPoints (place pts) (Members ids) → IsCut bounds
    → positions bounds ≡ length ids → RightValue pts ids bounds (InSpan (block_count bounds) 1) found → StandsFor pts ids found
root_stands pts ids bounds found distinct cut whole right = record {
  rising = right.rising;
  within = right_within pts ids bounds (InSpan (block_count bounds) 1) found right;
  hull = λ b h. hull_of_root pts ids bounds found b distinct cut whole right h;
}
