use Rattle.qh_laws.proofs.Between.{within_is_below, between_is_below, middle_is_inner, between_four_is_below, below_is_combination}
use Rattle.qh_laws.proofs.seam.within_is_settled.Goals as goal

pub returns : goal.returns
returns c = record {
  below = within_is_below;
  member = between_is_below;
  inner = middle_is_inner;
  middle = between_four_is_below;
  combination = below_is_combination;
}
