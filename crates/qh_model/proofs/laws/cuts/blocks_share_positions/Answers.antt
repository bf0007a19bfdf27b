use Rattle.qh_model.proofs.Cuts.{blocks_cover, blocks_are_apart, blocks_are_inside, blocks_are_not_empty}
use Rattle.qh_model.proofs.laws.cuts.blocks_share_positions.Goals as goal

pub returns : goal.returns
returns c = record { cover = blocks_cover; apart = blocks_are_apart; inside = blocks_are_inside; full = blocks_are_not_empty }
