use Rattle.qh_lattice.proofs.{Identities.moved_volume, Images.moved_volume_sign, Images.moved_line, Images.moved_turn}
use Rattle.qh_lattice.proofs.laws.map_keeps_signs.Goals as goal

pub returns : goal.returns
returns c = record { volume = moved_volume; sign = moved_volume_sign; line = moved_line; turn = moved_turn }
