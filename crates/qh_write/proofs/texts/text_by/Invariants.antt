use Rattle.qh_model.proofs.Common.{◌≡◌, take, flat_map, output_text}
use Rattle.qh_write.specs.contract.Pieces.{bytes_in}
use Rattle.qh_write.proofs.texts.text_by.Given as goal

abbrev pub invariant-loop-out : goal.invariant-loop-out
invariant-loop-out g l = bytes_in l.text ≡ flat_map (output_text l.hull l.pts) (take l.out-index l.outs)
