use Rattle.qh_model.proofs.Common.{◌≡◌, ◌++◌, take, flat_map, place, vertex_text}
use Rattle.qh_write.proofs.texts.off.push_vertices.Given as goal

abbrev pub invariant-loop-id : goal.invariant-loop-id
invariant-loop-id l = l.text.items ≡ l.initial.text.items ++ flat_map (λ i. vertex_text (place l.pts i)) (take l.id-index l.ids)
