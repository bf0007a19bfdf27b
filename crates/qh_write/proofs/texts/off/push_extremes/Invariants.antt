use Rattle.qh_model.proofs.Common.{◌≡◌, ◌++◌, take, decimal, flat_map, line}
use Rattle.qh_write.proofs.texts.off.push_extremes.Given as goal

abbrev pub invariant-loop-id : goal.invariant-loop-id
invariant-loop-id l = l.text.items ≡ l.initial.text.items ++ flat_map (λ i. line (decimal i)) (take l.id-index l.id-items)
