-- All positions are orphans.
use Rattle.std.proofs.{Common.◌∙◌, Common.arith, Common.ap, lemmas.List.FromFn.length-range_with_len}
use Rattle.qh_surface.{specs.contract.OutsideSets.listed, proofs.Steps.value_is, proofs.NewSets.new_kept}
use Rattle.qh_surface.proofs.outside_sets.OutsideSets.new.Goals as goal

pub invariant_of-result : goal.invariant_of-result
invariant_of-result c =
    let l = c.in_ok-links.ensures in
    (_, _, new_kept _ _ c.args.positions c.new.ensures.items l.len (let f = c.ranges.positions in omega arith) l.next)

pub returns : goal.returns
unfolding invariant_of-result
returns c =
    let e = value_is (invariant_of-result c).2 in
    let n = (λ i. (e i).positions) ∙ c.in_ok-links.ensures.len in let l = length-range_with_len 0 c.args.positions in
    record { positions = n; orphans = λ i. (e i).orphans; sets = λ i. (e i).sets; listed = omega (arith, ap listed e) }
