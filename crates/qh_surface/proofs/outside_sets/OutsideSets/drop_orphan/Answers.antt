-- The first orphan is removed.
use Rattle.std.proofs.Common.{arith, ap, refl, length-drop}
use Rattle.qh_surface.{specs.contract.OutsideSets.listed, proofs.Steps.value_after, proofs.Steps.kept_some, proofs.Steps.dropped}
use Rattle.qh_surface.proofs.outside_sets.OutsideSets.drop_orphan.Goals as goal

pub invariant_of-self : goal.invariant_of-self
invariant_of-self c = (_, _, dropped (kept_some c.self.invariant c.self.view_is c.requires) c.index.ensures)

pub returns : goal.returns
unfolding invariant_of-self
returns c =
    let e = value_after c.self.invariant c.self.view_is refl (invariant_of-self c).2 in
    let a = ap listed e in let l = length-drop 1 c.args.self.now.orphans in let m = c.requires in
    record { orphans = λ i. (e i).orphans; sets = λ i. (e i).sets; positions = λ i. (e i).positions; listed = omega arith }
