-- Room for more sets.
use Rattle.qh_model.proofs.Common.{◌≡◌, ◌-◌, ◌++◌, [], length, arith, rules, ap, sym, refl, ◌∙◌, replicate, append-nil, common_steps}
use Rattle.qh_surface.specs.contract.OutsideSets.{listed}
use Rattle.qh_surface.proofs.{Steps.kept, Steps.places_are, Steps.value_after, NewSets.room_kept, NewSets.room_sum}
use Rattle.qh_surface.proofs.outside_sets.OutsideSets.make_room.Goals as goal

pub invariant_of-self : goal.invariant_of-self
invariant_of-self c =
    let h = c.if-len-places.true in
    (_, _, room_kept _ _ (kept c.self.invariant c.self.view_is) (omega (arith, c.self.inside.ends.ok)) c.in_ok-resize.ensures.items)

pub returns-in_ok-resize : goal.returns-in_ok-resize
unfolding invariant_of-self
returns-in_ok-resize c =
    let e = value_after c.self.invariant c.self.view_is refl (invariant_of-self c).2 in let sets = c.args.self.now.sets in
    let q : c.self.inside.ends.len ≡ length sets = omega (arith, c.self.inside.ends.ok, places_are c.self.invariant c.self.view_is) in
    let s = (λ i. (e i).sets) ∙ ap (λ n. sets ++ replicate (c.args.places - n) []) q in
    record {
      sets = s;
      places = rw s (grind (arith, common_steps));
      orphans = λ i. (e i).orphans;
      positions = λ i. (e i).positions;
      listed = omega (arith, ap listed e, room_sum length refl sets (c.args.places - c.self.inside.ends.len));
      memory = search rules;
    }

-- without more places there are no more sets
pub returns-else-len-places-clause-sets : goal.returns-else-len-places-clause-sets
returns-else-len-places-clause-sets c =
    let none : 0 ≡ c.args.places - length c.args.self.now.sets =
    omega (arith, c.self.inside.ends.ok, places_are c.self.invariant c.self.view_is) in
    rw (← none) (sym (append-nil c.args.self.now.sets))
