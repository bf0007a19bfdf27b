-- A body of one polygon: its extreme ids are the members of the polygon.
use Rattle.qh_model.proofs.Common.{◌≡◌, [], ◌∷◌, ⊎_elim, subst, In}
use Rattle.qh_block.proofs.bodies.flat_body.Goals as goal

pub invariant_of-result : goal.invariant_of-result
invariant_of-result c =
    let one : c.push.new.self.items ≡ c.args.polygon ∷ [] = cc (c.in_ok-push.ensures.items, c.new-polygons.ensures.items) in
    let found = c.in_ok-extremes.ensures in let members = rw c.ids.ensures at found.members in
    record { rising = found.rising; named = rw one (λ q m i h. ⊎_elim (λ e. (members i).1 (subst (In i) e h)) (λ n. absurd n) m) }

pub returns : goal.returns
returns c =
    let one : c.push.new.self.items ≡ c.args.polygon ∷ [] = cc (c.in_ok-push.ensures.items, c.new-polygons.ensures.items) in
    let found = c.in_ok-extremes.ensures in
    record {
      is = λ i. record { dim = c.args.dim; extremes = c.in_ok-extremes.extremes.items; polygons = one i; edges = c.args.edges };
      rising = found.rising;
      members = rw c.ids.ensures at found.members;
    }
