use Rattle.qh_read.proofs.builder.Builder.push.Goals as goal
use Rattle.std.proofs.{Common.arith, Common.◌≡◌, Common.◌++◌, Common.[], Common.◌∷◌, lemmas.Grind.common_steps}
use Rattle.qh_read.proofs.NumberLaws.{coordinates-append}

pub returns-in-Two-clause-taken : goal.returns-in-Two-clause-taken
returns-in-Two-clause-taken c =
    let items : c.push_reserved.new.self.items ≡ c.args.self.now.points.items ++ c.new-point.result ∷ [] = grind (arith, common_steps) in
    rw (items, coordinates-append, c.in-Two.is) (grind (arith, common_steps))
