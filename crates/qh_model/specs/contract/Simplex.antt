-- Choices by a number or by a side.
use Rattle.std.specs.Prelude.{ℕ, zero, suc}
use Rattle.qh_model.specs.contract.Surface.{Side, Side.first, Side.second, Side.third}

-- one of four, by number
abbrev pub one_of : {X : Type 0} → X → X → X → X → ℕ → X
one_of a b c d zero = a
one_of a b c d (suc zero) = b
one_of a b c d (suc (suc zero)) = c
one_of a b c d (suc (suc (suc n))) = d

-- one of three, by side
abbrev pub by_side : {X : Type 0} → X → X → X → Side → X
by_side a b c first = a
by_side a b c second = b
by_side a b c third = c
