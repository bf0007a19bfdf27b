-- A test of whether a value is absent, from the facts that hold with and without the value.
use Rattle.std.proofs.Common.{◌≡◌, ◌↔◌, Bool, not, Option, is_some, MatchOption, IsTrue, arith}

-- the test is true exactly if R holds, given that R holds if the value is absent, and does not hold if there is one
pub is_none_tells : {A P R : Type 0} {Q : A → Type 0} (o : Option A) (absent : Bool) → is_some o ≡ not absent → MatchOption o P Q
    → (P → R) → ((x : A) → Q x → R → ⊥) → IsTrue absent ↔ R
is_none_tells = grind arith
