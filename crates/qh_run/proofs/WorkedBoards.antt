-- A board all of whose passes have left has all its blocks claimed.
use Rattle.qh_model.proofs.Common.{◌≡◌, ℕ, ◌<◌, ◌≤◌, List, [], ◌∷◌, length, arith, Some, All}
use Rattle.qh_board.specs.declared.view.Mark.TheVariants as marks
use Rattle.qh_board.specs.contract.Tokens.{BoardValue, Token}
use Rattle.qh_run.specs.steps.Turns.{IsWorked}

module _ {S : Type 0} where
  -- if there is a pass and all have left, the board has no fewer claims than blocks
  pub all_claimed : (b : BoardValue S) (ts : List (Token S)) (n : ℕ) → 0 < length ts → All (IsWorked b) ts → All (λ t. t.pass.claims ≤ n) ts
      → All (λ t. t.pass.mark ≡ Some marks.Left) ts → b.setup.blocks ≤ n
  all_claimed b [] n some worked seen left = absurd (omega arith)
  all_claimed b (t ∷ ts) n some worked seen left =
      let first : 0 < length (t ∷ ts) = some in
      let last = (worked 0 t first).claimed (left 0 t first) in
      let least = seen 0 t first in
      omega (arith, last, least)
