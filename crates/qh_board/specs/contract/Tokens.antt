-- The contract view of a board and of the tokens of its passes.
-- Source: this project's own.
use Rattle.std.specs.Prelude.{◌≡◌, ℕ, ◌<◌, List, length, slice_index_or, Option, Some}
use Rattle.atomic_table.specs.Seated.{TableId}
use Rattle.qh_model.specs.contract.BoardMachine.{InSpan}
use Rattle.qh_board.specs.{contract.Records.fresh_record, contract.Records.node_or, declared.view.Setup.Setup, declared.view.Record.Record}

-- a board: its table, and the parameters with which it was made
pub record BoardValue (S : Type 0) : Type 0 where
  pub table : TableId
  pub setup : Setup S

-- a token, a Pass, a Task or a Left: the table and the parameters of its board, and the record of its pass
pub record Token (S : Type 0) : Type 0 where
  pub table : TableId
  pub setup : Option (Setup S)
  pub pass : Record

module _ {S : Type 0} where
  -- the token belongs to the board
  pub record IsOf (b : BoardValue S) (t : Token S) : Type 0 where
    pub table : t.table ≡ b.table
    pub setup : t.setup ≡ Some b.setup

  -- the last claim of the token's pass found all blocks of the board claimed; the record counts that claim too
  abbrev pub FoundAllClaimed : Token S → Type 0
  FoundAllClaimed t = (b : BoardValue S) → IsOf b t → b.setup.blocks < t.pass.claims

  -- the node that a task holds
  abbrev pub task_node : Token S → ℕ
  task_node t = node_or t.pass.node

  -- the passes of a new board: each has the number of its position, and has made no step yet
  abbrev pub AreFresh : List (Token S) → Type 0
  AreFresh ts = (k : ℕ) (d : Token S) → k < length ts → (slice_index_or ts k d).pass ≡ fresh_record k

  -- the value is right for the span of node i
  abbrev pub IsRightAt : {X : Type 0} → (S → (ℕ → Type 0) → X → Type 0) → BoardValue S → ℕ → X → Type 0
  IsRightAt right b i value = right b.setup.spans (InSpan b.setup.blocks i) value
