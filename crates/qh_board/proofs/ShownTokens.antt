-- The contract view of a token of a board and its seat.
use Rattle.qh_model.proofs.Common.{◌≡◌, ℕ, Bool, false, ap, sym, ◌∙◌, subst, Option, Some, InSpan, arith}
use Rattle.atomic_table.specs.Seated.{TableId}
use Rattle.qh_board.specs.{contract.Records.node_or, declared.view.Mark.Mark, declared.view.Setup.Setup, steps.Views.HasRecord, steps.Views.record_of}
use Rattle.qh_board.specs.contract.Tokens.{BoardValue, Token, IsOf, IsRightAt, task_node}
use Rattle.qh_board.specs.{declared.view.View.View, steps.Seats.token_of}

-- a board of this table and setup
abbrev pub board_of : {S : Type 0} → TableId → Setup S → BoardValue S
board_of table setup = record { table = table; setup = setup }

-- the seat of a token of a board is at its table, and its view has the setup
pub at_board : {S : Type 0} (b : BoardValue S) (t : Token S) (id table : TableId) (v : View S) (setup : Setup S)
    → token_of id v ≡ t → board_of table setup ≡ b → IsOf b t → (id ≡ table) × (v.setup ≡ Some setup)
at_board = grind arith

-- a seat at the board's table whose view has its setup belongs to the board
pub is_of : {S : Type 0} (b : BoardValue S) (id table : TableId) (v : View S) (setup : Setup S)
    → board_of table setup ≡ b → id ≡ table → v.setup ≡ Some setup → IsOf b (token_of id v)
is_of {S} b id table v setup is at of = record { table = at ∙ ap (λ (x : BoardValue S). x.table) is; setup = of ∙ ap (λ (x : BoardValue S). Some x.setup) is }

module _ {S : Type 0} (t : Token S) (id : TableId) (v : View S) (shown : token_of id v ≡ t) where
  -- the record of a token is that of its view
  pub shown_record : record_of v ≡ t.pass
  shown_record = ap (λ (x : Token S). x.pass) shown

  -- a pass whose claims all found a block is not over
  pub not_over : (number : ℕ) (node : Option ℕ) (over : Bool) (mark : Option Mark) → HasRecord v number node over mark → t.pass.over ≡ false → over ≡ false
  not_over number node over mark has going = sym (ap (λ (x : View S). (record_of x).over) has) ∙ (ap (λ (x : Token S). x.pass.over) shown ∙ going)

  -- the node of a task is the one that it holds
  pub shown_node : (number node : ℕ) (over : Bool) (mark : Option Mark) → HasRecord v number (Some node) over mark → task_node t ≡ node
  shown_node number node over mark has = ap task_node (sym shown) ∙ ap (λ (x : View S). node_or (record_of x).node) has

module _ {S X : Type 0} (right : S → (ℕ → Type 0) → X → Type 0) (b : BoardValue S) (table : TableId) (setup : Setup S) (is : board_of table setup ≡ b) where
  -- a value is right at a node according to the board's setup
  pub right_inside : (i node : ℕ) (value : X) → i ≡ node → IsRightAt right b i value → right setup.spans (InSpan setup.blocks node) value
  right_inside i node value same h = subst (λ (x : BoardValue S). IsRightAt right x node value) (sym is) (subst (λ (k : ℕ). IsRightAt right b k value) same h)

  -- and so it is according to the board
  pub right_outside : (i node : ℕ) (value : X) → i ≡ node → right setup.spans (InSpan setup.blocks node) value → IsRightAt right b i value
  right_outside i node value same h = subst (λ (k : ℕ). IsRightAt right b k value) (sym same) (subst (λ (x : BoardValue S). IsRightAt right x node value) is h)
