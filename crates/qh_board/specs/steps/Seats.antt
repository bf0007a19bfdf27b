-- The seats of tokens: their contents besides the record of the pass.
use Rattle.std.specs.Prelude.{◌≡◌, ℕ, ◌+◌, ◌*◌, ◌<◌, ◌≤◌, Bool, true, [], ◌∷◌, Option, Some, None}
use Rattle.atomic_table.specs.{Table.Me, Seated.TableId}
use Rattle.qh_board.specs.{contract.Tokens.Token, declared.view.Setup.Setup, declared.view.View.View, declared.view.Mark.Mark}
use Rattle.qh_board.specs.steps.Views.{HasRecord, HasEnded, kids, blocks_of, passes_of, record_of}
use Rattle.qh_model.specs.declared.limits.TheConstants.{BLOCK_LIMIT, WORKER_LIMIT}

module _ {S : Type 0} where
  -- the contract view of a seat at a table
  abbrev pub token_of : TableId → View S → Token S
  token_of table v = record { table = table; setup = v.setup; pass = record_of v }

  module _ {X : Type 0} where
    -- the seat of a pass that holds no node; if the pass is over, its last claim found all blocks claimed
    pub record IsFree (number : ℕ) (over : Bool) (me : Me (Option X) (View S)) : Type 0 where
      pub bare : me.1 ≡ []
      pub inside : number < passes_of me.0
      pub is : HasRecord me.0 number None over None
      pub claimed : over ≡ true → blocks_of me.0 < (record_of me.0).claims

    -- the seat of a pass that holds a node: its slot and those of its children are with the pass, and empty; if the pass is over, its last claim found all
    -- blocks claimed
    pub record IsHolding (number : ℕ) (over : Bool) (node : ℕ) (me : Me (Option X) (View S)) : Type 0 where
      pub bare : me.1 ≡ (node, None) ∷ kids (blocks_of me.0) node
      pub inside : number < passes_of me.0
      pub positive : 0 < node
      pub below : node < 2 * blocks_of me.0
      pub is : HasRecord me.0 number (Some node) over None
      pub claimed : over ≡ true → blocks_of me.0 < (record_of me.0).claims

    -- the seat of a pass that has ended
    pub record IsDone (number : ℕ) (over : Bool) (mark : Mark) (me : Me (Option X) (View S)) : Type 0 where
      pub bare : me.1 ≡ []
      pub inside : number < passes_of me.0
      pub is : HasEnded me.0 number over mark

  -- the table of a board with this setup: its words, its slots and its key
  pub record IsBoard (setup : Setup S) (table : TableId) (key : Setup S) : Type 0 where
    pub words : table.words ≡ setup.blocks + 1 + setup.passes
    pub slots : table.slots ≡ 2 * setup.blocks
    pub some_blocks : 0 < setup.blocks
    pub few_blocks : setup.blocks ≤ BLOCK_LIMIT
    pub some_passes : 0 < setup.passes
    pub few_passes : setup.passes ≤ WORKER_LIMIT
    pub keyed : key ≡ setup
