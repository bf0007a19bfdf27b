-- The results of the calls of passes: the record of the pass after its step, depending on what the step found.
-- Source: this project's own.
use Rattle.std.specs.Prelude.{◌≡◌, ℕ, ◌+◌, ◌*◌, ◌/◌, ◌<◌, ◌≤◌, All}
use Rattle.qh_board.specs.contract.Records.{with_block, told_over, come_first, come_second, without_node, ended_as}
use Rattle.qh_board.specs.contract.Tokens.{BoardValue, Token, IsOf, IsRightAt, task_node}
use Rattle.qh_board.specs.declared.calls.{Claim.Claim, Delivered.Delivered, Claim.TheVariants.Block, Claim.TheVariants.Over}
use Rattle.qh_board.specs.declared.{calls.Delivered.TheVariants.Parked, calls.Delivered.TheVariants.Both, calls.Delivered.TheVariants.Root, view.Mark.Mark}

module _ {S : Type 0} where
  -- the claim found j claims, fewer than there are blocks, so that block j belongs to this pass; its last claim was before, and the blocks that it got are
  -- below
  pub record GotBlock (b : BoardValue S) (pass task : Token S) : Type 0 where
    pub j : ℕ
    pub unclaimed : j < b.setup.blocks
    pub later : pass.pass.claims ≤ j
    pub above : All (λ x. x < j) pass.pass.got
    pub mine : IsOf b task
    pub done : task.pass ≡ with_block b.setup.blocks j pass.pass

  -- the claim found n claims, no fewer than there are blocks, so that all blocks are claimed
  pub record ToldOver (b : BoardValue S) (pass after : Token S) : Type 0 where
    pub n : ℕ
    pub full : b.setup.blocks ≤ n
    pub mine : IsOf b after
    pub done : after.pass ≡ told_over n pass.pass

  -- the arrival was the first at the parent
  pub record CameFirst (b : BoardValue S) (task after : Token S) : Type 0 where
    pub inner : 1 < task_node task
    pub mine : IsOf b after
    pub done : after.pass ≡ come_first task.pass

  -- the task was that of the root
  pub record CameOut (b : BoardValue S) (task after : Token S) : Type 0 where
    pub root : task_node task ≡ 1
    pub mine : IsOf b after
    pub done : after.pass ≡ without_node task.pass

  -- the arrival came after the sibling's: the values of the parent's children, each right for its node, the own value unchanged
  pub record CameSecond {X : Type 0} (right : S → (ℕ → Type 0) → X → Type 0) (b : BoardValue S) (task : Token S)
      (value : X) (after : Token S) (even odd : X) : Type 0 where
    pub inner : 1 < task_node task
    pub mine : IsOf b after
    pub done : after.pass ≡ come_second (task_node task / 2) task.pass
    pub even_right : IsRightAt right b (2 * (task_node task / 2)) even
    pub odd_right : IsRightAt right b (2 * (task_node task / 2) + 1) odd
    pub own_even : task_node task ≡ 2 * (task_node task / 2) → even ≡ value
    pub own_odd : task_node task ≡ 2 * (task_node task / 2) + 1 → odd ≡ value

  -- the pass has ended with this mark
  pub record Ended (b : BoardValue S) (mark : Mark) (token after : Token S) : Type 0 where
    pub mine : IsOf b after
    pub done : after.pass ≡ ended_as mark token.pass

module _ {S X : Type 0} where
  -- the task of a block, or the pass, if all blocks are claimed
  abbrev pub Claimed : BoardValue S → Token S → Claim S X → Type 0
  Claimed b pass (Block task) = GotBlock b pass task
  Claimed b pass (Over after) = ToldOver b pass after

  -- the pass, whose value waits; the parent's task with the values of both children, the even one's first; or the pass, whose value is the root's
  abbrev pub Delivers : (S → (ℕ → Type 0) → X → Type 0) → BoardValue S → Token S → X → Delivered S X → Type 0
  Delivers right b task value (Parked after) = CameFirst b task after
  Delivers right b task value (Both after even odd) = CameSecond right b task value after even odd
  Delivers right b task value (Root after) = CameOut b task after
