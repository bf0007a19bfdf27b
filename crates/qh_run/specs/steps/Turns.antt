-- A pass's turn at a block: the result of a delivery, and the end of the turn.
-- Source: this project's own.
use Rattle.std.specs.Prelude.{◌≡◌, ℕ, ◌+◌, ◌*◌, ◌<◌, true, Some}
use Rattle.qh_board.specs.declared.view.Mark.TheVariants as marks
use Rattle.qh_board.specs.contract.Tokens.{BoardValue, Token, IsOf, IsRightAt, task_node}
use Rattle.qh_board.specs.declared.calls.Delivered.{Delivered, TheVariants.Parked, TheVariants.Both, TheVariants.Root}
use Rattle.qh_board.specs.declared.view.Record.{Record}
use Rattle.qh_run.specs.declared.worker.TurnEnd.{TurnEnd, TheVariants.Ended, TheVariants.GaveUp}

-- the record belongs to the same pass, which has claimed nothing since
pub record SinceClaim (r r' : Record) : Type 0 where
  pub number : r'.number ≡ r.number
  pub over : r'.over ≡ r.over
  pub claims : r'.claims ≡ r.claims

module _ {S X : Type 0} where
  -- the record of the pass in the result
  abbrev pub answered : Delivered S X → Record
  answered (Parked p) = p.pass
  answered (Root p) = p.pass
  answered (Both t x y) = t.pass

  -- the node from which to continue, or 0 if there is none
  abbrev pub answered_node : Delivered S X → ℕ
  answered_node (Parked p) = 0
  answered_node (Root p) = 0
  answered_node (Both t x y) = task_node t

  -- the pass belongs to the board; so does the task, at an inner node, with values that are right for its children
  abbrev pub IsAnswerOf : (S → (ℕ → Type 0) → X → Type 0) → BoardValue S → Delivered S X → Type 0
  IsAnswerOf right b (Parked p) = IsOf b p
  IsAnswerOf right b (Root p) = IsOf b p
  IsAnswerOf right b (Both t x y) = IsOf b t × (0 < task_node t) × (task_node t < b.setup.blocks)
      × IsRightAt right b (2 * task_node t) x × IsRightAt right b (2 * task_node t + 1) y

  -- the pass may claim again, or it gave up
  abbrev pub IsTurnOf : BoardValue S → Record → TurnEnd S X → Type 0
  IsTurnOf b r (Ended p) = IsOf b p × SinceClaim r p.pass
  IsTurnOf b r (GaveUp l) = IsOf b l × (l.pass.number ≡ r.number) × (l.pass.mark ≡ Some marks.GaveUp)

module _ {S : Type 0} where
  -- the board's pass has ended; if it left, its last claim found all blocks claimed
  pub record IsWorked (b : BoardValue S) (l : Token S) : Type 0 where
    pub mine : IsOf b l
    pub over : l.pass.mark ≡ Some marks.Left → l.pass.over ≡ true
    pub claimed : l.pass.mark ≡ Some marks.Left → b.setup.blocks < l.pass.claims
