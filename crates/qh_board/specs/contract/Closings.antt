-- The contract view of a closed board.
-- Source: this project's own.
use Rattle.std.specs.Prelude.{if◌then◌else◌, ◌==◌, ℕ, ◌+◌, length, slice_index, count_by, List, Option}
use Rattle.std.specs.Slots.{slots_items}
use Rattle.qh_board.specs.declared.view.Setup.{Setup}
use Rattle.qh_board.specs.declared.view.Mark as ended
use Rattle.qh_board.specs.declared.view.Mark.TheVariants as marks
use Rattle.qh_board.specs.{contract.Tokens.Token, declared.closed.Closed.Closed, declared.view.Spans.Ghosts}

-- the mark that a word encodes
abbrev pub mark_of_word : ℕ → ended.Mark
mark_of_word n = if n == 1 then marks.Left else marks.GaveUp

module _ {S : Type 0} where
  -- the number of claims of a pass: one for each block that it got, and one that found all blocks claimed
  abbrev pub claims_made : Token S → ℕ
  claims_made t = length t.pass.got + (if t.pass.over then 1 else 0)

  -- the number of the tokens that belong to pass w
  abbrev pub tokens_of : ℕ → List (Token S) → ℕ
  tokens_of w ts = count_by (λ t. t.pass.number == w) ts

module _ {S X : Type 0} {g : Ghosts S X} where
  abbrev pub closed_setup : Closed S X g → Setup S
  closed_setup c = c.setup

  -- the number of claims
  abbrev pub closed_claims : Closed S X g → ℕ
  closed_claims c = c.claims

  -- the value of the root, if it was published
  abbrev pub closed_root : Closed S X g → Option X
  closed_root c = c.root

  -- how pass w ended
  abbrev pub closed_mark : Closed S X g → ℕ → ended.Mark
  closed_mark c w = mark_of_word (slice_index (slots_items c.table.words) (c.setup.blocks + 1 + w))
