-- The record of a pass: the effect of each step of the pass on it. A step is one event, the last of the record's events after it.
-- Source: this project's own.
use Rattle.std.specs.Prelude.{ℕ, ◌+◌, true, false, [], ◌∷◌, ◌++◌, Option, Some, None}
use Rattle.qh_board.specs.declared.view.{Event.Event, Mark.Mark}
use Rattle.qh_board.specs.declared.view.Event.TheVariants.{ClaimGot, ClaimOver, ArriveFirst, ArriveSecond, Publish, Leave, GiveUp}
use Rattle.qh_board.specs.declared.view.Mark.TheVariants as marks
use Rattle.qh_board.specs.declared.view.Record.{Record}

-- the node, or 0
abbrev pub node_or : Option ℕ → ℕ
node_or None = 0
node_or (Some i) = i

-- the record before the first step
abbrev pub fresh_record : ℕ → Record
fresh_record w = record { number = w; node = None; over = false; mark = None; claims = 0; arrivals = 0; got = []; joins = []; events = [] }

-- a claim that found j claims before it, fewer than there are blocks: the pass got block j, and holds its leaf
abbrev pub with_block : ℕ → ℕ → Record → Record
with_block blocks j r = record r { node = Some (blocks + j); claims = j + 1; got = r.got ++ j ∷ []; events = r.events ++ ClaimGot ∷ [] }

-- a claim that found n claims before it, no fewer than there are blocks
abbrev pub told_over : ℕ → Record → Record
told_over n r = record r { over = true; claims = n + 1; events = r.events ++ ClaimOver ∷ [] }

-- an arrival at a parent where no value was: the value waits, and the pass no longer holds a node
abbrev pub come_first : Record → Record
come_first r = record r { node = None; arrivals = 1; events = r.events ++ ArriveFirst (node_or r.node) ∷ [] }

-- an arrival at p after the sibling: the pass holds p
abbrev pub come_second : ℕ → Record → Record
come_second p r = record r { node = Some p; arrivals = 2; joins = r.joins ++ p ∷ []; events = r.events ++ ArriveSecond (node_or r.node) ∷ [] }

-- the root's value is published, and the pass no longer holds a node
abbrev pub without_node : Record → Record
without_node r = record r { node = None; events = r.events ++ Publish ∷ [] }

-- the event by which a pass with this node, if any, ends
abbrev pub ending_of : Mark → Option ℕ → Event
ending_of marks.Left holds = Leave
ending_of marks.GaveUp holds = GiveUp (node_or holds)

-- the pass has ended
abbrev pub ended_as : Mark → Record → Record
ended_as mark r = record r { mark = Some mark; events = r.events ++ ending_of mark r.node ∷ [] }
