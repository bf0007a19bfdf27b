-- The board as a machine: what passes may do to a combining tree of B blocks, in any order of their events.
-- Its nodes are 1 to 2 B - 1, the root is 1, the children of i are 2 i and 2 i + 1, and block j is the leaf B + j.
-- Source: this project's own.
use Rattle.std.specs.Prelude.{if◌then◌else◌, ◌≡◌, ◌≢◌, ◌==◌, ℕ, zero, suc, ◌+◌, ◌-◌, ◌/◌, ◌%◌, ◌<◌, ◌≤◌, Bool, true, false, List, [], ◌∷◌}

-- the state of a node: no pass has reached it; a pass holds it; it waits for its sibling; it was joined; it is the root and its value is published
pub data Place : Type 0 where
  untouched : Place
  held : (pass : ℕ) → Place
  parked : Place
  used : Place
  published : Place

-- how a pass ended
pub data Mark : Type 0 where
  none : Mark
  left : Mark
  gave_up : Mark

-- the number of claims; and for each pass true if it has learned that all blocks are claimed
pub record Machine : Type 0 where
  pub claims : ℕ
  pub node : ℕ → Place
  pub over : ℕ → Bool
  pub mark : ℕ → Mark

abbrev pub start : Machine
start = record { claims = 0; node = λ _. untouched; over = λ _. false; mark = λ _. none }

-- f with the value a at i
abbrev pub put : {A : Type 0} → (ℕ → A) → ℕ → A → ℕ → A
put f i a j = if j == i then a else f j

-- the parent of a node
abbrev pub parent : ℕ → ℕ
parent i = i / 2

-- the other child of its parent
abbrev pub sibling : ℕ → ℕ
sibling i = if i % 2 == 0 then i + 1 else i - 1

-- what a pass does: it claims, delivers a node, or ends
pub data Event : Type 0 where
  claim_got : (pass : ℕ) → Event
  claim_over : (pass : ℕ) → Event
  arrive_first : (pass node : ℕ) → Event
  arrive_second : (pass node : ℕ) → Event
  publish : (pass : ℕ) → Event
  leave : (pass : ℕ) → Event
  give_up : (pass node : ℕ) → Event

-- the pass holds no node
abbrev pub HoldsNothing : Machine → ℕ → Type 0
HoldsNothing m w = (i : ℕ) → m.node i ≢ held w

-- the pass is one of the W passes, and has not ended
abbrev pub Acts : ℕ → Machine → ℕ → Type 0
Acts W m w = (w < W) × (m.mark w ≡ none)

module _ (B W : ℕ) where
  -- the event is possible
  abbrev pub Can : Machine → Event → Type 0
  Can m (claim_got w) = Acts W m w × HoldsNothing m w × (m.over w ≡ false) × (m.claims < B)
  Can m (claim_over w) = Acts W m w × HoldsNothing m w × (m.over w ≡ false) × (B ≤ m.claims)
  Can m (arrive_first w i) = Acts W m w × (m.node i ≡ held w) × (i ≢ 1) × (m.node (sibling i) ≢ parked)
  Can m (arrive_second w i) = Acts W m w × (m.node i ≡ held w) × (i ≢ 1) × (m.node (sibling i) ≡ parked)
  Can m (publish w) = Acts W m w × (m.node 1 ≡ held w)
  Can m (leave w) = Acts W m w × HoldsNothing m w
  Can m (give_up w i) = Acts W m w × (m.node i ≡ held w)

  -- the state after the event
  abbrev pub after : Machine → Event → Machine
  after m (claim_got w) = record m { claims = m.claims + 1; node = put m.node (B + m.claims) (held w) }
  after m (claim_over w) = record m { claims = m.claims + 1; over = put m.over w true }
  after m (arrive_first w i) = record m { node = put m.node i parked }
  after m (arrive_second w i) = record m { node = put (put (put m.node i used) (sibling i) used) (parent i) (held w) }
  after m (publish w) = record m { node = put m.node 1 published }
  after m (leave w) = record m { mark = put m.mark w left }
  after m (give_up w i) = record m { mark = put m.mark w gave_up }

  -- the state after all events in order
  abbrev pub run : Machine → List Event → Machine
  run m [] = m
  run m (e ∷ es) = run (after m e) es

  -- each event is possible in the state before it
  abbrev pub CanRun : Machine → List Event → Type 0
  CanRun m [] = Unit {0}
  CanRun m (e ∷ es) = Can m e × CanRun (after m e) es

  -- events lead from the start to the state
  abbrev pub Reachable : Machine → Type 0
  Reachable m = (es : List Event) × CanRun start es × (run start es ≡ m)

-- 1 for a node that was delivered, otherwise 0
abbrev pub settled : Place → ℕ
settled untouched = 0
settled (held w) = 0
settled parked = 1
settled used = 1
settled published = 1

-- the node k steps above i
abbrev pub ancestor : ℕ → ℕ → ℕ
ancestor zero i = i
ancestor (suc k) i = parent (ancestor k i)

-- the span of node i has block j in a board with this number of blocks: the leaf of j is i or a descendant of i
abbrev pub InSpan : ℕ → ℕ → ℕ → Type 0
InSpan blocks i j = (j < blocks) × ((k : ℕ) × (ancestor k (blocks + j) ≡ i))

-- f 0 + .. + f (n - 1)
abbrev pub sum_to : (ℕ → ℕ) → ℕ → ℕ
sum_to f zero = 0
sum_to f (suc n) = sum_to f n + f n
