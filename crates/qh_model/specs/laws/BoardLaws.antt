-- Laws of the board, over every list of events.
use Rattle.std.specs.Prelude.{◌≡◌, ◌≢◌, ◌↔◌, ◌⊎◌, ℕ, ◌+◌, ◌-◌, ◌*◌, ◌<◌, ◌≤◌, List, ◌++◌, length}
use Rattle.qh_model.specs.contract.BoardMachine.{Machine, held, untouched, used, published, left, gave_up, Event, start, run, CanRun, Reachable, InSpan}

-- no pass holds two nodes; the type of a state ensures that no two passes hold one node
abbrev pub SingleHolder : Type 0
SingleHolder = (B W : ℕ) → 0 < B → (m : Machine) → Reachable B W m
    → (w i j : ℕ) → m.node i ≡ held w → m.node j ≡ held w → i ≡ j

-- if a node is held at two moments, the same pass holds it at both and at each moment between: no node is held a second time
abbrev pub HeldOnce : Type 0
HeldOnce = (B W : ℕ) → 0 < B → (m : Machine) → Reachable B W m → (es fs : List Event) → CanRun B W m (es ++ fs)
    → (i w v : ℕ) → m.node i ≡ held w → (run B W m (es ++ fs)).node i ≡ held v → ((run B W m es).node i ≡ held w) × (v ≡ w)

-- an inner node is reached only after both its children were delivered, and then both are used
abbrev pub ChildrenFirst : Type 0
ChildrenFirst = (B W : ℕ) → 0 < B → (m : Machine) → Reachable B W m
    → (i : ℕ) → 0 < i → i < B → m.node i ≢ untouched → (m.node (2 * i) ≡ used) × (m.node (2 * i + 1) ≡ used)

-- the root is published exactly if all blocks are claimed and no pass holds a node
abbrev pub RootAtTheEnd : Type 0
RootAtTheEnd = (B W : ℕ) → 0 < B → (m : Machine) → Reachable B W m
    → (m.node 1 ≡ published) ↔ ((B ≤ m.claims) × ((i w : ℕ) → m.node i ≢ held w))

-- the root is published if all blocks are claimed and every pass has left without giving up
abbrev pub RootWhereAllLeft : Type 0
RootWhereAllLeft = (B W : ℕ) → 0 < B → (m : Machine) → Reachable B W m
    → B ≤ m.claims → ((w : ℕ) → w < W → m.mark w ≡ left) → m.node 1 ≡ published

-- the root is not published if a pass gave up
abbrev pub NoRootWhereGivenUp : Type 0
NoRootWhereGivenUp = (B W : ℕ) → 0 < B → (m : Machine) → Reachable B W m
    → (w : ℕ) → m.mark w ≡ gave_up → m.node 1 ≢ published

-- the greatest number of events
abbrev pub StepBound : Type 0
StepBound = (B W : ℕ) → 0 < B → (es : List Event) → CanRun B W start es → length es ≤ 3 * B + 2 * W - 1

-- the span of a leaf is its block
abbrev pub SpanOfLeaf : Type 0
SpanOfLeaf = (B i j : ℕ) → i < B → InSpan B (B + i) j ↔ (j ≡ i)

-- the span of an inner node is that of its children
abbrev pub SpanOfNode : Type 0
SpanOfNode = (B i j : ℕ) → 0 < i → i < B → InSpan B i j ↔ (InSpan B (2 * i) j ⊎ InSpan B (2 * i + 1) j)

-- the spans of two siblings have no block in common
abbrev pub SpansApart : Type 0
SpansApart = (B i j : ℕ) → 0 < i → InSpan B (2 * i) j → ¬ (InSpan B (2 * i + 1) j)

-- the span of the root is all blocks
abbrev pub SpanOfRoot : Type 0
SpanOfRoot = (B j : ℕ) → InSpan B 1 j ↔ (j < B)
