-- Laws of right values: the values of the nodes of a tree over the blocks, from the leaves to the root.
use Rattle.std.specs.Prelude.{ℕ, ◌≡◌, ◌+◌, ◌*◌, ◌↔◌, ◌⊎◌, ◌<◌, List, length}
use Rattle.qh_model.specs.contract.{IdSets.HasDistinctPoints, Cut.IsCut, Cut.block_count, Cut.positions, BoardMachine.InSpan}
use Rattle.qh_model.specs.{contract.RightValue.RightValue, contract.RightValue.block_ids, headline.Vector.Vector, headline.Predicates.place}
use Rattle.qh_model.specs.headline.{Sets.In, Sets.Members, Hull.AreExtremes, Hull.BodyValue, Hull.IsBody}

-- the extreme ids of a block are right for its leaf
abbrev pub RightOfLeaf : Type 0
RightOfLeaf = (pts : List Vector) (ids bounds : List ℕ) (k : ℕ) (xs : List ℕ) → k < block_count bounds
    → AreExtremes (place pts) (Members (block_ids ids bounds k)) xs → RightValue pts ids bounds (InSpan (block_count bounds) (block_count bounds + k)) xs

-- the extreme ids of values that are right for both children of a node are right for the node
abbrev pub RightOfNode : Type 0
RightOfNode = (pts : List Vector) (ids bounds : List ℕ) (i : ℕ) (xs ys zs vs : List ℕ)
    → HasDistinctPoints (place pts) (Members ids) → 0 < i → i < block_count bounds
    → RightValue pts ids bounds (InSpan (block_count bounds) (2 * i)) xs → RightValue pts ids bounds (InSpan (block_count bounds) (2 * i + 1)) ys
    → ((j : ℕ) → In j zs ↔ (In j xs ⊎ In j ys)) → AreExtremes (place pts) (Members zs) vs → RightValue pts ids bounds (InSpan (block_count bounds) i) vs

-- the hull of a value that is right for the root is that of all ids
abbrev pub HullOfRoot : Type 0
HullOfRoot = (pts : List Vector) (ids bounds xs : List ℕ) (b : BodyValue) → HasDistinctPoints (place pts) (Members ids)
    → IsCut bounds → positions bounds ≡ length ids
    → RightValue pts ids bounds (InSpan (block_count bounds) 1) xs → IsBody (place pts) (Members xs) b → IsBody (place pts) (Members ids) b
