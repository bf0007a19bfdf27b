-- Laws of extreme ids: a member that is extreme, and the extremes of a union.
use Rattle.std.specs.Prelude.{ℕ, ◌≡◌, ◌<◌, ◌⊎◌, ◌↔◌, List, ◌<ℤ◌}
use Rattle.qh_model.specs.{contract.IdSets.HasDistinctPoints, headline.Vector.Vector, headline.Vector.dot, headline.Sets.Members}
use Rattle.qh_model.specs.headline.{Combination.Combination, Extreme.Others, Extreme.Extreme}

-- p is lower than q by (w . p, x, y, z), in lexicographic order
abbrev pub IsLower : Vector → Vector → Vector → Type 0
IsLower w p q = (dot w p <ℤ dot w q) ⊎ ((dot w p ≡ dot w q) × ((p.x <ℤ q.x) ⊎ ((p.x ≡ q.x) × ((p.y <ℤ q.y) ⊎ ((p.y ≡ q.y) × (p.z <ℤ q.z))))))

-- the union of the blocks 0 to n - 1
abbrev pub InBlocks : ℕ → (ℕ → ℕ → Type 0) → ℕ → Type 0
InBlocks n block i = (k : ℕ) × (k < n) × block k i

-- the member that is greatest along w is extreme; among equals, the coordinates decide
abbrev pub GreatestIsExtreme : Type 0
GreatestIsExtreme = (at : ℕ → Vector) (ids : List ℕ) (w : Vector) (e : ℕ) → Members ids e
    → ((j : ℕ) → Others (Members ids) e j → IsLower w (at j) (at e)) → Extreme at (Members ids) e

-- each member is a convex combination of the extreme ids
abbrev pub MembersAreCombinations : Type 0
MembersAreCombinations = (at : ℕ → Vector) (ids : List ℕ) → HasDistinctPoints at (Members ids)
    → (i : ℕ) → Members ids i → Combination at (Extreme at (Members ids)) (at i)

-- the extremes of a union are the extremes of the union of its blocks' extremes
abbrev pub UnionOfExtremes : Type 0
UnionOfExtremes = (at : ℕ → Vector) (n : ℕ) (block : ℕ → List ℕ) → HasDistinctPoints at (InBlocks n (λ k. Members (block k)))
    → (i : ℕ) → Extreme at (InBlocks n (λ k. Extreme at (Members (block k)))) i ↔ Extreme at (InBlocks n (λ k. Members (block k))) i
