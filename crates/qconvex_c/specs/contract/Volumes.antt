-- Six times the volume inside triangles, by their corners in one list.
use Rattle.std.specs.Int.{w128}
use Rattle.std.specs.Prelude.{ℕ, ℤ, pos, ◌+ℤ◌, FitsSigned, List, ◌∷◌}
use Rattle.qh_model.specs.headline.{Predicates.vol, Vector.Vector}

-- the sum of the determinants of the triangles' corners relative to an apex: six times the volume inside triangles that close up, above 0 if they are
-- counterclockwise seen from outside. Any textbook (the divergence theorem)
abbrev pub six_volumes : (ℕ → Vector) → Vector → List ℕ → ℤ
six_volumes at o (u ∷ v ∷ w ∷ r) = vol o (at u) (at v) (at w) +ℤ six_volumes at o r
six_volumes at o r = pos 0

-- a sum and all partial sums fit into 128 bits
abbrev pub PartialSumsFit : (ℕ → Vector) → Vector → ℤ → List ℕ → Type 0
PartialSumsFit at o s (u ∷ v ∷ w ∷ r) = FitsSigned w128 (s +ℤ vol o (at u) (at v) (at w))
    × PartialSumsFit at o (s +ℤ vol o (at u) (at v) (at w)) r
PartialSumsFit at o s r = Unit {0}
