-- Finite sets, as the members of a list.
use Rattle.std.specs.Prelude.{ℕ, ◌≡◌, ◌⊎◌, ◌≤◌, List, [], ◌∷◌}

-- x is a member of the list
abbrev pub In : {X : Type 0} → X → List X → Type 0
In x [] = ⊥
In x (y ∷ ys) = (x ≡ y) ⊎ In x ys

-- the set of the members of a list of ids
abbrev pub Members : List ℕ → ℕ → Type 0
Members ids i = In i ids

-- each member occurs once in the list
abbrev pub Once : {X : Type 0} → List X → Type 0
Once [] = Unit {0}
Once (x ∷ xs) = (¬ (In x xs)) × Once xs

-- the first is the least
abbrev pub BeginsWithLeast : List ℕ → Type 0
BeginsWithLeast [] = Unit {0}
BeginsWithLeast (u ∷ us) = (v : ℕ) → In v us → u ≤ v
