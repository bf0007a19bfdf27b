-- The chain of a list of ids in order: a stack that turns left at each id. Only private functions cite it.
-- Source: Andrew's monotone chain (1979), after Graham's scan.
use Rattle.std.specs.Prelude.{◌≡◌, ℕ, ℤ, List, [], ◌∷◌, Bool, true, false, cond, not, ◌&&◌, ◌↔◌}
use Rattle.std.specs.Ordering.{is_gt}
use Rattle.qh_model.specs.headline.{Predicates.place, Predicates.cross, Sets.In, Vector.Vector}
use Rattle.qh_pred.specs.contract.Turns.{sign, first_product}

-- the turn of three ids about a normal, computed from one component of the normal
abbrev pub turn_of : List Vector → Vector → ℕ → ℕ → ℕ → ℤ
turn_of pts n u v w = first_product n (cross (place pts u) (place pts v) (place pts w))

-- true if a turn is to the left
abbrev pub is_left : ℤ → Bool
is_left turn = is_gt (sign turn)

-- the stack with top t over s, top first, without the top ids at which the path to y does not turn left
abbrev pub kept_below : (ℕ → ℕ → ℕ → ℤ) → ℕ → ℕ → List ℕ → List ℕ
kept_below turn y t [] = t ∷ []
kept_below turn y t (r ∷ s) = cond (is_left (turn r t y)) (t ∷ r ∷ s) (kept_below turn y r s)

-- the same for any stack
abbrev pub kept : (ℕ → ℕ → ℕ → ℤ) → ℕ → List ℕ → List ℕ
kept turn y [] = []
kept turn y (t ∷ s) = kept_below turn y t s

-- true if the top is dropped before y
abbrev pub is_dropped : (ℕ → ℕ → ℕ → ℤ) → ℕ → List ℕ → Bool
is_dropped turn y [] = false
is_dropped turn y (t ∷ []) = false
is_dropped turn y (t ∷ r ∷ s) = not (is_left (turn r t y))

-- the stack after the list
abbrev pub chain : (ℕ → ℕ → ℕ → ℤ) → List ℕ → List ℕ → List ℕ
chain turn s [] = s
chain turn s (y ∷ ys) = chain turn (y ∷ kept turn y s) ys

-- the reversed list, followed by the rest
abbrev pub turned_onto : List ℕ → List ℕ → List ℕ
turned_onto [] rest = rest
turned_onto (x ∷ s) rest = turned_onto s (x ∷ rest)

-- the list without its first element
abbrev pub after_first : List ℕ → List ℕ
after_first [] = []
after_first (x ∷ xs) = xs

-- the cycle of two chains, there and back: each without its top, where the other begins
abbrev pub joined : List ℕ → List ℕ → List ℕ
joined there back = turned_onto (after_first there) (turned_onto (after_first back) [])

-- three ids in the order that turns left, beginning with the first
abbrev pub triangle : (ℕ → ℕ → ℕ → ℤ) → ℕ → ℕ → ℕ → List ℕ
triangle turn i j k = cond (is_left (turn i j k)) (i ∷ j ∷ k ∷ []) (i ∷ k ∷ j ∷ [])

-- true if the cycle of four ids turns left at each
abbrev pub goes_left : (ℕ → ℕ → ℕ → ℤ) → ℕ → ℕ → ℕ → ℕ → Bool
goes_left turn i j k l = is_left (turn i j k) && is_left (turn j k l) && is_left (turn k l i) && is_left (turn l i j)

-- q has the four ids in an order that turns left at each, beginning with the first
abbrev pub IsLeftCycle : (ℕ → ℕ → ℕ → ℤ) → ℕ → ℕ → ℕ → ℕ → List ℕ → Type 0
IsLeftCycle turn i j k l q = (a : ℕ) × (b : ℕ) × (c : ℕ) × (q ≡ i ∷ a ∷ b ∷ c ∷ []) × (goes_left turn i a b c ≡ true)
    × ((x : ℕ) → In x (j ∷ k ∷ l ∷ []) ↔ In x (a ∷ b ∷ c ∷ []))
