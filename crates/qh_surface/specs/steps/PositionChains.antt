-- The storage of outside sets: chains of positions over one list of links.
use Rattle.std.specs.Prelude.{◌≡◌, ℕ, zero, suc, ◌+◌, ◌<◌, ◌≤◌, List, [], ◌∷◌, length, map, cond, nat_eq, nat_lt, slice_index}
use Rattle.{std.specs.List.sum_by, qh_surface.specs.contract.OutsideSets.OutsideValue, qh_surface.specs.declared.outside_sets.Ends.Ends}

-- the number that is not a position
abbrev pub none : ℕ
none = 4294967295

-- the first n positions of the chain that begins at p: it ends at a number that is not a position
unfoldable pub chain_from : List ℕ → ℕ → ℕ → List ℕ
chain_from links zero p = []
chain_from links (suc n) p = cond (nat_lt p (length links)) (p ∷ chain_from links n (slice_index links p)) []

-- the value that links, ends and a first orphan represent
unfoldable pub value_of : List ℕ → List Ends → ℕ → OutsideValue
value_of links es orphan =
    record {
      positions = length links;
      orphans = chain_from links (length links) orphan;
      sets = map (λ e. chain_from links (length links) e.first) es;
    }

-- the list is the chain that begins at p
abbrev pub IsChain : List ℕ → ℕ → List ℕ → Type 0
IsChain links p [] = length links ≤ p
IsChain links p (x ∷ xs) = (p ≡ x) × (x < length links) × IsChain links (slice_index links x) xs

-- l is the last of the list, unless it is empty
abbrev pub IsLast : List ℕ → ℕ → Type 0
IsLast [] l = Unit {0}
IsLast (x ∷ []) l = l ≡ x
IsLast (x ∷ y ∷ ys) l = IsLast (y ∷ ys) l

-- the list is the chain between the ends
abbrev pub IsSet : List ℕ → Ends → List ℕ → Type 0
IsSet links e xs = IsChain links e.first xs × IsLast xs e.last

-- each list is the chain between its ends
pub data AreSets (links : List ℕ) : List Ends → List (List ℕ) → Type 0 where
  no_sets : AreSets links [] []
  one_more : {e : Ends} {es : List Ends} {xs : List ℕ} {xss : List (List ℕ)} → IsSet links e xs → AreSets links es xss
      → AreSets links (e ∷ es) (xs ∷ xss)

-- the number of times that x occurs in a list
abbrev pub count : ℕ → List ℕ → ℕ
count x [] = 0
count x (y ∷ ys) = cond (nat_eq x y) 1 0 + count x ys

-- links, ends and a first orphan store these orphans and sets: no position occurs in them twice
pub record IsKept (links : List ℕ) (es : List Ends) (orphan : ℕ) (orphans : List ℕ) (sets : List (List ℕ)) : Type 0 where
  pub small : length links ≤ none
  pub chain : IsChain links orphan orphans
  pub sets_are : AreSets links es sets
  pub once : (x : ℕ) → count x orphans + sum_by (count x) sets ≤ 1
  pub total : length orphans + sum_by length sets ≤ length links

-- links, ends and a first orphan store some orphans and sets
abbrev pub AreKept : List ℕ → List Ends → ℕ → Type 0
AreKept links es orphan = (orphans : List ℕ) × (sets : List (List ℕ)) × IsKept links es orphan orphans sets
