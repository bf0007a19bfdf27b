-- The union of two right values: its ids are in the list, and it is not empty.
use Rattle.qh_model.proofs.Common.{ℕ, ◌<◌, ◌⊎◌, ◌↔◌, inl, inr, List, length, get_or, arith, RightValue, Vector, In}
use Rattle.qh_model.proofs.{Members.In-get_or, Members.in_at, hulls.RightValues.right_within}

-- an id of the union is in the list
pub union_within : (pts : List Vector) (ids bounds : List ℕ) (J K : ℕ → Type 0) (xs ys both : List ℕ)
    → RightValue pts ids bounds J xs → RightValue pts ids bounds K ys
    → ((i : ℕ) → In i both ↔ (In i xs ⊎ In i ys)) → (i : ℕ) → In i both → In i ids
union_within pts ids bounds J K xs ys both x y union i m = by_cases ((union i).0 m)
  where
    by_cases : In i xs ⊎ In i ys → In i ids
    by_cases (inl h) = right_within pts ids bounds J xs x i h
    by_cases (inr h) = right_within pts ids bounds K ys y i h

-- a list that has the ids of a list that is not empty is not empty
pub some_within : (xs ys : List ℕ) → 0 < length xs → ((i : ℕ) → In i xs → In i ys) → 0 < length ys
some_within xs ys h within = let p = in_at ys (get_or xs 0 0) (within (get_or xs 0 0) (In-get_or xs 0 0 h)) in let l = p.1 in omega (arith, l)
