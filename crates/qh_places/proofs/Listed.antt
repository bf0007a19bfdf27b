-- A property of each element of a list so far, of one more, and of all.
use Rattle.qh_model.proofs.Common.{◌≡◌, ℕ, ◌+◌, ◌<◌, ◌≤◌, arith, sym, subst, List, length, get_or, slice_index, take, All, get_or-take, length-take, take_more}
use Rattle.qh_model.proofs.{Common.In, Members.all_and, Members.in_at}

-- the property of one more element
pub all_goes : {X : Type 0} (P : X → Type 0) (xs : List X) (k : ℕ) (x : X) → All P (take k xs) → k < length xs
    → x ≡ get_or xs k x → P x → All P (take (k + 1) xs)
all_goes P xs k x h l e p = subst (All P) (sym (take_more xs k x l)) (all_and P (take k xs) (get_or xs k x) h (subst P e p))

-- the property of all
pub all_ends : {X : Type 0} (P : X → Type 0) (xs : List X) (k : ℕ) → length xs ≤ k → All P (take k xs) → All P xs
all_ends P xs k l h i d m = subst P (get_or-take k xs i d (omega arith)) (h i d (subst (λ n. i < n) (sym (length-take k xs)) (omega arith)))

-- a property of the ids at all positions holds for all ids
pub each_listed : (P : ℕ → Type 0) (ids : List ℕ) (n : ℕ) → length ids ≤ n → ((k : ℕ) → k < n → P (slice_index ids k))
    → (l : ℕ) → In l ids → P l
each_listed P ids n long each l m = let (k, h, e) = in_at ids l m in subst P e (each k (omega (arith, h, long)))
