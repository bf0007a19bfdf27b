-- Members of lists: by index, by the predicates of std, in lists of rising numbers, and facts about each member.
use Rattle.qh_model.proofs.Common.{◌∙◌, ℕ, zero, suc, ◌<◌, List, [], ◌∷◌, ◌++◌, length, add-one, arith, refl, sym, subst, inl, inr, All, get_or, ◌≡◌}
use Rattle.qh_model.proofs.Common.{IsPermutation, get_or_default, All-append, All-head, All-tail, All-from_recursion, Contains-permutation, In, Once}
use Rattle.std.specs.List.{AllByRecursion as Every, Contains, Sorted.IsStrictlyIncreasing}

-- a fact about each element holds for a member
pub All-In : {X : Type 0} (P : X → Type 0) (xs : List X) (x : X) → All P xs → In x xs → P x
All-In P [] x all h = absurd h
All-In P (y ∷ ys) x all (inl e) = subst P (sym e) (All-head P y ys all)
All-In P (y ∷ ys) x all (inr h) = All-In P ys x (All-tail P y ys all) h

-- a fact about the first element and about the rest holds for each member
pub each_more : {X : Type 0} (P : X → Type 0) (x : X) (xs : List X) → P x → ((y : X) → In y xs → P y) → (y : X) → In y (x ∷ xs) → P y
each_more = grind arith

-- a fact about three elements holds for each of them
pub each_of_three : {X : Type 0} (P : X → Type 0) (x y z : X) → P x → P y → P z → (l : X) → In l (x ∷ y ∷ z ∷ []) → P l
each_of_three P x y z p q r = each_more P x (y ∷ z ∷ []) p (each_more P y (z ∷ []) q (each_more P z [] r (λ l n. absurd n)))

-- the element at an index is a member
pub In-get_or : {X : Type 0} (xs : List X) (k : ℕ) (d : X) → k < length xs → In (get_or xs k d) xs
In-get_or [] k d h = absurd (omega arith)
In-get_or (x ∷ xs) zero d h = inl refl
In-get_or (x ∷ xs) (suc k) d h = inr (In-get_or xs k d (omega arith))

-- a member of the list satisfies the predicate of std
pub to_contains : {X : Type 0} (xs : List X) (x : X) → In x xs → Contains xs x
to_contains [] x m = absurd m
to_contains (y ∷ xs) x (inl e) = (0, omega arith, sym e)
to_contains (y ∷ xs) x (inr m) = let r = to_contains xs x m in let h = r.1 in (suc r.0, omega arith, r.2)

-- a member has an index
pub in_at : (xs : List ℕ) (x : ℕ) → In x xs → (k : ℕ) × (k < length xs) × (get_or xs k 0 ≡ x)
in_at xs x m = let r = to_contains xs x m in (r.0, r.1, get_or_default xs r.0 0 x r.1 ∙ r.2)

-- the converse
pub of_contains : {X : Type 0} (xs : List X) (x : X) → Contains xs x → In x xs
of_contains xs x c = subst (λ y. In y xs) c.2 (In-get_or xs c.0 x c.1)

-- a member of a list is a member of the same list in another order
pub in_permutation : {X : Type 0} (xs ys : List X) → IsPermutation xs ys → (x : X) → In x xs → In x ys
in_permutation xs ys p x m = of_contains ys x (Contains-permutation xs ys x p (to_contains xs x m))

-- the rest of a rising list rises
pub rising_tail : (x : ℕ) (xs : List ℕ) → IsStrictlyIncreasing (x ∷ xs) → IsStrictlyIncreasing xs
rising_tail x xs h k l = rw (add-one k) (rw (add-one (suc k)) at (h (suc k) (omega arith)))

-- the first element of a rising list is below the others
pub rising_first : (x : ℕ) (xs : List ℕ) → IsStrictlyIncreasing (x ∷ xs) → (y : ℕ) → In y xs → x < y
rising_first x [] h y i = absurd i
rising_first x (z ∷ zs) h y (inl e) = let next : x < z = h 0 (omega arith) in omega (arith, next, e)
rising_first x (z ∷ zs) h y (inr i) =
    let next : x < z = h 0 (omega arith) in let above : z < y = rising_first z zs (rising_tail x (z ∷ zs) h) y i in omega (arith, next, above)

-- each member of a rising list occurs once in it
pub rising_once : (xs : List ℕ) → IsStrictlyIncreasing xs → Once xs
rising_once [] h = tt
rising_once (x ∷ xs) h = (λ i. let below : x < x = rising_first x xs h x i in omega (arith, below), rising_once xs (rising_tail x xs h))

-- a fact about each member holds for the list, by recursion
pub every_of : {X : Type 0} (P : X → Type 0) (xs : List X) → ((x : X) → In x xs → P x) → Every P xs
every_of P [] f = tt
every_of P (x ∷ xs) f = (f x (inl refl), every_of P xs (λ y i. f y (inr i)))

-- the same with the predicate of std
pub All-of : {X : Type 0} (P : X → Type 0) (xs : List X) → ((x : X) → In x xs → P x) → All P xs
All-of P xs f = All-from_recursion P xs (every_of P xs f)

-- all members of an empty list satisfy any predicate
pub all_none : {X : Type 0} (P : X → Type 0) (xs : List X) → xs ≡ [] → All P xs
all_none P xs e = subst (All P) (sym e) (All-from_recursion P [] tt)

-- one more member at the end
pub all_and : {X : Type 0} (P : X → Type 0) (xs : List X) (x : X) → All P xs → P x → All P (xs ++ x ∷ [])
all_and P xs x h p = All-append P xs (x ∷ []) h (All-from_recursion P (x ∷ []) (p, tt))

-- a fact about a list by recursion holds for a member
pub every_at : {X : Type 0} (P : X → Type 0) (xs : List X) (x : X) → Every P xs → In x xs → P x
every_at P (y ∷ ys) x h (inl e) = subst P (sym e) h.0
every_at P (y ∷ ys) x h (inr m) = every_at P ys x h.1 m
every_at P [] x h m = absurd m

-- a consequence for each member, from a fact about each member
pub every_map : {X : Type 0} (P Q : X → Type 0) (xs : List X) → ((x : X) → P x → Q x) → Every P xs → Every Q xs
every_map P Q [] f h = tt
every_map P Q (x ∷ xs) f h = (f x h.0, every_map P Q xs f h.1)

-- the same, from two facts
pub every_zip : {X : Type 0} (P Q R : X → Type 0) (xs : List X) → ((x : X) → P x → Q x → R x) → Every P xs → Every Q xs → Every R xs
every_zip P Q R [] f h k = tt
every_zip P Q R (x ∷ xs) f h k = (f x h.0 k.0, every_zip P Q R xs f h.1 k.1)
