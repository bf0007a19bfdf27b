-- Members of a list: a test that finds them, and those before and after a cut.
use Rattle.qh_model.proofs.Common.{◌≡◌, ℕ, ◌⊎◌, inl, inr, List, take, drop, subst, sym, true, eqb, eqb-true, take-append-drop, list_any, In}
use Rattle.qh_model.proofs.{Members.in_at, Members.of_contains, closed_surfaces.SignedVolume.eqb-refl, lists.Joined.in_append, lists.Joined.of_append}
use Rattle.std.proofs.lemmas.{List.Folds.list_any_at, Map.Views.Contains-from_any}

-- a test finds a member
pub any_in : (x : ℕ) (xs : List ℕ) → list_any (λ y. eqb y x) xs ≡ true → In x xs
any_in x xs e = of_contains xs x (Contains-from_any {eq = λ a b. eqb b a} (λ a b t. sym (eqb-true b a t)) x xs e)

-- and finds each
pub in_any : (x : ℕ) (xs : List ℕ) → In x xs → list_any (λ y. eqb y x) xs ≡ true
in_any x xs m = let r = in_at xs x m in list_any_at (λ y. eqb y x) xs r.0 0 r.1 (rw r.2 (eqb-refl x))

-- a member is before the cut or after it
pub in_either : {X : Type 0} (n : ℕ) (xs : List X) (x : X) → In x xs → In x (take n xs) ⊎ In x (drop n xs)
in_either n xs x m = of_append (take n xs) (drop n xs) x (subst (In x) (sym (take-append-drop n xs)) m)

-- an element before the cut is in the list
pub in_front : {X : Type 0} (n : ℕ) (xs : List X) (x : X) → In x (take n xs) → In x xs
in_front n xs x m = subst (In x) (take-append-drop n xs) (in_append (take n xs) (drop n xs) x (inl m))

-- so is an element after it
pub in_back : {X : Type 0} (n : ℕ) (xs : List X) (x : X) → In x (drop n xs) → In x xs
in_back n xs x m = subst (In x) (take-append-drop n xs) (in_append (take n xs) (drop n xs) x (inr m))
