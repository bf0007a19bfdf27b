-- Lists whose last element is removed.
use Rattle.std.proofs.Common.{inl, inr, refl, List, [], ◌∷◌, ◌++◌, All}
use Rattle.qh_model.proofs.{Members.All-In, Members.All-of, lists.Joined.in_append}

module _ {X : Type 0} (P : X → Type 0) (xs : List X) (x : X) (all : All P (xs ++ x ∷ [])) where
  -- a property of all elements holds for the last
  pub of_last : P x
  of_last = All-In P (xs ++ x ∷ []) x all (in_append xs (x ∷ []) x (inr (inl refl)))

  -- and for the others
  pub of_front : All P xs
  of_front = All-of P xs (λ y m. All-In P (xs ++ x ∷ []) y all (in_append xs (x ∷ []) y (inl m)))
