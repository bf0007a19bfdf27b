-- Members of outside sets after one of them is written.
use Rattle.std.proofs.Common.{◌≡◌, ℕ, ◌<◌, arith, refl, Bool, true, false, ◌⊎◌, inl, inr, List, [], ◌∷◌, ◌++◌, length, get_or, replicate, set, get_or-set_same}
use Rattle.{std.proofs.Common.get_or-set_other, qh_model.specs.headline.Sets.In, qh_surface.specs.contract.OutsideSets.joined}
use Rattle.std.proofs.lemmas.{Bool.cases_eq, Grind.common_steps, List.set_past, List.get_or_past}

-- a member after a write is a member of the written set, or was a member before
pub of_write : (xs : List (List ℕ)) (f : ℕ) (ys : List ℕ) (g q : ℕ)
    → In q (get_or (set xs f ys) g []) → ((g ≡ f) × In q ys) ⊎ In q (get_or xs g [])
of_write xs f ys g q i = grind (arith, common_steps, i, set_past xs f ys)

-- the members of other sets stay
pub write_keeps : (xs : List (List ℕ)) (f : ℕ) (ys : List ℕ) (g q : ℕ)
    → (g ≡ f → ⊥) → In q (get_or xs g []) → In q (get_or (set xs f ys) g [])
write_keeps xs f ys g q n i = rw (get_or-set_other xs f g ys [] n) i

-- a set is empty after an empty set was written
pub write_empty : (xs : List (List ℕ)) (f g : ℕ) → (g ≡ f) ⊎ (get_or xs g [] ≡ []) → get_or (set xs f []) g [] ≡ []
write_empty xs f g h = grind (arith, common_steps, h, set_past xs f [], get_or_past xs g [])

-- the members of a set after a position joined it
of_joined : (b : Bool) (p q : ℕ) (xs : List ℕ) → In q (joined b p xs) → (q ≡ p) ⊎ In q xs
of_joined b p q [] i = grind (arith, i)
of_joined true p q (x ∷ xs) i = grind (arith, i)
of_joined false p q (x ∷ xs) i = grind (arith, i)

joined_has : (b : Bool) (p q : ℕ) (xs : List ℕ) → (q ≡ p) ⊎ In q xs → In q (joined b p xs)
joined_has b p q [] i = i
joined_has true p q (x ∷ xs) i = i
joined_has false p q (x ∷ xs) i = grind (arith, i)

-- the front comes before all others
pub joined_front : (p : ℕ) (xs : List ℕ) → joined true p xs ≡ p ∷ xs
joined_front p [] = refl
joined_front p (x ∷ xs) = refl

-- after a position joined a set, its members are this position and the old ones
pub of_join : (xs : List (List ℕ)) (f : ℕ) (b : Bool) (p g q : ℕ)
    → In q (get_or (set xs f (joined b p (get_or xs f []))) g []) → ((g ≡ f) × (q ≡ p)) ⊎ In q (get_or xs g [])
of_join xs f b p g q i = elim (of_write xs f (joined b p (get_or xs f [])) g q i) [
  | inl h ↦ elim (of_joined b p q (get_or xs f []) h.1) [ inl e ↦ inl (h.0, e) | inr m ↦ inr (rw (h.0) m) ]
  | inr h ↦ inr h
]

pub join_has : (xs : List (List ℕ)) (f : ℕ) (b : Bool) (p : ℕ) → f < length xs → In p (get_or (set xs f (joined b p (get_or xs f []))) f [])
join_has xs f b p l = rw (get_or-set_same xs f (joined b p (get_or xs f [])) [] l) (joined_has b p p (get_or xs f []) (inl refl))

pub join_keeps : (xs : List (List ℕ)) (f : ℕ) (b : Bool) (p g q : ℕ) → f < length xs → In q (get_or xs g [])
    → In q (get_or (set xs f (joined b p (get_or xs f []))) g [])
join_keeps xs f b p g q l i = elim (cases_eq g f) [
  | inl e ↦ rw (e, get_or-set_same xs f (joined b p (get_or xs f [])) [] l) (joined_has b p q (get_or xs f []) (inr (rw e at i)))
  | inr n ↦ write_keeps xs f (joined b p (get_or xs f [])) g q n i
]

-- room for more sets changes no set
pub grown-set : (xs : List (List ℕ)) (n f : ℕ) → get_or (xs ++ replicate n []) f [] ≡ get_or xs f []
grown-set xs n f = grind (arith, common_steps)
