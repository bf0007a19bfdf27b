-- A list of length three is the list of its members; so a facet stores the half-edges across its sides as an array.
use Rattle.std.specs.Prelude.{ℕ, zero, suc, ◌≡◌, List, [], ◌∷◌, length, slice_index, refl}
use Rattle.std.proofs.Common.{sym, subst}

-- a number is three
abbrev IsThree : ℕ → Type 0
IsThree zero = ⊥
IsThree (suc zero) = ⊥
IsThree (suc (suc zero)) = ⊥
IsThree (suc (suc (suc zero))) = Unit
IsThree (suc (suc (suc (suc n)))) = ⊥

has_three : (ts : List ℕ) → length ts ≡ 3 → IsThree (length ts)
has_three ts h = subst IsThree (sym h) tt

pub three_are : (ts : List ℕ) → length ts ≡ 3 → slice_index ts 0 ∷ slice_index ts 1 ∷ slice_index ts 2 ∷ [] ≡ ts
three_are (x ∷ y ∷ z ∷ []) h = refl
three_are [] h = absurd (has_three [] h)
three_are (x ∷ []) h = absurd (has_three (x ∷ []) h)
three_are (x ∷ y ∷ []) h = absurd (has_three (x ∷ y ∷ []) h)
three_are (x ∷ y ∷ z ∷ w ∷ ts) h = absurd (has_three (x ∷ y ∷ z ∷ w ∷ ts) h)
