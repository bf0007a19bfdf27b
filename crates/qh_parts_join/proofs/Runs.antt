-- A list that is processed in pieces.
use Rattle.qh_model.proofs.Common.{◌≡◌, ℕ, ◌≤◌, ◌⊎◌, inl, inr, List, [], ◌∷◌, length, take, drop, All, sym, subst, arith, In}
use Rattle.qh_model.proofs.Members.{All-In, All-of}
use Rattle.qh_places.proofs.ListMembers.{in_either, in_front, in_back}

-- the remaining items are in the list, and P holds for the others
pub record AreLeft {X : Type 0} (P : X → Type 0) (ids left : List X) : Type 0 where
  pub inside : (l : X) → In l left → In l ids
  pub done : (l : X) → In l ids → In l left ⊎ P l

-- at the start all items remain
pub left_at_start : {X : Type 0} (P : X → Type 0) (ids : List X) → AreLeft P ids ids
left_at_start P ids = record { inside = λ l i. i; done = λ l i. inl i }

module _ {X : Type 0} (P : X → Type 0) (ids left front back : List X) (n : ℕ) (a : AreLeft P ids left)
    (is_front : front ≡ take n left) (is_back : back ≡ drop n left) where
  -- the next piece
  pub front_inside : (l : X) → In l front → In l ids
  front_inside l i = a.inside l (in_front n left l (subst (In l) is_front i))

  -- P holds for the next piece
  pub left_behind : ((l : X) → In l front → P l) → AreLeft P ids back
  left_behind own = record {
    inside = λ l i. a.inside l (in_back n left l (subst (In l) is_back i));
    done = λ l i. elim (a.done l i) [
      | inr p ↦ inr p
      | inl m ↦ elim (in_either n left l m) [ inl f ↦ inr (own l (subst (In l) (sym is_front) f)) | inr b ↦ inl (subst (In l) (sym is_back) b) ]
    ];
  }

-- at the end no item remains
pub all_done : {X : Type 0} (P : X → Type 0) (ids left : List X) → AreLeft P ids left → length left ≤ 0 → (l : X) → In l ids → P l
all_done {X} P ids left a short l i = elim (a.done l i) [ inl m ↦ absurd (none left short m) | inr p ↦ p ]
  where
    none : (xs : List X) → length xs ≤ 0 → In l xs → ⊥
    none [] h m = m
    none (x ∷ xs) h m = absurd (omega (arith, h))

-- a fact about all items of a part of a list
pub all_of_part : (P : ℕ → Type 0) (ids own : List ℕ) → All P ids → ((l : ℕ) → In l own → In l ids) → All P own
all_of_part P ids own all inside = All-of P own (λ l i. All-In P ids l all (inside l i))
