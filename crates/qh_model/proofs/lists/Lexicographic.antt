-- Lexicographic order of lists: rising lists of lists are ordered, so their members determine them.
use Rattle.qh_model.proofs.Common.{◌≡◌, ℕ, List, [], ◌∷◌, arith, sym, subst, ◌∙◌, inl, inr, ◌↔◌, ComesBefore, RisesFrom, RiseStrictly, In}
use Rattle.qh_model.proofs.lists.Ordered.{Ordered, IsAsymmetric, ordered_unique}

-- no two lists come before each other
pub before-asymmetric : IsAsymmetric ComesBefore
before-asymmetric [] [] h k = h
before-asymmetric [] (v ∷ q) h k = k
before-asymmetric (u ∷ p) [] h k = h
before-asymmetric (u ∷ p) (v ∷ q) (inl h) (inl k) = omega arith
before-asymmetric (u ∷ p) (v ∷ q) (inl h) (inr k) = let e = k.0 in omega arith
before-asymmetric (u ∷ p) (v ∷ q) (inr h) (inl k) = let e = h.0 in omega arith
before-asymmetric (u ∷ p) (v ∷ q) (inr h) (inr k) = before-asymmetric p q h.1 k.1

-- the order is transitive
before-transitive : (p q r : List ℕ) → ComesBefore p q → ComesBefore q r → ComesBefore p r
before-transitive p [] [] h k = absurd k
before-transitive p (v ∷ q) [] h k = absurd k
before-transitive [] q (w ∷ r) h k = tt
before-transitive (u ∷ p) [] (w ∷ r) h k = absurd h
before-transitive (u ∷ p) (v ∷ q) (w ∷ r) (inl h) (inl k) = inl (omega arith)
before-transitive (u ∷ p) (v ∷ q) (w ∷ r) (inl h) (inr k) = let e = k.0 in inl (omega arith)
before-transitive (u ∷ p) (v ∷ q) (w ∷ r) (inr h) (inl k) = let e = h.0 in inl (omega arith)
before-transitive (u ∷ p) (v ∷ q) (w ∷ r) (inr h) (inr k) = inr (h.0 ∙ k.0, before-transitive p q r h.1 k.1)

-- the first comes before all later ones
before-all : (q : List ℕ) (ps : List (List ℕ)) → RisesFrom q ps → (p : List ℕ) → In p ps → ComesBefore q p
before-all q [] h p i = absurd i
before-all q (r ∷ ps) h p (inl e) = subst (ComesBefore q) (sym e) h.0
before-all q (r ∷ ps) h p (inr i) = before-transitive q r p h.0 (before-all r ps h.1 p i)

-- a list that rises from q is ordered
rises-ordered : (q : List ℕ) (ps : List (List ℕ)) → RisesFrom q ps → Ordered ComesBefore (q ∷ ps)
rises-ordered q [] h = ((λ p i. absurd i), tt)
rises-ordered q (r ∷ ps) h = (before-all q (r ∷ ps) h, rises-ordered r ps h.1)

-- a rising list is ordered
pub rising-ordered : (qs : List (List ℕ)) → RiseStrictly qs → Ordered ComesBefore qs
rising-ordered = grind (arith, rises-ordered)

-- strictly rising lists of lists with the same members are equal
pub rising_unique : (ps qs : List (List ℕ)) → RiseStrictly ps → RiseStrictly qs → ((q : List ℕ) → In q ps ↔ In q qs) → ps ≡ qs
rising_unique ps qs f g h = ordered_unique ComesBefore before-asymmetric ps qs (rising-ordered ps f) (rising-ordered qs g) h
