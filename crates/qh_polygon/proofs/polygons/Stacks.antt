-- The steps of the code of a chain, in terms of std.
use Rattle.std.proofs.Common.{◌≡◌, ℕ, refl, List, [], ◌∷◌, ◌++◌, arith, ap, sym, ◌∙◌, reverse, take, length, ◌-◌}
use Rattle.std.proofs.lemmas.List.{reverse-append, reverse-reverse, append_assoc, append-nil, length-reverse, take_at}
use Rattle.qh_polygon.specs.steps.Chains.{turned_onto, after_first, joined}

-- reversing onto a list, in terms of std
pub turned_onto-is : (s acc : List ℕ) → turned_onto s acc ≡ reverse s ++ acc
turned_onto-is [] acc = refl
turned_onto-is (x ∷ s) acc = turned_onto-is s (x ∷ acc) ∙ sym (append_assoc (reverse s) (x ∷ []) acc) ∙ ap (λ t. t ++ acc) (sym (reverse-append (x ∷ []) s))

-- a reversed list lacks its last element if the list lacks its first
front-of : (r acc : List ℕ) → turned_onto (after_first r) acc ≡ take (length (reverse r) - 1) (reverse r) ++ acc
front-of [] acc = refl
front-of (v ∷ s) acc =
    let e : reverse (v ∷ s) ≡ reverse s ++ v ∷ [] = reverse-append (v ∷ []) s in
    let l : length (reverse (v ∷ s)) - 1 ≡ length (reverse s) = simp (length-reverse) (omega arith) in
    turned_onto-is s acc
    ∙ ap (λ t. t ++ acc) (sym (ap (λ t. take t (reverse (v ∷ s))) l ∙ ap (take (length (reverse s))) e
    ∙ take_at (reverse s) (v ∷ []) (length (reverse s)) refl))

-- the same for a list that was reversed
pub front : (xs acc : List ℕ) → turned_onto (after_first (reverse xs)) acc ≡ take (length xs - 1) xs ++ acc
front xs acc = front-of (reverse xs) acc ∙ ap (λ t. take (length t - 1) t ++ acc) (reverse-reverse xs)

-- the cycle of two chains, in terms of std
pub fronts : (xs ys : List ℕ) → joined (reverse xs) (reverse ys) ≡ take (length xs - 1) xs ++ take (length ys - 1) ys
fronts = grind (arith, front, append-nil)

-- reversing a list, in terms of std
pub reverse-turned_onto : (s : List ℕ) → reverse s ≡ turned_onto s []
reverse-turned_onto s = sym (turned_onto-is s [] ∙ append-nil (reverse s))
