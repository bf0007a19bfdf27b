-- Coordinates that are accepted, and those of points.
use Rattle.qh_model.proofs.Common.{◌≡◌, ◌∙◌, ◌++◌, [], ◌∷◌, ℕ, List, true, false, ap, arith, suc, refl, append_assoc, nat_tests, ℤ, Some, IsCoordinate}
use Rattle.qh_model.proofs.Common.{is_coordinate, coordinates, Vector}
use Rattle.qh_read.specs.{contract.Progress.Progress, contract.Progress.after, contract.Progress.wants, declared.builder.Trailing.Trailing}

-- a coordinate in range is accepted
takes : (trailing : Trailing) (left : ℕ) (t : List ℤ) (z : ℤ) (n : ℕ) → IsCoordinate z
    → after (wants trailing (suc left) t) false (Some z) n ≡ wants trailing left (t ++ z ∷ [])
takes trailing left t z n h = let in_range : is_coordinate z ≡ true = grind (arith, nat_tests) in cc

-- three coordinates in range
pub three : (trailing : Trailing) (left : ℕ) (t : List ℤ) (x y z : ℤ) (i j k : ℕ) → IsCoordinate x → IsCoordinate y → IsCoordinate z
    → after (after (after (wants trailing (suc (suc (suc left))) t) false (Some x) i) false (Some y) j) false (Some z) k
    ≡ wants trailing left (t ++ x ∷ y ∷ z ∷ [])
three trailing left t x y z i j k p q r =
    ap (λ (s : Progress). after (after s false (Some y) j) false (Some z) k) (takes trailing (suc (suc left)) t x i p)
    ∙ ap (λ (s : Progress). after s false (Some z) k) (takes trailing (suc left) (t ++ x ∷ []) y j q) ∙ takes trailing left ((t ++ x ∷ []) ++ y ∷ []) z k r
    ∙ ap (wants trailing left) (ap (λ (u : List ℤ). u ++ z ∷ []) (append_assoc t (x ∷ []) (y ∷ [])) ∙ append_assoc t (x ∷ y ∷ []) (z ∷ []))

pub coordinates-append : (ps qs : List Vector) → coordinates (ps ++ qs) ≡ coordinates ps ++ coordinates qs
coordinates-append [] qs = refl
coordinates-append (p ∷ ps) qs = ap (λ (t : List ℤ). p.x ∷ p.y ∷ p.z ∷ t) (coordinates-append ps qs)
