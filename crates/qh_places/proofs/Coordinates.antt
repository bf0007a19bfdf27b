-- Coordinates that code reads from points and creates points from.
use Rattle.qh_model.proofs.Common.{◌≡◌, ◌∙◌, ◌<◌, ◌^◌, sym, subst, to_z-of_z, ℤ, pos, ◌<ℤ◌, ◌≤ℤ◌, mag, Width, w32, w128, hbits, to_z, of_z}
use Rattle.qh_pred.specs.contract.Ranges.{IsFarEnd}

-- code stores a number that fits unchanged
kept : (w : Width) (z : ℤ) → mag z < 2 ^ hbits w → to_z w (of_z w z) ≡ z
kept w z fits = to_z-of_z w z (record { sfits = fits })

-- a coordinate r, equal to the far end of a range
pub made_far : (a l h e x p q r : ℤ) → r ≡ to_z w32 (of_z w32 e) → mag e < 2 ^ hbits w32 → mag a < 2 ^ hbits w128
    → mag l < 2 ^ hbits w32 → mag h < 2 ^ hbits w32 → a ≡ x → l ≡ p → h ≡ q
    → IsFarEnd (to_z w128 (of_z w128 a)) (to_z w32 (of_z w32 l)) (to_z w32 (of_z w32 h)) e → IsFarEnd x p q r
made_far a l h e x p q r er fe fa fl fh ea el eh far = (
  λ up. er ∙ kept w32 e fe ∙ far.0 (subst (λ z. pos 0 <ℤ z) (sym (kept w128 a fa ∙ ea)) up) ∙ kept w32 h fh ∙ eh,
  λ down. er ∙ kept w32 e fe ∙ far.1 (subst (λ z. z ≤ℤ pos 0) (sym (kept w128 a fa ∙ ea)) down) ∙ kept w32 l fl ∙ el,
)
