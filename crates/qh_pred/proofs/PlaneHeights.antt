-- The height of a point, as the code of a plane computes it in 128 bits.
use Rattle.qh_model.proofs.Common.{FitsSigned, IsTrue, Vector, ap, arith, cross, dot, lt_z, pos, rules, sym, to_z-of_z, unsigned_abs, vol, w128, ℤ, ◌-ℤ◌, ◌<ℤ◌}
use Rattle.qh_model.proofs.{Common.◌↔◌, Common.◌∙◌, Common.◌≡◌, Common.◌≤◌, algebra.VectorIdentities.vol-linear}
use Rattle.qh_pred.proofs.Bounds.{fits, fits_wide, through, through_half}
use Rattle.qh_pred.specs.contract.{Bounds.IsNormal, Planes.PlaneValue, Planes.height}
use Rattle.qh_pred.specs.steps.{Differences.offset_limit, StoredPlanes.IsPlane}

-- the code of a height, from the product r of the normal and the point
pub record HeightFits (inside plane : PlaneValue) (p : Vector) (r : ℤ) : Type 0 where
  pub fits : FitsSigned w128 (through r -ℤ through inside.offset)
  pub value : through (through r -ℤ through inside.offset) ≡ height plane p
  pub sees : IsTrue (lt_z (through inside.offset) (through r)) ↔ (pos 0 <ℤ height plane p)

-- a height fits 128 bits; `inside` is the plane as it is stored
pub height_fits : (inside plane : PlaneValue) (p : Vector) (r : ℤ) → IsPlane inside → inside ≡ plane
    → r ≡ dot plane.normal p → unsigned_abs r ≤ offset_limit → HeightFits inside plane p r
height_fits = search rules

-- the plane of a triangle has the triangle's volumes as heights
height_is_vol : (a b c n : Vector) (o : ℤ) → n ≡ cross a b c → o ≡ dot n a → (p : Vector) → dot n p -ℤ o ≡ vol a b c p
height_is_vol a b c n o e f p = ap (λ v. dot n p -ℤ v) f ∙ ap (λ (v : Vector). dot v p -ℤ dot v a) e ∙ sym (vol-linear a b c p)

-- 64 bits hold the normal
pub stored_height : (a b c n m : Vector) (x y z o : ℤ) → n ≡ cross a b c → m ≡ a → IsNormal n → x ≡ n.x → y ≡ n.y
    → z ≡ n.z → o ≡ dot n m → unsigned_abs o ≤ offset_limit
    → (p : Vector) → height (record { normal = record { x = through_half x; y = through_half y; z = through_half z }; offset = through o }) p ≡ vol a b c p
stored_height = grind (arith, fits, fits_wide, to_z-of_z, height_is_vol)
