-- Each supporting plane of a set is spanned by extreme ids.
use Rattle.qh_model.proofs.Common.{◌≡◌, ℕ, sym, ◌∙◌, ◌⊎◌, inl, inr, pos, ◌*ℤ◌, HasTriangle, Extreme, cross, vol, AreInLine, Members, IsSupportingTriple, arith}
use Rattle.qh_model.proofs.Common.{Supports, OnPlane, Vector, IsAlong, SpannedByExtremes}
use Rattle.qh_model.specs.laws.FaceLaws.{PlanesOfExtremes}
use Rattle.qh_model.proofs.{algebra.Order.zero_or_not, extremes.Dimensions.triangle_of, extremes.Faces.extremes_of_face}
use Rattle.qh_model.proofs.algebra.VectorIdentities.{vol-first, vol-second, vol-third}
use Rattle.qh_model.proofs.extremes.Directions.{at_most_along, zero_along, normal_along, in_line-flip, from_plane, vol_along}
use Rattle.qh_model.proofs.extremes.ExtremeIds.{listed_itself, listed_part, combination_of_extremes}

-- a triangle of extremes in the plane, with its direction, spans it
spanned : (at : ℕ → Vector) (A : ℕ → Type 0) (i j k : ℕ) → Supports at A i j k → (u v w : ℕ) → Extreme at A u → Extreme at A v → Extreme at A w
    → vol (at i) (at j) (at k) (at u) ≡ pos 0 → ¬ (AreInLine (at u) (at v) (at w)) → IsAlong (cross (at i) (at j) (at k)) (cross (at u) (at v) (at w))
    → SpannedByExtremes at A i j k
spanned at A i j k s u v w hu hv hw z n h = record {
  u = u;
  v = v;
  w = w;
  has_u = hu;
  has_v = hv;
  has_w = hw;
  area = n;
  along = h;
  supports = λ l q. at_most_along h.s h.t _ _ h.some_s h.some_t (scale l) (s l q);
  same = λ l. (λ e. zero_along h.s h.t _ _ h.some_t (scale l) e, λ e. zero_along h.t h.s _ _ h.some_s (sym (scale l)) e);
}
  where
    scale : (l : ℕ) → pos h.s *ℤ vol (at i) (at j) (at k) (at l) ≡ pos h.t *ℤ vol (at u) (at v) (at w) (at l)
    scale l = vol_along (at i) (at j) (at k) (at u) (at v) (at w) (at l) h z

-- in one order or the reversed one
either_way : (at : ℕ → Vector) (A : ℕ → Type 0) (i j k : ℕ) → Supports at A i j k → (u v w : ℕ) → Extreme at A u → Extreme at A v → Extreme at A w
    → vol (at i) (at j) (at k) (at u) ≡ pos 0 → ¬ (AreInLine (at u) (at v) (at w))
    → IsAlong (cross (at i) (at j) (at k)) (cross (at u) (at v) (at w)) ⊎ IsAlong (cross (at i) (at j) (at k)) (cross (at u) (at w) (at v))
    → SpannedByExtremes at A i j k
either_way at A i j k s u v w hu hv hw z n (inl h) = spanned at A i j k s u v w hu hv hw z n h
either_way at A i j k s u v w hu hv hw z n (inr h) = spanned at A i j k s u w v hu hw hv z (λ q. n (in_line-flip (at u) (at v) (at w) q)) h

-- a supporting triple is a triangle of its plane
pub own_triangle : (at : ℕ → Vector) (A : ℕ → Type 0) (i j k : ℕ) → IsSupportingTriple at A i j k → HasTriangle at (OnPlane at A i j k)
own_triangle = grind (arith, vol-first, vol-second, vol-third)

-- proof of the law `PlanesOfExtremes`
pub planes_of_extremes : PlanesOfExtremes
planes_of_extremes at ids d i j k t =
    let (ys, q) = listed_part (Members ids) (λ l. vol (at i) (at j) (at k) (at l) ≡ pos 0)
    (λ l. zero_or_not (vol (at i) (at j) (at k) (at l))) ids (listed_itself ids) in
    done (triangle_of at F (Extreme at F) (λ l f. combination_of_extremes at F ys q (λ x y fx fy e. d x y fx.0 fy.0 e) l f)
    (own_triangle at (Members ids) i j k t))
  where
    F : ℕ → Type 0
    F = OnPlane at (Members ids) i j k

    done : HasTriangle at (Extreme at F) → SpannedByExtremes at (Members ids) i j k
    done h = either_way at (Members ids) i j k t.supports h.i h.j h.k (up h.i h.has_i) (up h.j h.has_j) (up h.k h.has_k) h.has_i.0.1 h.area
        (normal_along (cross (at i) (at j) (at k)) (at h.i) (at h.j) (at h.k) t.area h.area
        (from_plane (at i) (at j) (at k) (at h.i) (at h.j) h.has_i.0.1 ∙ h.has_j.0.1)
        (from_plane (at i) (at j) (at k) (at h.i) (at h.k) h.has_i.0.1 ∙ h.has_k.0.1))
      where
        up : (l : ℕ) → Extreme at F l → Extreme at (Members ids) l
        up l e = ((extremes_of_face at ids i j k t.supports l).0 e).0
