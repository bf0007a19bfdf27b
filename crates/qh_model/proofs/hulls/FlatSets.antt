-- Sets in one plane: their triangles have one direction or the opposite one, and one of the two points forward.
use Rattle.qh_model.proofs.Common.{AreInLine, HasTetrahedron, IsAlong, PointsForward, Vector, arith, cross, dot, minus, origin, pos, vol, ℕ, ⊎_elim, ◌∙◌, ◌≡◌}
use Rattle.qh_model.proofs.{Common.◌≢◌, Common.◌⊎◌, algebra.Order.zero_or_not, algebra.VectorIdentities.opposite}
use Rattle.qh_model.proofs.extremes.Directions.{from_plane, normal_along, positive_along, zero_along}

-- four points of a set with no tetrahedron lie in one plane
pub flat_volume : (at : ℕ → Vector) (A : ℕ → Type 0) → ¬ (HasTetrahedron at A) → (i j k l : ℕ) → A i → A j → A k → A l → vol (at i) (at j) (at k) (at l) ≡ pos 0
flat_volume at A n i j k l hi hj hk hl =
    ⊎_elim (λ e. e) (λ d. absurd (n (record { i = i; j = j; k = k; l = l; has_i = hi; has_j = hj; has_k = hk; has_l = hl; volume = d })))
    (zero_or_not (vol (at i) (at j) (at k) (at l)))

-- a vector that points forward is not zero
pub forward_not_zero : (n : Vector) → PointsForward n → n ≢ origin
forward_not_zero = grind arith

-- two vectors of the same direction both point forward, or neither does
pub forward_along : (n m : Vector) → IsAlong n m → PointsForward n → PointsForward m
forward_along = grind (arith, positive_along, zero_along)

-- so at most one of two opposite directions points forward
pub one_forward : (n : Vector) → PointsForward n → PointsForward (opposite n) → ⊥
one_forward = grind arith

-- a triangle of a flat set has the direction of another triangle, or the reversed triangle has it
pub flat_normals : (at : ℕ → Vector) (A : ℕ → Type 0) → ¬ (HasTetrahedron at A) → (i j k u v w : ℕ) → A i → A j → A k → A u → A v → A w
    → cross (at i) (at j) (at k) ≢ origin → ¬ (AreInLine (at u) (at v) (at w))
    → IsAlong (cross (at i) (at j) (at k)) (cross (at u) (at v) (at w)) ⊎ IsAlong (cross (at i) (at j) (at k)) (cross (at u) (at w) (at v))
flat_normals at A n i j k u v w hi hj hk hu hv hw d e = normal_along (cross (at i) (at j) (at k)) (at u) (at v) (at w) d e (level v hv) (level w hw)
  where
    level : (l : ℕ) → A l → dot (cross (at i) (at j) (at k)) (minus (at l) (at u)) ≡ pos 0
    level l hl = from_plane (at i) (at j) (at k) (at u) (at l) (flat_volume at A n i j k u hi hj hk hu) ∙ flat_volume at A n i j k l hi hj hk hl
