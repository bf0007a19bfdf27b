-- Sets of the same dimension: members with other names, and the extreme ids of a set.
use Rattle.qh_model.proofs.Common.{◌≡◌, ℕ, refl, inl, inr, HasTetrahedron, HasTriangle, HasSegment, IsDimension, Extreme, Members, Vector, arith}
use Rattle.qh_model.specs.laws.DimensionLaws.{DimensionOfExtremes}
use Rattle.qh_model.proofs.extremes.Dimensions.{AreCombinations, tetrahedron_of, triangle_of, segment_of}
use Rattle.qh_model.proofs.extremes.ExtremeIds.{listed_itself, combination_of_extremes}

-- each follows from the other
abbrev pub Both : Type 0 → Type 0 → Type 0
Both P Q = (P → Q) × (Q → P)

-- the dimension of another set with the same segments, triangles and tetrahedra, also for other points
pub dimension_as : (at at' : ℕ → Vector) (A B : ℕ → Type 0) → Both (HasTetrahedron at A) (HasTetrahedron at' B)
    → Both (HasTriangle at A) (HasTriangle at' B) → Both (HasSegment A) (HasSegment B)
    → (k : ℕ) → IsDimension at A k → IsDimension at' B k
dimension_as at at' A B f g h k (inl (e, t)) = inl (e, f.0 t)
dimension_as at at' A B f g h k (inr (inl (e, t, n))) = inr (inl (e, g.0 t, λ u. n (f.1 u)))
dimension_as at at' A B f g h k (inr (inr (inl (e, t, n)))) = inr (inr (inl (e, h.0 t, λ u. n (g.1 u))))
dimension_as at at' A B f g h k (inr (inr (inr (e, n)))) = inr (inr (inr (e, λ u. n (h.1 u))))

-- ---- members named by members of another set, with the same points
module _ {at at' : ℕ → Vector} {A B : ℕ → Type 0} (f : ℕ → ℕ) (to : (i : ℕ) → A i → B (f i)) where
  -- a tetrahedron by other names
  pub tetrahedron_by_names : ((i : ℕ) → A i → at' (f i) ≡ at i) → HasTetrahedron at A → HasTetrahedron at' B
  tetrahedron_by_names = grind arith

  -- a triangle by other names
  pub triangle_by_names : ((i : ℕ) → A i → at' (f i) ≡ at i) → HasTriangle at A → HasTriangle at' B
  triangle_by_names = grind arith

-- a segment, if different members have different names
pub segment_by_names : {A B : ℕ → Type 0} (f : ℕ → ℕ) (to : (i : ℕ) → A i → B (f i)) → ((i j : ℕ) → A i → A j → f i ≡ f j → i ≡ j) → HasSegment A → HasSegment B
segment_by_names = grind arith

-- proof of the law `DimensionOfExtremes`
pub dimension_of_extremes : DimensionOfExtremes
dimension_of_extremes at ids k d = (dimension_as at at E A (four.1, four.0) (three.1, three.0) (two.1, two.0) k, dimension_as at at A E four three two k)
  where
    A : ℕ → Type 0
    A = Members ids

    E : ℕ → Type 0
    E = Extreme at A

    m : AreCombinations at A E
    m i h = combination_of_extremes at A ids (listed_itself ids) d i h

    four : Both (HasTetrahedron at A) (HasTetrahedron at E)
    four = (tetrahedron_of at A E m, tetrahedron_by_names (λ i. i) (λ i h. h.0) (λ i h. refl))

    three : Both (HasTriangle at A) (HasTriangle at E)
    three = (triangle_of at A E m, triangle_by_names (λ i. i) (λ i h. h.0) (λ i h. refl))

    two : Both (HasSegment A) (HasSegment E)
    two = (segment_of at A E d m, segment_by_names (λ i. i) (λ i h. h.0) (λ i j h k e. e))
