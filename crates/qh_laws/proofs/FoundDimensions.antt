-- Each set of ids has a dimension, by a search for a tetrahedron, a triangle and a segment.
use Rattle.qh_model.proofs.Common.{◌≡◌, ◌≢◌, ℕ, List, inl, inr, refl, pos, HasTetrahedron, HasTriangle, HasSegment, IsDimension, cross, vol, AreInLine, In}
use Rattle.qh_model.proofs.Common.{Members, Vector, origin}
use Rattle.qh_model.proofs.Decisions.{Decided, contrary, decided_as, some_or_none, same_id, same_number, same_vector}

module _ (at : ℕ → Vector) (ids : List ℕ) where
  -- some member makes a tetrahedron with three others
  abbrev HasFourth : ℕ → ℕ → ℕ → Type 0
  HasFourth i j k = (l : ℕ) × In l ids × (vol (at i) (at j) (at k) (at l) ≢ pos 0)

  -- some member makes a triangle with two others
  abbrev HasThird : ℕ → ℕ → Type 0
  HasThird i j = (k : ℕ) × In k ids × (¬ (AreInLine (at i) (at j) (at k)))

  -- decides whether there is a tetrahedron
  tetrahedron_or_not : Decided (HasTetrahedron at (Members ids))
  tetrahedron_or_not =
      decided_as ((i : ℕ) × In i ids × ((j : ℕ) × In j ids × ((k : ℕ) × In k ids × HasFourth i j k))) (HasTetrahedron at (Members ids)) into
      (λ h. (h.i, h.has_i, (h.j, h.has_j, (h.k, h.has_k, (h.l, h.has_l, h.volume)))))
      (some_or_none (λ i. (j : ℕ) × In j ids × ((k : ℕ) × In k ids × HasFourth i j k)) first ids)
    where
      into : (i : ℕ) × In i ids × ((j : ℕ) × In j ids × ((k : ℕ) × In k ids × HasFourth i j k)) → HasTetrahedron at (Members ids)
      into (i, a, (j, b, (k, c, (l, d, v)))) = record { i = i; j = j; k = k; l = l; has_i = a; has_j = b; has_k = c; has_l = d; volume = v }

      volume : (i j k l : ℕ) → Decided (vol (at i) (at j) (at k) (at l) ≢ pos 0)
      volume i j k l = contrary (vol (at i) (at j) (at k) (at l) ≡ pos 0) (same_number (vol (at i) (at j) (at k) (at l)) (pos 0))

      third : (i j k : ℕ) → Decided (HasFourth i j k)
      third i j k = some_or_none (λ l. vol (at i) (at j) (at k) (at l) ≢ pos 0) (volume i j k) ids

      second : (i j : ℕ) → Decided ((k : ℕ) × In k ids × HasFourth i j k)
      second i j = some_or_none (HasFourth i j) (third i j) ids

      first : (i : ℕ) → Decided ((j : ℕ) × In j ids × ((k : ℕ) × In k ids × HasFourth i j k))
      first i = some_or_none (λ j. (k : ℕ) × In k ids × HasFourth i j k) (second i) ids

  -- decides whether there is a triangle
  triangle_or_not : Decided (HasTriangle at (Members ids))
  triangle_or_not =
      decided_as ((i : ℕ) × In i ids × ((j : ℕ) × In j ids × HasThird i j)) (HasTriangle at (Members ids)) into
      (λ h. (h.i, h.has_i, (h.j, h.has_j, (h.k, h.has_k, h.area)))) (some_or_none (λ i. (j : ℕ) × In j ids × HasThird i j) first ids)
    where
      into : (i : ℕ) × In i ids × ((j : ℕ) × In j ids × HasThird i j) → HasTriangle at (Members ids)
      into (i, a, (j, b, (k, c, d))) = record { i = i; j = j; k = k; has_i = a; has_j = b; has_k = c; area = d }

      area : (i j k : ℕ) → Decided (¬ (AreInLine (at i) (at j) (at k)))
      area i j k = contrary (AreInLine (at i) (at j) (at k)) (same_vector (cross (at i) (at j) (at k)) origin)

      second : (i j : ℕ) → Decided (HasThird i j)
      second i j = some_or_none (λ k. ¬ (AreInLine (at i) (at j) (at k))) (area i j) ids

      first : (i : ℕ) → Decided ((j : ℕ) × In j ids × HasThird i j)
      first i = some_or_none (HasThird i) (second i) ids

  -- decides whether there is a segment
  segment_or_not : Decided (HasSegment (Members ids))
  segment_or_not =
      decided_as ((i : ℕ) × In i ids × ((j : ℕ) × In j ids × (i ≢ j))) (HasSegment (Members ids)) into (λ h. (h.i, h.has_i, (h.j, h.has_j, h.differ)))
      (some_or_none (λ i. (j : ℕ) × In j ids × (i ≢ j)) (λ i. some_or_none (λ j. i ≢ j) (λ j. contrary (i ≡ j) (same_id i j)) ids) ids)
    where
      into : (i : ℕ) × In i ids × ((j : ℕ) × In j ids × (i ≢ j)) → HasSegment (Members ids)
      into (i, a, (j, b, n)) = record { i = i; j = j; has_i = a; has_j = b; differ = n }

  -- so there is a dimension
  pub dimension_of : (k : ℕ) × IsDimension at (Members ids) k
  dimension_of = by_decision tetrahedron_or_not triangle_or_not segment_or_not
    where
      by_decision : Decided (HasTetrahedron at (Members ids)) → Decided (HasTriangle at (Members ids)) → Decided (HasSegment (Members ids))
          → (k : ℕ) × IsDimension at (Members ids) k
      by_decision (inl t) b c = (3, inl (refl, t))
      by_decision (inr t) (inl b) c = (2, inr (inl (refl, b, t)))
      by_decision (inr t) (inr b) (inl c) = (1, inr (inr (inl (refl, c, b))))
      by_decision (inr t) (inr b) (inr c) = (0, inr (inr (inr (refl, c))))
