-- A set has one dimension. A set whose convex combinations include another set has its tetrahedra, triangles and segments.
use Rattle.qh_model.proofs.Common.{◌≡◌, ◌≢◌, ℕ, arith, ap, sym, ◌∙◌, inl, inr, ints, pos, ◌-ℤ◌, neg_ℤ, HasDistinctPoints, Combination, HasTetrahedron}
use Rattle.qh_model.proofs.Common.{HasTriangle, HasSegment, IsDimension, cross, vol, Members, Vector, origin, minus, cross_product, dot}
use Rattle.qh_model.specs.{headline.Predicates.left, laws.DimensionLaws.DimensionIsUnique}
use Rattle.qh_model.proofs.{algebra.Ring.equal_from_zero, extremes.Axes.Differ, extremes.Axes.differ}
use Rattle.qh_model.proofs.algebra.VectorIdentities.{vol-linear, vol-first_last, vol-second_last, vol-third_last, left-dot, left-linear, left-turn, in_line-vol}
use Rattle.qh_model.proofs.algebra.VectorIdentities.{in_line-left, in_line-twice, opposite, dot-opposite, dot_comm}
use Rattle.qh_model.proofs.extremes.AffineForms.{Form, form_as, NonZero, non_zero_member}

-- each member of A is a convex combination of members of E
abbrev pub AreCombinations : (ℕ → Vector) → (ℕ → Type 0) → (ℕ → Type 0) → Type 0
AreCombinations at A E = (i : ℕ) → A i → Combination at E (at i)

-- ---- four points
-- a volume is an affine form
vol_form : (a b c : Vector) → Form (vol a b c)
vol_form a b c = record { u = cross a b c; c = neg_ℤ (dot (cross a b c) a); is = λ q. vol-linear a b c q }

-- if A has a tetrahedron, E has one
pub tetrahedron_of : (at : ℕ → Vector) (A E : ℕ → Type 0) → AreCombinations at A E → HasTetrahedron at A → HasTetrahedron at E
tetrahedron_of at A E m h =
    fourth (non_zero_member at E (at h.l) (m h.l h.has_l) (vol (at h.i) (at h.j) (at h.k)) (vol_form (at h.i) (at h.j) (at h.k)) h.volume)
  where
    first : (l' k' j' : ℕ) → E l' → E k' → E j' → NonZero at E (λ q. vol q (at j') (at k') (at l')) → HasTetrahedron at E
    first l' k' j' el ek ej r = record { i = r.e; j = j'; k = k'; l = l'; has_i = r.has; has_j = ej; has_k = ek; has_l = el; volume = r.differs }

    second : (l' k' : ℕ) → E l' → E k' → NonZero at E (λ q. vol (at h.i) q (at k') (at l')) → HasTetrahedron at E
    second l' k' el ek r =
        first l' k' r.e el ek r.has (non_zero_member at E (at h.i) (m h.i h.has_i) (λ q. vol q (at r.e) (at k') (at l'))
        (form_as _ _ (vol_form (at l') (at k') (at r.e)) (λ q. vol-first_last q (at r.e) (at k') (at l'))) r.differs)

    third : (l' : ℕ) → E l' → NonZero at E (λ q. vol (at h.i) (at h.j) q (at l')) → HasTetrahedron at E
    third l' el r = second l' r.e el r.has
        (non_zero_member at E (at h.j) (m h.j h.has_j) (λ q. vol (at h.i) q (at r.e) (at l'))
        (form_as _ _ (vol_form (at r.e) (at l') (at h.i)) (λ q. vol-second_last (at h.i) q (at r.e) (at l'))) r.differs)

    fourth : NonZero at E (vol (at h.i) (at h.j) (at h.k)) → HasTetrahedron at E
    fourth r = third r.e r.has
        (non_zero_member at E (at h.k) (m h.k h.has_k) (λ q. vol (at h.i) (at h.j) q (at r.e))
        (form_as _ _ (vol_form (at h.j) (at h.i) (at r.e)) (λ q. vol-third_last (at h.i) (at h.j) q (at r.e)))
        r.differs)

-- ---- three points
-- a turn is an affine form
left_form : (n a b : Vector) → Form (left n a b)
left_form n a b = record { u = cross_product n (minus b a); c = neg_ℤ (dot (cross_product n (minus b a)) a); is = λ q. left-linear n a b q }

-- a triangle with a turn about n
triangle_about : (at : ℕ → Vector) (A E : ℕ → Type 0) → AreCombinations at A E → (h : HasTriangle at A) (n : Vector)
    → left n (at h.i) (at h.j) (at h.k) ≢ pos 0 → HasTriangle at E
triangle_about at A E m h n d = third (non_zero_member at E (at h.k) (m h.k h.has_k) (left n (at h.i) (at h.j)) (left_form n (at h.i) (at h.j)) d)
  where
    first : (k' j' : ℕ) → E k' → E j' → NonZero at E (λ q. left n q (at j') (at k')) → HasTriangle at E
    first k' j' ek ej r =
        record { i = r.e; j = j'; k = k'; has_i = r.has; has_j = ej; has_k = ek; area = λ e. r.differs (in_line-left n (at r.e) (at j') (at k') e) }

    second : (k' : ℕ) → E k' → NonZero at E (λ q. left n (at h.i) q (at k')) → HasTriangle at E
    second k' ek r = first k' r.e ek r.has
        (non_zero_member at E (at h.i) (m h.i h.has_i) (λ q. left n q (at r.e) (at k'))
        (form_as _ _ (left_form n (at r.e) (at k')) (λ q. left-turn n q (at r.e) (at k'))) r.differs)

    third : NonZero at E (left n (at h.i) (at h.j)) → HasTriangle at E
    third r = second r.e r.has
        (non_zero_member at E (at h.j) (m h.j h.has_j) (λ q. left n (at h.i) q (at r.e)) (form_as _ _ (left_form n (at r.e) (at h.i))
        (λ q. left-turn n (at h.i) q (at r.e) ∙ left-turn n q (at r.e) (at h.i))) r.differs)

-- if A has a triangle, E has one
pub triangle_of : (at : ℕ → Vector) (A E : ℕ → Type 0) → AreCombinations at A E → HasTriangle at A → HasTriangle at E
triangle_of at A E m h =
    let d = differ (cross (at h.i) (at h.j) (at h.k)) origin h.area in
    triangle_about at A E m h d.axis (λ e. d.differs (dot_comm d.axis (cross (at h.i) (at h.j) (at h.k))
    ∙ sym (left-dot d.axis (at h.i) (at h.j) (at h.k)) ∙ e ∙ sym (omega (arith, ints))))

-- ---- two points
-- if A has two members, E has two
pub segment_of : (at : ℕ → Vector) (A E : ℕ → Type 0) → HasDistinctPoints at A → AreCombinations at A E → HasSegment A → HasSegment E
segment_of at A E d m h =
    first k.axis (non_zero_member at E (at h.i) (m h.i h.has_i) (λ q. dot k.axis q -ℤ dot k.axis (at h.j))
    (record { u = k.axis; c = neg_ℤ (dot k.axis (at h.j)); is = λ q. omega (arith, ints) })
    (λ e. k.differs (equal_from_zero (dot k.axis (at h.i)) (dot k.axis (at h.j)) e)))
  where
    k : Differ (at h.i) (at h.j)
    k = differ (at h.i) (at h.j) (λ e. h.differ (d h.i h.j h.has_i h.has_j e))

    second : (u : Vector) (i' : ℕ) → E i' → NonZero at E (λ q. dot u (at i') -ℤ dot u q) → HasSegment E
    second u i' ei r = record { i = i'; j = r.e; has_i = ei; has_j = r.has; differ = λ e. r.differs (omega (arith, ints, ap (λ t. dot u (at t)) e)) }

    first : (u : Vector) → NonZero at E (λ q. dot u q -ℤ dot u (at h.j)) → HasSegment E
    first u r = second u r.e r.has
        (non_zero_member at E (at h.j) (m h.j h.has_j) (λ q. dot u (at r.e) -ℤ dot u q)
        (record { u = opposite u; c = dot u (at r.e); is = λ q. omega (arith, ints, dot-opposite u q) }) r.differs)

-- ---- one dimension
-- corners of a tetrahedron are not in line, and corners of a triangle differ
pub triangle_of_tetrahedron : (at : ℕ → Vector) (A : ℕ → Type 0) → HasTetrahedron at A → HasTriangle at A
triangle_of_tetrahedron = grind (arith, in_line-vol)

-- two corners of a triangle differ
pub segment_of_triangle : (at : ℕ → Vector) (A : ℕ → Type 0) → HasTriangle at A → HasSegment A
segment_of_triangle = grind (arith, differ, in_line-twice)

-- the dimension is unique
pub one_dimension : (at : ℕ → Vector) (A : ℕ → Type 0) (k l : ℕ) → IsDimension at A k → IsDimension at A l → k ≡ l
one_dimension at A k l (inl (e, t)) (inl (f, u)) = e ∙ sym f
one_dimension at A k l (inl (e, t)) (inr (inl (f, u, n))) = absurd (n t)
one_dimension at A k l (inl (e, t)) (inr (inr (inl (f, u, n)))) = absurd (n (triangle_of_tetrahedron at A t))
one_dimension at A k l (inl (e, t)) (inr (inr (inr (f, n)))) = absurd (n (segment_of_triangle at A (triangle_of_tetrahedron at A t)))
one_dimension at A k l (inr (inl (e, t, o))) (inl (f, u)) = absurd (o u)
one_dimension at A k l (inr (inl (e, t, o))) (inr (inl (f, u, n))) = e ∙ sym f
one_dimension at A k l (inr (inl (e, t, o))) (inr (inr (inl (f, u, n)))) = absurd (n t)
one_dimension at A k l (inr (inl (e, t, o))) (inr (inr (inr (f, n)))) = absurd (n (segment_of_triangle at A t))
one_dimension at A k l (inr (inr (inl (e, t, o)))) (inl (f, u)) = absurd (o (triangle_of_tetrahedron at A u))
one_dimension at A k l (inr (inr (inl (e, t, o)))) (inr (inl (f, u, n))) = absurd (o u)
one_dimension at A k l (inr (inr (inl (e, t, o)))) (inr (inr (inl (f, u, n)))) = e ∙ sym f
one_dimension at A k l (inr (inr (inl (e, t, o)))) (inr (inr (inr (f, n)))) = absurd (n t)
one_dimension at A k l (inr (inr (inr (e, o)))) (inl (f, u)) = absurd (o (segment_of_triangle at A (triangle_of_tetrahedron at A u)))
one_dimension at A k l (inr (inr (inr (e, o)))) (inr (inl (f, u, n))) = absurd (o (segment_of_triangle at A u))
one_dimension at A k l (inr (inr (inr (e, o)))) (inr (inr (inl (f, u, n)))) = absurd (o u)
one_dimension at A k l (inr (inr (inr (e, o)))) (inr (inr (inr (f, n)))) = e ∙ sym f

-- proof of the law `DimensionIsUnique`
pub dimension_is_unique : DimensionIsUnique
dimension_is_unique at ids k l d e = one_dimension at (Members ids) k l d e
