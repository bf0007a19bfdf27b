-- Sets of dimension 2, 1 and 0 have their only polygon.
use Rattle.qh_model.proofs.Common.{◌≡◌, ◌≢◌, ◌∙◌, ℕ, ◌<◌, List, [], ◌∷◌, length, refl, ap, sym, subst, arith, ◌⊎◌, inl, inr, cases_order, ints, by_lt_z, ℤ, pos}
use Rattle.qh_model.proofs.Common.{neg_ℤ, ◌-ℤ◌, ◌*ℤ◌, ◌<ℤ◌, HasDistinctPoints, HasTetrahedron, HasTriangle, HasSegment, Extreme, Follows, IsPolygon}
use Rattle.qh_model.proofs.Common.{PointsForward, IsFlatFace, IsSegmentFace, cross, vol, AreInLine, In, Members, Vector, origin, minus, cross_product, dot}
use Rattle.qh_model.proofs.{Decisions.Decided, Decisions.same_id, Decisions.same_vector, polygons.Neighbours.next_member, polygons.Neighbours.follows_members}
use Rattle.qh_model.proofs.{algebra.Order.le_antisym, algebra.Order.neg-positive, algebra.Ring.Expr.neg, hulls.FlatSets.flat_volume}
use Rattle.qh_model.proofs.{algebra.Ring.ring, algebra.Ring.equal_from_zero, extremes.ExtremeIds.listed_itself, extremes.ExtremeIds.combination_of_extremes}
use Rattle.qh_model.proofs.{algebra.Signs.less_differ, algebra.Signs.opposite_zero, extremes.Dimensions.segment_of, extremes.Dimensions.segment_of_triangle}
use Rattle.qh_model.proofs.algebra.VectorIdentities.{vec, put, dotE, crossE, vector_path, opposite, in_line-left, dot-origin}
use Rattle.qh_model.proofs.extremes.Directions.{cross-flip, in_line-flip, from_plane, square-positive}
use Rattle.qh_model.specs.headline.{Polygons.IsPointFace, Predicates.left}
use Rattle.qh_polygon.proofs.{LinesAndPlanes.between_eq, LinesAndPlanes.none, polygons.Turns.IsFlat}
use Rattle.qh_laws.proofs.FoundPolygons.{polygon_found}

-- ---- directions
-- a number is above 0, is 0 or is below 0
sign : (x : ℤ) → (pos 0 <ℤ x) ⊎ ((x ≡ pos 0) ⊎ (pos 0 <ℤ neg_ℤ x))
sign x = by_lt_z (pos 0) x (λ h. inl h) (λ h. by_lt_z x (pos 0) (λ k. inr (inr (neg-positive x k))) (λ k. inr (inl (le_antisym x (pos 0) h k))))

-- of two opposite directions one points forward
forward_or_back : (n : Vector) → n ≢ origin → PointsForward n ⊎ PointsForward (opposite n)
forward_or_back n d = by_cases (sign n.x) (sign n.y) (sign n.z)
  where
    by_cases : (pos 0 <ℤ n.x) ⊎ ((n.x ≡ pos 0) ⊎ (pos 0 <ℤ neg_ℤ n.x)) → (pos 0 <ℤ n.y) ⊎ ((n.y ≡ pos 0) ⊎ (pos 0 <ℤ neg_ℤ n.y))
        → (pos 0 <ℤ n.z) ⊎ ((n.z ≡ pos 0) ⊎ (pos 0 <ℤ neg_ℤ n.z)) → PointsForward n ⊎ PointsForward (opposite n)
    by_cases (inl h) y z = inl (inl h)
    by_cases (inr (inr h)) y z = inr (inl h)
    by_cases (inr (inl e)) (inl h) z = inl (inr (e, inl h))
    by_cases (inr (inl e)) (inr (inr h)) z = inr (inr (omega (arith, ints), inl h))
    by_cases (inr (inl e)) (inr (inl f)) (inl h) = inl (inr (e, inr (f, h)))
    by_cases (inr (inl e)) (inr (inl f)) (inr (inr h)) = inr (inr (omega (arith, ints), inr (omega (arith, ints), h)))
    by_cases (inr (inl e)) (inr (inl f)) (inr (inl g)) = absurd (d (vector_path n origin e f g))

-- a triple product with its last two vectors swapped
triple : (d e v : Vector) → dot (cross_product d e) v ≡ neg_ℤ (dot (cross_product d v) e)
triple d e v = ring (put d (put e (put v []))) (dotE (crossE (vec 0) (vec 1)) (vec 2)) (neg (dotE (crossE (vec 0) (vec 2)) (vec 1))) refl

-- a direction across d, and across every vector in line with d
record Across (d : Vector) : Type 0 where
  n : Vector
  some : n ≢ origin
  level : (v : Vector) → cross_product d v ≡ origin → dot n v ≡ pos 0

-- the first axis
first_axis : Vector
first_axis = record { x = pos 1; y = pos 0; z = pos 0 }

-- the second axis
second_axis : Vector
second_axis = record { x = pos 0; y = pos 1; z = pos 0 }

-- a vector in line with both axes is zero
no_part : (d : Vector) → cross_product d first_axis ≡ origin → cross_product d second_axis ≡ origin → d ≡ origin
unfolding first_axis second_axis
no_part d e f = vector_path d origin (last d.x d.y (ap (λ v. v.z) f)) (omega (arith, ints, ap (λ v. v.z) e)) (last d.z d.x (ap (λ v. v.y) e))
  where
    last : (a b : ℤ) → a *ℤ pos 1 -ℤ b *ℤ pos 0 ≡ pos 0 → a ≡ pos 0
    last a b h = omega (arith, ints)

-- each vector that is not zero has a direction across it
across : (d : Vector) → d ≢ origin → Across d
across d s = by_decision (same_vector (cross_product d first_axis) origin)
  where
    level : (e v : Vector) → cross_product d v ≡ origin → dot (cross_product d e) v ≡ pos 0
    level e v h = opposite_zero _ _ (triple d e v) (ap (λ w. dot w e) h ∙ dot-origin e)

    by_decision : Decided (cross_product d first_axis ≡ origin) → Across d
    by_decision (inr n) = record { n = cross_product d first_axis; some = n; level = level first_axis }
    by_decision (inl e) = record { n = cross_product d second_axis; some = λ f. s (no_part d e f); level = level second_axis }

module _ (at : ℕ → Vector) (ids : List ℕ) (distinct : HasDistinctPoints at (Members ids)) where
  -- ---- dimension 2
  -- three members whose normal points forward give the polygon of a flat set
  flat_by : ¬ (HasTetrahedron at (Members ids)) → (i j k : ℕ) → In i ids → In j ids → In k ids → ¬ (AreInLine (at i) (at j) (at k))
      → PointsForward (cross (at i) (at j) (at k)) → (q : List ℕ) × IsFlatFace at (Members ids) q
  flat_by t i j k a b c d f =
      let p = polygon_found (cross (at i) (at j) (at k)) at (Members ids) ids (listed_itself ids) distinct flat
      (segment_of_triangle at (Members ids) (record { i = i; j = j; k = k; has_i = a; has_j = b; has_k = c; area = d })) in
      (p.0, record { i = i; j = j; k = k; has_i = a; has_j = b; has_k = c; forward = f; polygon = p.1 })
    where
      zero : (l : ℕ) → In l ids → vol (at i) (at j) (at k) (at l) ≡ pos 0
      zero l m = flat_volume at (Members ids) t i j k l a b c m

      flat : IsFlat (cross (at i) (at j) (at k)) at (Members ids)
      flat = record {
        even = λ l m u v. from_plane (at i) (at j) (at k) (at l) (at m) (zero l u) ∙ zero m v;
        some = square-positive (cross (at i) (at j) (at k)) d;
      }

  -- a flat set has a polygon
  pub flat_found : ¬ (HasTetrahedron at (Members ids)) → HasTriangle at (Members ids) → (q : List ℕ) × IsFlatFace at (Members ids) q
  flat_found n t = by_cases (forward_or_back (cross (at t.i) (at t.j) (at t.k)) t.area)
    where
      by_cases : PointsForward (cross (at t.i) (at t.j) (at t.k)) ⊎ PointsForward (opposite (cross (at t.i) (at t.j) (at t.k)))
          → (q : List ℕ) × IsFlatFace at (Members ids) q
      by_cases (inl f) = flat_by n t.i t.j t.k t.has_i t.has_j t.has_k t.area f
      by_cases (inr f) =
          flat_by n t.i t.k t.j t.has_i t.has_k t.has_j (λ e. t.area (in_line-flip (at t.i) (at t.j) (at t.k) e))
          (subst PointsForward (sym (cross-flip (at t.i) (at t.j) (at t.k))) f)

  -- ---- dimension 1
  -- any three members of a set without a triangle are in line
  in_line : ¬ (HasTriangle at (Members ids)) → (i j k : ℕ) → In i ids → In j ids → In k ids → AreInLine (at i) (at j) (at k)
  in_line n i j k a b c = by_decision (same_vector (cross (at i) (at j) (at k)) origin)
    where
      by_decision : Decided (AreInLine (at i) (at j) (at k)) → AreInLine (at i) (at j) (at k)
      by_decision (inl e) = e
      by_decision (inr d) = absurd (n (record { i = i; j = j; k = k; has_i = a; has_j = b; has_k = c; area = d }))

  -- the difference of two members is not zero
  apart : (i j : ℕ) → In i ids → In j ids → i ≢ j → minus (at j) (at i) ≢ origin
  apart i j a b n e =
      n (sym (distinct j i b a (vector_path (at j) (at i) (equal_from_zero _ _ (ap (λ v. v.x) e))
      (equal_from_zero _ _ (ap (λ v. v.y) e)) (equal_from_zero _ _ (ap (λ v. v.z) e)))))

  -- a set in line is flat across a direction
  flat_line : ¬ (HasTriangle at (Members ids)) → (s : HasSegment (Members ids)) → (n : Vector) × IsFlat n at (Members ids)
  unfolding cross
  flat_line t s = (
    a.n,
    record { even = λ i j u v. none _ _ _ (between_eq a.n (at s.i) (at i) (at j)) (level j v) (level i u); some = square-positive a.n a.some },
  )
    where
      a : Across (minus (at s.j) (at s.i))
      a = across (minus (at s.j) (at s.i)) (apart s.i s.j s.has_i s.has_j s.differ)

      level : (l : ℕ) → In l ids → dot a.n (minus (at l) (at s.i)) ≡ pos 0
      level l m = a.level (minus (at l) (at s.i)) (in_line t s.i s.j l s.has_i s.has_j m)

  -- a set in line has no three extreme ids
  no_third : (n : Vector) (q : List ℕ) → IsPolygon at (Extreme at (Members ids)) n q → ¬ (HasTriangle at (Members ids))
      → (i j l : ℕ) → Extreme at (Members ids) i → Extreme at (Members ids) j → Extreme at (Members ids) l → j ≢ i → l ≢ i → l ≢ j → ⊥
  no_third n q p t i j l a b c ji li lj = from_witness (next_member i q ((p.members i).1 a))
    where
      from_witness : (v : ℕ) × Follows i v q → ⊥
      from_witness (v, f) = by_decision (same_id j v)
        where
          straight : (w : ℕ) → Extreme at (Members ids) w → w ≢ i → w ≢ v → ⊥
          straight w e d g =
              less_differ (pos 0) (left n (at i) (at v) (at w)) (p.round i v f w ((p.members w).1 e) d g)
              (sym (in_line-left n (at i) (at v) (at w) (in_line t i v w a.0 ((p.members v).0 (follows_members i v q f).1).0 e.0)))

          by_decision : Decided (j ≡ v) → ⊥
          by_decision (inr d) = straight j b ji d
          by_decision (inl e) = straight l c li (λ g. lj (g ∙ sym e))

  -- a set in line has two ends
  pub segment_found : ¬ (HasTriangle at (Members ids)) → HasSegment (Members ids) → (q : List ℕ) × IsSegmentFace at (Members ids) q
  segment_found t s = by_cases (cases_order e.i e.j)
    where
      e : HasSegment (Extreme at (Members ids))
      e = segment_of at (Members ids) (Extreme at (Members ids)) distinct
          (λ i m. combination_of_extremes at (Members ids) ids (listed_itself ids) distinct i m) s

      n : (n : Vector) × IsFlat n at (Members ids)
      n = flat_line t s

      p : (q : List ℕ) × IsPolygon at (Extreme at (Members ids)) n.0 q
      p = polygon_found n.0 at (Members ids) ids (listed_itself ids) distinct n.1 s

      ends : (i j : ℕ) → Extreme at (Members ids) i → Extreme at (Members ids) j → i < j → (q : List ℕ) × IsSegmentFace at (Members ids) q
      ends i j a b l = (i ∷ j ∷ [], record { i = i; j = j; members = λ m. (into m, back m (same_id m i) (same_id m j)); lower = l; is = refl })
        where
          into : (m : ℕ) → (m ≡ i) ⊎ (m ≡ j) → Extreme at (Members ids) m
          into m (inl f) = subst (Extreme at (Members ids)) (sym f) a
          into m (inr f) = subst (Extreme at (Members ids)) (sym f) b

          back : (m : ℕ) → Decided (m ≡ i) → Decided (m ≡ j) → Extreme at (Members ids) m → (m ≡ i) ⊎ (m ≡ j)
          back m (inl f) g h = inl f
          back m (inr f) (inl g) h = inr g
          back m (inr f) (inr g) h = absurd (no_third n.0 p.0 p.1 t i j m a b h (λ q. omega arith) f g)

      by_cases : (e.i ≡ e.j) ⊎ ((e.i < e.j) ⊎ (e.j < e.i)) → (q : List ℕ) × IsSegmentFace at (Members ids) q
      by_cases (inl f) = absurd (e.differ f)
      by_cases (inr (inl l)) = ends e.i e.j e.has_i e.has_j l
      by_cases (inr (inr l)) = ends e.j e.i e.has_j e.has_i l

-- ---- dimension 0
-- a list that is not empty has a first id
pub point_found : (ids : List ℕ) → 0 < length ids → (q : List ℕ) × IsPointFace (Members ids) q
point_found [] h = absurd (omega arith)
point_found (i ∷ ids) h = (i ∷ [], record { i = i; has_i = inl refl; is = refl })
