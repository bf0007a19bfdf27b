-- Hulls at another scale.
use Rattle.qh_model.proofs.Common.{◌≡◌, ℕ, ◌<◌, refl, sym, ap, subst, ◌∙◌, arith, List, ints, ℤ, pos, ◌*ℤ◌, ◌≤ℤ◌, ◌<ℤ◌, ◌↔◌, Triple, HasDistinctPoints}
use Rattle.qh_model.proofs.Common.{Combination, IsBalanced, Extreme, Others, IsFacePolygon, AreFaces, cross, vol, AreInLine, Members, IsSupportingTriple}
use Rattle.qh_model.proofs.Common.{Vector, origin}
use Rattle.qh_model.specs.headline.Predicates.{left}
use Rattle.qh_model.proofs.algebra.Order.{mul-pos, mul-pos_neg, mul-nonneg_nonpos, cancel-pos, cancel-nonpos, cancel-zero, product_zero}
use Rattle.qh_model.proofs.{algebra.Signs.less_le, algebra.VectorIdentities.vector_path, closed_surfaces.Beyond.scaled, closed_surfaces.Beyond.cross-scaled}
use Rattle.qh_laws.proofs.ScaledPoints.{volume_scaled, left-scaled, balanced_up, cancel-both, balanced_down}
use Rattle.qh_laws.specs.contract.LocallyConvex.{HasLowNeighbour, IsConvexAround, IsSharpEdge, IsSharpPolygon, ArePolygonsOf}
use Rattle.qh_laws.specs.contract.Scaled.{at_scale}
use Rattle.qh_laws.specs.laws.ScaleLaws.{ScaledVolume, ScaleKeepsDistinct, ScaleKeepsConvex, ScaleKeepsPolygons, ScaleKeepsExtremes, ScaleKeepsFaces}

-- the same members with the same weights, at other points
pub combination_moved : (at at' : ℕ → Vector) (A : ℕ → Type 0) (p p' : Vector) (c : Combination at A p)
    → IsBalanced c.w1 c.w2 c.w3 c.w4 p'.x (at' c.a).x (at' c.b).x (at' c.c).x (at' c.d).x
    → IsBalanced c.w1 c.w2 c.w3 c.w4 p'.y (at' c.a).y (at' c.b).y (at' c.c).y (at' c.d).y
    → IsBalanced c.w1 c.w2 c.w3 c.w4 p'.z (at' c.a).z (at' c.b).z (at' c.c).z (at' c.d).z → Combination at' A p'
combination_moved at at' A p p' c x y z = record {
  a = c.a;
  b = c.b;
  c = c.c;
  d = c.d;
  has_a = c.has_a;
  has_b = c.has_b;
  has_c = c.has_c;
  has_d = c.has_d;
  w1 = c.w1;
  w2 = c.w2;
  w3 = c.w3;
  w4 = c.w4;
  some_weight = c.some_weight;
  x = x;
  y = y;
  z = z;
}

module _ (m : ℕ) (some : 0 < m) (at : ℕ → Vector) where
  -- the scale as a whole number
  abbrev M : ℤ
  M = pos m

  abbrev up : ℕ → Vector
  up = at_scale m at

  positive : pos 0 <ℤ M
  positive = omega (arith, ints)

  third_power : pos 0 <ℤ (M *ℤ M *ℤ M)
  third_power = mul-pos (M *ℤ M) M (mul-pos M M positive positive) positive

  fourth_power : pos 0 <ℤ (M *ℤ M *ℤ (M *ℤ M))
  fourth_power = mul-pos (M *ℤ M) (M *ℤ M) (mul-pos M M positive positive) (mul-pos M M positive positive)

  -- ---- signs of volumes
  volume : (i j k l : ℕ) → vol (up i) (up j) (up k) (up l) ≡ M *ℤ M *ℤ M *ℤ vol (at i) (at j) (at k) (at l)
  volume i j k l = volume_scaled M (at i) (at j) (at k) (at l)

  nonpos_up : (i j k l : ℕ) → vol (at i) (at j) (at k) (at l) ≤ℤ pos 0 → vol (up i) (up j) (up k) (up l) ≤ℤ pos 0
  nonpos_up i j k l h =
      subst (λ v. v ≤ℤ pos 0) (sym (volume i j k l))
      (mul-nonneg_nonpos (M *ℤ M *ℤ M) (vol (at i) (at j) (at k) (at l)) (less_le (pos 0) (M *ℤ M *ℤ M) third_power) h)

  nonpos_down : (i j k l : ℕ) → vol (up i) (up j) (up k) (up l) ≤ℤ pos 0 → vol (at i) (at j) (at k) (at l) ≤ℤ pos 0
  nonpos_down i j k l h = cancel-nonpos (M *ℤ M *ℤ M) (vol (at i) (at j) (at k) (at l)) third_power (subst (λ v. v ≤ℤ pos 0) (volume i j k l) h)

  negative_up : (i j k l : ℕ) → vol (at i) (at j) (at k) (at l) <ℤ pos 0 → vol (up i) (up j) (up k) (up l) <ℤ pos 0
  negative_up i j k l h = subst (λ v. v <ℤ pos 0) (sym (volume i j k l)) (mul-pos_neg (M *ℤ M *ℤ M) (vol (at i) (at j) (at k) (at l)) third_power h)

  zero_up : (i j k l : ℕ) → vol (at i) (at j) (at k) (at l) ≡ pos 0 → vol (up i) (up j) (up k) (up l) ≡ pos 0
  zero_up i j k l e = volume i j k l ∙ product_zero (M *ℤ M *ℤ M) (vol (at i) (at j) (at k) (at l)) e

  zero_down : (i j k l : ℕ) → vol (up i) (up j) (up k) (up l) ≡ pos 0 → vol (at i) (at j) (at k) (at l) ≡ pos 0
  zero_down i j k l e = cancel-zero (M *ℤ M *ℤ M) (vol (at i) (at j) (at k) (at l)) third_power (sym (volume i j k l) ∙ e)

  -- ---- of turns
  turn_up : (i j k u v w : ℕ) → pos 0 <ℤ left (cross (at i) (at j) (at k)) (at u) (at v) (at w)
      → pos 0 <ℤ left (cross (up i) (up j) (up k)) (up u) (up v) (up w)
  turn_up i j k u v w h =
      subst (λ s. pos 0 <ℤ s) (sym (left-scaled M (at i) (at j) (at k) (at u) (at v) (at w)))
      (mul-pos (M *ℤ M *ℤ (M *ℤ M)) (left (cross (at i) (at j) (at k)) (at u) (at v) (at w)) fourth_power h)

  turn_down : (i j k u v w : ℕ) → pos 0 <ℤ left (cross (up i) (up j) (up k)) (up u) (up v) (up w)
      → pos 0 <ℤ left (cross (at i) (at j) (at k)) (at u) (at v) (at w)
  turn_down i j k u v w h =
      cancel-pos (M *ℤ M *ℤ (M *ℤ M)) (left (cross (at i) (at j) (at k)) (at u) (at v) (at w)) fourth_power
      (subst (λ s. pos 0 <ℤ s) (left-scaled M (at i) (at j) (at k) (at u) (at v) (at w)) h)

  -- ---- of lines
  line_up : (i j k : ℕ) → AreInLine (at i) (at j) (at k) → AreInLine (up i) (up j) (up k)
  line_up i j k e =
      cross-scaled M (at i) (at j) (at k) ∙ ap (scaled (M *ℤ M)) e
      ∙ vector_path (scaled (M *ℤ M) origin) origin
      (product_zero (M *ℤ M) (pos 0) refl) (product_zero (M *ℤ M) (pos 0) refl) (product_zero (M *ℤ M) (pos 0) refl)

  line_down : (i j k : ℕ) → AreInLine (up i) (up j) (up k) → AreInLine (at i) (at j) (at k)
  line_down i j k e =
      vector_path (cross (at i) (at j) (at k)) origin (none (cross (at i) (at j) (at k)).x (ap (λ p. p.x) f))
      (none (cross (at i) (at j) (at k)).y (ap (λ p. p.y) f)) (none (cross (at i) (at j) (at k)).z (ap (λ p. p.z) f))
    where
      f : scaled (M *ℤ M) (cross (at i) (at j) (at k)) ≡ origin
      f = sym (cross-scaled M (at i) (at j) (at k)) ∙ e

      none : (v : ℤ) → M *ℤ M *ℤ v ≡ pos 0 → v ≡ pos 0
      none v g = cancel-zero (M *ℤ M) v (mul-pos M M positive positive) g

  -- ---- combinations
  combination_up : (A : ℕ → Type 0) (l : ℕ) → Combination at A (at l) → Combination up A (up l)
  combination_up A l c = combination_moved at up A (at l) (up l) c
      (balanced_up M c.w1 c.w2 c.w3 c.w4 (at l).x (at c.a).x (at c.b).x (at c.c).x (at c.d).x c.x)
      (balanced_up M c.w1 c.w2 c.w3 c.w4 (at l).y (at c.a).y (at c.b).y (at c.c).y (at c.d).y c.y)
      (balanced_up M c.w1 c.w2 c.w3 c.w4 (at l).z (at c.a).z (at c.b).z (at c.c).z (at c.d).z c.z)

  combination_down : (A : ℕ → Type 0) (l : ℕ) → Combination up A (up l) → Combination at A (at l)
  combination_down A l c = combination_moved up at A (up l) (at l) c
      (balanced_down M positive c.w1 c.w2 c.w3 c.w4 (at l).x (at c.a).x (at c.b).x (at c.c).x (at c.d).x c.x)
      (balanced_down M positive c.w1 c.w2 c.w3 c.w4 (at l).y (at c.a).y (at c.b).y (at c.c).y (at c.d).y c.y)
      (balanced_down M positive c.w1 c.w2 c.w3 c.w4 (at l).z (at c.a).z (at c.b).z (at c.c).z (at c.d).z c.z)

  -- the extreme ids are the same
  extreme : (A : ℕ → Type 0) (l : ℕ) → Extreme up A l ↔ Extreme at A l
  extreme A l = (λ e. (e.0, λ c. e.1 (combination_up (Others A l) l c)), λ e. (e.0, λ c. e.1 (combination_down (Others A l) l c)))

  -- ---- faces
  triple_up : (A : ℕ → Type 0) (i j k : ℕ) → IsSupportingTriple at A i j k → IsSupportingTriple up A i j k
  triple_up A i j k t = record {
    has_i = t.has_i;
    has_j = t.has_j;
    has_k = t.has_k;
    area = λ e. t.area (line_down i j k e);
    supports = λ l a. nonpos_up i j k l (t.supports l a);
  }

  triple_down : (A : ℕ → Type 0) (i j k : ℕ) → IsSupportingTriple up A i j k → IsSupportingTriple at A i j k
  triple_down A i j k t = record {
    has_i = t.has_i;
    has_j = t.has_j;
    has_k = t.has_k;
    area = λ e. t.area (line_up i j k e);
    supports = λ l a. nonpos_down i j k l (t.supports l a);
  }

  face_down : (A : ℕ → Type 0) (i j k : ℕ) (q : List ℕ) → IsFacePolygon up A i j k q → IsFacePolygon at A i j k q
  face_down A i j k q p = record {
    members = λ l. (
      λ n. let o = (p.members l).0 n in ((extreme A l).0 o.0, zero_down i j k l o.1),
      λ o. (p.members l).1 ((extreme A l).1 o.0, zero_up i j k l o.1),
    );
    once = p.once;
    round = λ u v f w n a b. turn_down i j k u v w (p.round u v f w n a b);
    least = p.least;
  }

  faces_down : (A : ℕ → Type 0) (qs : List (List ℕ)) → AreFaces up A qs → AreFaces at A qs
  faces_down A qs f = record {
    rising = f.rising;
    each = λ i j k t. let r = f.each i j k (triple_up A i j k t) in (r.0, r.1, face_down A i j k r.0 r.2);
    only = λ q n. let r = f.only q n in (r.0, r.1, r.2, triple_down A r.0 r.1 r.2 r.3, face_down A r.0 r.1 r.2 q r.4);
  }

  -- ---- surfaces
  neighbour_up : (ts : List Triple) (t : Triple) (u v : ℕ) → HasLowNeighbour at ts t u v → HasLowNeighbour up ts t u v
  neighbour_up ts t u v n = record { next = n.next; there = n.there; third = n.third; round = n.round; below = nonpos_up t.i t.j t.k n.third n.below }

  convex_up : (ts : List Triple) (t : Triple) → IsConvexAround at ts t → IsConvexAround up ts t
  convex_up ts t c = record {
    over_ij = neighbour_up ts t t.i t.j c.over_ij;
    over_jk = neighbour_up ts t t.j t.k c.over_jk;
    over_ki = neighbour_up ts t t.k t.i c.over_ki;
  }

  edge_up : (ts : List Triple) (t : Triple) (u v : ℕ) → IsSharpEdge at ts t u v → IsSharpEdge up ts t u v
  unfolding neighbour_up
  edge_up ts t u v e = record {
    side = e.side;
    there = e.there;
    third = e.third;
    round = e.round;
    level = zero_up t.i t.j t.k e.third e.level;
    over = neighbour_up ts e.side u v e.over;
    below = negative_up e.side.i e.side.j e.side.k e.over.third e.below;
  }

  polygon_up : (ts : List Triple) (t : Triple) (q : List ℕ) → IsSharpPolygon at ts t q → IsSharpPolygon up ts t q
  polygon_up ts t q p = record {
    three = p.three;
    once = p.once;
    least = p.least;
    level = λ l n. zero_up t.i t.j t.k l (p.level l n);
    round = λ u v f w n a b. turn_up t.i t.j t.k u v w (p.round u v f w n a b);
    edges = λ u v f. edge_up ts t u v (p.edges u v f);
  }

  polygons_up : (ts : List Triple) (qs : List (List ℕ)) → ArePolygonsOf at ts qs → ArePolygonsOf up ts qs
  polygons_up ts qs p = record {
    sharp = λ q n. let r = p.sharp q n in (r.0, r.1, polygon_up ts r.0 q r.2);
    each = λ t i. let r = p.each t i in (r.0, r.1, polygon_up ts t r.0 r.2);
  }

  -- different points stay different
  distinct_up : (A : ℕ → Type 0) → HasDistinctPoints at A → HasDistinctPoints up A
  distinct_up A d i j a b e = d i j a b
      (vector_path (at i) (at j) (cancel-both M (at i).x (at j).x positive (ap (λ p. p.x) e)) (cancel-both M (at i).y (at j).y positive (ap (λ p. p.y) e))
      (cancel-both M (at i).z (at j).z positive (ap (λ p. p.z) e)))

-- ---- the laws
-- the law of volumes
pub scaled_volume : ScaledVolume
scaled_volume m at i j k l = volume_scaled (pos m) (at i) (at j) (at k) (at l)

-- the law of points
pub scale_keeps_distinct : ScaleKeepsDistinct
scale_keeps_distinct m h at ids d = distinct_up m h at (Members ids) d

-- the law of convex surfaces
pub scale_keeps_convex : ScaleKeepsConvex
scale_keeps_convex m h at ts t c = convex_up m h at ts t c

-- the law of polygons
pub scale_keeps_polygons : ScaleKeepsPolygons
scale_keeps_polygons m h at ts qs p = polygons_up m h at ts qs p

-- the law of extreme ids
pub scale_keeps_extremes : ScaleKeepsExtremes
scale_keeps_extremes m h at ids l = extreme m h at (Members ids) l

-- the law of faces
pub scale_keeps_faces : ScaleKeepsFaces
scale_keeps_faces m h at ids qs f = faces_down m h at (Members ids) qs f
