-- The signed volume of a closed surface: a function that changes its sign with an edge's direction adds up to 0.
use Rattle.qh_model.proofs.Common.{◌≡◌, ℕ, arith, ap, sym, ◌∙◌, refl, inl, inr, List, [], ◌∷◌, map, true, eqb, rules, ints, ℤ}
use Rattle.qh_model.proofs.Common.{pos, ◌+ℤ◌, neg_ℤ, ◌≤ℤ◌, ◌<ℤ◌, Triple, edges, is_edge, IsClosed, signed_volume, vol, In, Vector}
use Rattle.qh_model.specs.laws.ClosedSurfaceLaws.{VolumeIsConstant}
use Rattle.qh_model.proofs.{Members.each_more, algebra.VectorIdentities.vol-boundary, algebra.VectorIdentities.vol-flip}
use Rattle.qh_model.proofs.closed_surfaces.Sums.{sum_z, count, Tests, sum_z-same_counts, count-is}

-- a reversed edge
abbrev pub back : (ℕ × ℕ) → (ℕ × ℕ)
back e = (e.1, e.0)

-- a number equals itself
pub eqb-refl : (i : ℕ) → eqb i i ≡ true
eqb-refl i = search rules

-- the test of edges tests equality
pub edge_tests : Tests is_edge
edge_tests = grind arith

-- reversing one edge or the other
pub is_edge-back : (e f : ℕ × ℕ) → is_edge e (back f) ≡ is_edge (back e) f
is_edge-back = grind arith

-- the reversed edges
count-back : (e : ℕ × ℕ) (es : List (ℕ × ℕ)) → count (is_edge e) (map back es) ≡ count (is_edge (back e)) es
count-back e [] = refl
count-back e (f ∷ es) = rw (is_edge-back e f, count-back e es) refl

-- a sum over the reversed edges
sum-back : (g : (ℕ × ℕ) → ℤ) → ((e : ℕ × ℕ) → g (back e) ≡ neg_ℤ (g e)) → (es : List (ℕ × ℕ)) → sum_z g (map back es) ≡ neg_ℤ (sum_z g es)
sum-back g h [] = refl
sum-back g h (e ∷ es) = rw (h e, sum-back g h es) (omega (arith, ints))

-- a function that changes its sign with an edge's direction adds up to 0
pub edges-cancel : (g : (ℕ × ℕ) → ℤ) → ((e : ℕ × ℕ) → g (back e) ≡ neg_ℤ (g e)) → (ts : List Triple) → IsClosed ts → sum_z g (edges ts) ≡ pos 0
edges-cancel g h ts c =
    let opposite = sum_z-same_counts is_edge edge_tests g (edges ts) (map back (edges ts))
    (λ e. count-is (is_edge e) (edges ts) ∙ c e.0 e.1 ∙ sym (count-is (is_edge (back e)) (edges ts)) ∙ sym (count-back e (edges ts))) in
    omega (arith, ints, opposite ∙ sum-back g h (edges ts))

-- the sum round a triangle
abbrev pub around : ((ℕ × ℕ) → ℤ) → Triple → ℤ
around g t = g (t.i, t.j) +ℤ g (t.j, t.k) +ℤ g (t.k, t.i)

-- if no triangle has a sum above 0, the sum over all edges is not above 0, and not above the sum round any triangle
sums_round : (g : (ℕ × ℕ) → ℤ) (ts : List Triple) → ((t : Triple) → In t ts → around g t ≤ℤ pos 0)
    → (sum_z g (edges ts) ≤ℤ pos 0) × ((t : Triple) → In t ts → sum_z g (edges ts) ≤ℤ around g t)
sums_round g [] h = (omega (arith, ints), λ t i. absurd i)
sums_round g (u ∷ ts) h = let own = h u (inl refl) in let rest = sums_round g ts (λ t i. h t (inr i)) in (
  omega (arith, ints, own, rest.0),
  each_more (λ t. sum_z g (edges (u ∷ ts)) ≤ℤ around g t) u ts (omega (arith, ints, rest.0)) (λ t i. omega (arith, ints, own, rest.1 t i)),
)

-- so no triangle of a closed surface has a sum below 0
pub none_lower : (g : (ℕ × ℕ) → ℤ) → ((e : ℕ × ℕ) → g (back e) ≡ neg_ℤ (g e)) → (ts : List Triple) → IsClosed ts
    → ((t : Triple) → In t ts → around g t ≤ℤ pos 0) → (t : Triple) → In t ts → around g t <ℤ pos 0 → ⊥
none_lower g odd ts c h t i low = omega (arith, ints, edges-cancel g odd ts c, (sums_round g ts h).1 t i, low)

-- the volume of a triangle and p
abbrev pub vol_at : (ℕ → Vector) → Vector → Triple → ℤ
vol_at at p t = vol (at t.i) (at t.j) (at t.k) p

-- the volume of an edge with o and p
abbrev pub edge_vol : (ℕ → Vector) → Vector → Vector → (ℕ × ℕ) → ℤ
edge_vol at o p e = vol (at e.0) (at e.1) o p

-- volumes with p by volumes with o and those of edges
vols-boundary : (at : ℕ → Vector) (o p : Vector) (ts : List Triple) → sum_z (vol_at at p) ts ≡ sum_z (vol_at at o) ts +ℤ sum_z (edge_vol at o p) (edges ts)
vols-boundary at o p [] = refl
vols-boundary at o p (t ∷ ts) =
    rw (vol-boundary (at t.i) (at t.j) (at t.k) o p, vols-boundary at o p ts) (omega (arith, ints))

-- signed volume: the sum does not depend on the fourth point
pub vols-same : (at : ℕ → Vector) (o p : Vector) (ts : List Triple) → IsClosed ts → sum_z (vol_at at p) ts ≡ sum_z (vol_at at o) ts
vols-same at o p ts c =
    omega (arith, ints, vols-boundary at o p ts, edges-cancel (edge_vol at o p) (λ e. vol-flip (at e.1) (at e.0) o p) ts c)

-- the sum of the definition
volume-is : (at : ℕ → Vector) (ts : List Triple) (p : Vector) → signed_volume at ts p ≡ sum_z (vol_at at p) ts
volume-is at [] p = refl
volume-is at (t ∷ ts) p = ap (λ v. vol (at t.i) (at t.j) (at t.k) p +ℤ v) (volume-is at ts p)

-- proof of the law `VolumeIsConstant`
pub volume_is_constant : VolumeIsConstant
volume_is_constant at ts c p q = volume-is at ts p ∙ vols-same at q p ts c.closed ∙ sym (volume-is at ts q)
