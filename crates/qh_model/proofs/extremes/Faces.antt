-- Faces and dimensions of sets and of their extremes.
use Rattle.qh_model.proofs.Common.{Combination, Extreme, List, Members, OnPlane, Others, Separator, Supports, Vector, arith, by_lt_z, cross, dot, inl, inr}
use Rattle.qh_model.proofs.Common.{ints, pos, sym, vol, ℕ, ℤ, ⊎_elim, ◌*ℤ◌, ◌+ℤ◌, ◌<ℤ◌, ◌∙◌, ◌≡◌, ◌≢◌, ◌⊎◌}
use Rattle.qh_model.proofs.algebra.{Integers.ring_rules, Order.le_less, Order.zero_or_not, VectorIdentities.vol-linear}
use Rattle.qh_model.proofs.combinations.{Alternatives.all_lower, Vectors.V, Vectors.dot as vdot}
use Rattle.qh_model.proofs.extremes.ExtremeIds.{Listed, alternative_in, apart, combination_of_extremes, combination_within, listed_itself, listed_part}
use Rattle.qh_model.proofs.extremes.{ExtremeIds.no_combination_by, LexicographicOrder.Less}
use Rattle.qh_model.specs.laws.FaceLaws.{ExtremesOfFace, SupportOfExtremes}

-- ---- two directions, one after the other
-- scalar products with n, then with w
abbrev pub pair : Vector → Vector → Vector → V 2
pair n w p = (dot n p, (dot w p, tt))

-- a direction made of two
abbrev pub blend : Vector → Vector → V 2 → Vector
blend n w u = record { x = u.0 *ℤ n.x +ℤ u.1.0 *ℤ w.x; y = u.0 *ℤ n.y +ℤ u.1.0 *ℤ w.y; z = u.0 *ℤ n.z +ℤ u.1.0 *ℤ w.z }

-- the scalar product with this direction
pub blend_is : (n w : Vector) (u : V 2) (p : Vector) → dot (blend n w u) p ≡ vdot 2 u (pair n w p)
blend_is n w u p = simp ring_rules (omega (arith, ints))

-- points of one plane have the same height
pub on_plane : (d e c : ℤ) → pos 0 ≡ d +ℤ c → pos 0 ≡ e +ℤ c → d ≡ e
on_plane d e c h k = omega (arith, ints)

-- a convex combination that lies in a supporting plane combines members in the plane: otherwise it would be beyond them along a direction in the plane, and no
-- point beyond a face is a convex combination
pub face_combination : (at : ℕ → Vector) (A : ℕ → Type 0) (xs : List ℕ) → Listed A xs → (i j k : ℕ) → Supports at A i j k
    → (p : Vector) → vol (at i) (at j) (at k) p ≡ pos 0 → Combination at A p → Combination at (OnPlane at A i j k) p
face_combination at A xs listed i j k supports p on mixed =
    let (ys, q) = listed_part A (λ t. vol (at i) (at j) (at k) (at t) ≡ pos 0) (λ t. zero_or_not (vol (at i) (at j) (at k) (at t))) xs listed in
    ⊎_elim (λ m. m) (λ w. absurd (no_combination_by 2 (pair n w.w) (blend n w.w) (blend_is n w.w) at A p
    (λ t h. lower w t h (zero_or_not (vol (at i) (at j) (at k) (at t)))) mixed)) (alternative_in at (OnPlane at A i j k) ys q p)
  where
    n : Vector
    n = cross (at i) (at j) (at k)

    lower : (w : Separator at (OnPlane at A i j k) p) → (t : ℕ) → A t
        → (vol (at i) (at j) (at k) (at t) ≡ pos 0) ⊎ (¬ (vol (at i) (at j) (at k) (at t) ≡ pos 0)) → Less 2 (pair n w.w (at t)) (pair n w.w p)
    lower w t h (inl e) =
        inr (on_plane _ _ _ (sym e ∙ vol-linear (at i) (at j) (at k) (at t)) (sym on ∙ vol-linear (at i) (at j) (at k) p), inl (w.past t (h, e)))
    lower w t h (inr off) =
        inl (omega (arith, ints, vol-linear (at i) (at j) (at k) (at t), le_less _ _ (supports t h) off, sym on ∙ vol-linear (at i) (at j) (at k) p))

-- an extreme of a face is extreme
face_up : (at : ℕ → Vector) (ids : List ℕ) (i j k : ℕ) → Supports at (Members ids) i j k
    → (l : ℕ) → Extreme at (OnPlane at (Members ids) i j k) l → ¬ (Combination at (Others (Members ids) l) (at l))
face_up at ids i j k s l h m =
    let others = listed_part (Members ids) (λ t. t ≢ l) (apart l) ids (listed_itself ids) in
    h.1 (combination_within at (OnPlane at (Others (Members ids) l) i j k) (Others (OnPlane at (Members ids) i j k) l) (at l)
    (face_combination at (Others (Members ids) l) others.0 others.1 i j k (λ t o. s t o.0) (at l) h.0.1 m) (λ t o. ((o.0.0, o.1), o.0.1)))

-- proof of the law `ExtremesOfFace`
pub extremes_of_face : ExtremesOfFace
extremes_of_face at ids i j k s l = (
  λ h. ((h.0.0, face_up at ids i j k s l h), h.0.1),
  λ h. ((h.0.0, h.1), λ m. h.0.1 (combination_within at (Others (OnPlane at (Members ids) i j k) l) (Others (Members ids) l) (at l) m (λ t o. (o.0.0, o.1)))),
)

-- ---- facts about the extremes hold for the members
-- proof of the law `SupportOfExtremes`
pub support_of_extremes : SupportOfExtremes
support_of_extremes at ids d i j k s l h =
    let m = combination_of_extremes at (Members ids) ids (listed_itself ids) d l h in
    by_lt_z (pos 0) v (λ q. absurd (all_lower at (Extreme at (Members ids)) (at l) n m (below m.a m.has_a q) (below m.b m.has_b q)
    (below m.c m.has_c q) (below m.d m.has_d q))) (λ q. q)
  where
    n : Vector
    n = cross (at i) (at j) (at k)

    v : ℤ
    v = vol (at i) (at j) (at k) (at l)

    below : (e : ℕ) → Extreme at (Members ids) e → pos 0 <ℤ v → dot n (at e) <ℤ dot n (at l)
    below e x q = omega (arith, ints, vol-linear (at i) (at j) (at k) (at l), vol-linear (at i) (at j) (at k) (at e), s e x)
