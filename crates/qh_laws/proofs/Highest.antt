-- Triangles that begin at any corner, and their heights along a direction relative to their distances from z.
use Rattle.qh_model.proofs.Common.{◌≡◌, ℕ, refl, sym, subst, ◌∙◌, arith, List, [], ◌∷◌, true, inl, inr, ints, ℤ, pos, ◌-ℤ◌, ◌*ℤ◌, neg_ℤ, ◌≤ℤ◌, ◌<ℤ◌, Triple}
use Rattle.qh_model.proofs.Common.{edges, cross, vol, In, Vector}
use Rattle.qh_model.proofs.algebra.{Order.mul-nonpos, Order.neg-positive, Ring.ring, Ring.Expr.var, Ring.Expr.mul, Ring.Expr.neg, Signs.less_le}
use Rattle.qh_model.proofs.algebra.VectorIdentities.{vec, put, volE, edge_product, vol-flip}
use Rattle.qh_laws.specs.contract.LocallyConvex.{IsRound, HasLowNeighbour, is_met}
use Rattle.qh_laws.proofs.Greatest.{IsGreatest, ratio-trans}

-- a volume does not change if its first three points rotate
pub vol-turn : (a b c y : Vector) → vol a b c y ≡ vol b c a y
unfolding vol cross
vol-turn a b c y = ring (put a (put b (put c (put y [])))) (volE (vec 0) (vec 1) (vec 2) (vec 3)) (volE (vec 1) (vec 2) (vec 0) (vec 3)) refl

module _ (at : ℕ → Vector) where
  -- the height of y above t
  abbrev pub rise : Triple → Vector → ℤ
  rise t y = vol (at t.i) (at t.j) (at t.k) y

  -- the height above the triangle that begins at another corner
  pub rise_round : (t : Triple) (u v w : ℕ) → IsRound t u v w → (y : Vector) → rise t y ≡ vol (at u) (at v) (at w) y
  rise_round t u v w (inl (p, q, r)) y = same (t.i) (t.j) (t.k) u v w p q r
    where
      same : (i j k u v w : ℕ) → i ≡ u → j ≡ v → k ≡ w → vol (at i) (at j) (at k) y ≡ vol (at u) (at v) (at w) y
      same i j k u v w p q r = rw (p, q, r) refl
  rise_round t u v w (inr (inl (p, q, r))) y = vol-turn (at t.i) (at t.j) (at t.k) y ∙ same (t.j) (t.k) (t.i) u v w p q r
    where
      same : (i j k u v w : ℕ) → i ≡ u → j ≡ v → k ≡ w → vol (at i) (at j) (at k) y ≡ vol (at u) (at v) (at w) y
      same i j k u v w p q r = rw (p, q, r) refl
  rise_round t u v w (inr (inr (p, q, r))) y =
      vol-turn (at t.i) (at t.j) (at t.k) y ∙ vol-turn (at t.j) (at t.k) (at t.i) y ∙ same (t.k) (t.i) (t.j) u v w p q r
    where
      same : (i j k u v w : ℕ) → i ≡ u → j ≡ v → k ≡ w → vol (at i) (at j) (at k) y ≡ vol (at u) (at v) (at w) y
      same i j k u v w p q r = rw (p, q, r) refl

  module _ (z x : Vector) (ts : List Triple) where
    -- the distance of z below t
    abbrev pub depth : Triple → ℤ
    depth t = neg_ℤ (rise t z)

    -- the height of x above t
    abbrev pub height : Triple → ℤ
    height t = rise t x

    -- a triangle that is highest at x relative to its depth, and met in the direction of x
    abbrev pub HighestMet : Type 0
    HighestMet = (g : Triple) × In g ts × IsGreatest height depth g ts × (is_met at z x g ≡ true)

    -- past an edge of t, x is higher above the neighbour
    pub past_edge : (t : Triple) (u v w : ℕ) → IsRound t u v w → (n : HasLowNeighbour at ts t u v)
        → height n.next *ℤ depth t -ℤ height t *ℤ depth n.next ≡ rise t (at n.third) *ℤ vol z (at u) (at v) x
    past_edge t u v w r n =
        plain (rise t z) (height t) (rise n.next z) (height n.next) (rise t (at n.third)) (vol z (at u) (at v) x)
        (vol (at u) (at v) (at w) z) (vol (at u) (at v) (at w) x) (vol (at u) (at v) (at n.third) z) (vol (at u) (at v) (at n.third) x)
        (vol (at u) (at v) (at w) (at n.third)) (vol (at u) (at v) z x)
        (rise_round t u v w r z) (rise_round t u v w r x) (other z) (other x) (rise_round t u v w r (at n.third))
        (sym (vol-turn z (at u) (at v) x)) (edge_product (at u) (at v) (at w) (at n.third) z x)
      where
        other : (y : Vector) → rise n.next y ≡ neg_ℤ (vol (at u) (at v) (at n.third) y)
        other y = rise_round n.next v u n.third n.round y ∙ vol-flip (at v) (at u) (at n.third) y

        swapped : (a b : ℤ) → neg_ℤ a *ℤ neg_ℤ b ≡ b *ℤ a
        swapped a b = ring (a ∷ b ∷ []) (mul (neg (var 0)) (neg (var 1))) (mul (var 1) (var 0)) refl

        kept : (a b : ℤ) → a *ℤ neg_ℤ (neg_ℤ b) ≡ a *ℤ b
        kept a b = ring (a ∷ b ∷ []) (mul (var 0) (neg (neg (var 1)))) (mul (var 0) (var 1)) refl

        plain : (tz tx nz nx tw e a a' b b' w e' : ℤ) → tz ≡ a → tx ≡ a' → nz ≡ neg_ℤ b → nx ≡ neg_ℤ b' → tw ≡ w → e' ≡ e
            → a *ℤ b' -ℤ a' *ℤ b ≡ w *ℤ e' → nx *ℤ neg_ℤ tz -ℤ tx *ℤ neg_ℤ nz ≡ tw *ℤ e
        plain tz tx nz nx tw e a a' b b' w e' f g h i j k id = rw (f, g, h, i, j, ← k, swapped b' a, kept a' b) id

    -- the neighbour past an edge is at least as high relative to its depth
    pub neighbour_greatest : ((s : Triple) → In s ts → rise s z <ℤ pos 0) → (t : Triple) → In t ts → IsGreatest height depth t ts
        → (u v w : ℕ) → IsRound t u v w → (n : HasLowNeighbour at ts t u v) → vol z (at u) (at v) x <ℤ pos 0 → IsGreatest height depth n.next ts
    neighbour_greatest inside t i g u v w r n l s j =
        ratio-trans (height s) (height t) (height n.next) (depth s) (depth t) (depth n.next)
        (neg-positive (rise s z) (inside s j)) (neg-positive (rise t z) (inside t i)) (neg-positive (rise n.next z) (inside n.next n.there)) (g s j)
        (plain (height n.next *ℤ depth t) (height t *ℤ depth n.next) (rise t (at n.third) *ℤ vol z (at u) (at v) x)
        (past_edge t u v w r n) (mul-nonpos (rise t (at n.third)) (vol z (at u) (at v) x) n.below (less_le (vol z (at u) (at v) x) (pos 0) l)))
      where
        plain : (a b c : ℤ) → a -ℤ b ≡ c → pos 0 ≤ℤ c → b ≤ℤ a
        plain a b c e h = omega (arith, ints)

-- ---- triangles that begin at any corner
-- the triangle that begins at its next corner
pub round_next : (t : Triple) (u v w : ℕ) → IsRound t u v w → IsRound t v w u
round_next t u v w (inl (p, q, r)) = inr (inl (q, r, p))
round_next t u v w (inr (inl (p, q, r))) = inr (inr (q, r, p))
round_next t u v w (inr (inr (p, q, r))) = inl (q, r, p)

-- the edges of a triangle of the list are edges of the list
edges_of : (ts : List Triple) (t : Triple) → In t ts → In (t.i, t.j) (edges ts) × In (t.j, t.k) (edges ts) × In (t.k, t.i) (edges ts)
edges_of [] t i = absurd i
edges_of (s ∷ ts) t (inl e) =
    subst (λ (r : Triple). In (r.i, r.j) (edges (s ∷ ts)) × In (r.j, r.k) (edges (s ∷ ts)) × In (r.k, r.i) (edges (s ∷ ts))) (sym e)
    (inl refl, inr (inl refl), inr (inr (inl refl)))
edges_of (s ∷ ts) t (inr i) = let r = edges_of ts t i in (inr (inr (inr r.0)), inr (inr (inr r.1)), inr (inr (inr r.2)))

-- the same for any corner
pub edge_of : (ts : List Triple) (t : Triple) → In t ts → (u v w : ℕ) → IsRound t u v w → In (u, v) (edges ts)
edge_of ts t i u v w (inl (p, q, r)) = subst (λ a. In (a, v) (edges ts)) p (subst (λ b. In (t.i, b) (edges ts)) q (edges_of ts t i).0)
edge_of ts t i u v w (inr (inl (p, q, r))) = subst (λ a. In (a, v) (edges ts)) p (subst (λ b. In (t.j, b) (edges ts)) q (edges_of ts t i).1)
edge_of ts t i u v w (inr (inr (p, q, r))) = subst (λ a. In (a, v) (edges ts)) p (subst (λ b. In (t.k, b) (edges ts)) q (edges_of ts t i).2)
