-- A triangle that is highest along a direction, relative to its distance from z, is met in that direction: a walk over the highest triangles, from a place
-- inside one of them, reaches it.
use Rattle.qh_model.proofs.Common.{◌≡◌, ℕ, refl, sym, ap, subst, ◌∙◌, arith, List, [], ◌∷◌, Bool, true, false, not, ◌&&◌, ◌⊎◌, inl, inr, and_parts, ints, ℤ}
use Rattle.qh_model.proofs.Common.{pos, ◌-ℤ◌, ◌*ℤ◌, neg_ℤ, ◌<ℤ◌, Triple, edges, vol, In, Vector}
use Rattle.qh_model.proofs.algebra.{Integers.mul_comm, Ring.ring}
use Rattle.qh_model.proofs.algebra.{Order.mul-pos, Order.mul-pos_neg, Order.neg-positive, Ring.Expr.var, Ring.Expr.mul, Ring.Expr.neg, Signs.equal_negative}
use Rattle.qh_laws.specs.contract.LocallyConvex.{IsRound, HasLowNeighbour, IsConvexAround, is_met}
use Rattle.qh_laws.proofs.{Ascents.Next, Ascents.ascent, Rounds.round_fits, Rounds.flip_round, Rounds.turn_product, Rounds.vol-round, Rounds.vol-outwards}
use Rattle.qh_laws.proofs.{Crossings.signs_fit, Crossings.GoesOn, Crossings.goes_on, Crossings.Begins, Crossings.begins, Directions.IsOffEdges}
use Rattle.qh_laws.proofs.{Greatest.IsGreatest, Signs.above, Signs.above_is, Signs.below_is, Signs.above-neg}
use Rattle.qh_laws.proofs.Highest.{rise, rise_round, depth, height, HighestMet, neighbour_greatest, round_next, edge_of}

-- ---- the walk from q to x over triangles that are highest at x
module _ (at : ℕ → Vector) (z : Vector) (ts : List Triple) (inside : (t : Triple) → In t ts → vol (at t.i) (at t.j) (at t.k) z <ℤ pos 0)
    (convex : (t : Triple) → In t ts → IsConvexAround at ts t) (x : Vector) (off : IsOffEdges at ts z x) where
  -- the neighbour over an edge
  over_round : (t : Triple) → In t ts → (u v w : ℕ) → IsRound t u v w → HasLowNeighbour at ts t u v
  over_round t i u v w (inl (p, q, r)) = subst (λ a. HasLowNeighbour at ts t a v) p (subst (λ b. HasLowNeighbour at ts t t.i b) q (convex t i).over_ij)
  over_round t i u v w (inr (inl (p, q, r))) = subst (λ a. HasLowNeighbour at ts t a v) p (subst (λ b. HasLowNeighbour at ts t t.j b) q (convex t i).over_jk)
  over_round t i u v w (inr (inr (p, q, r))) = subst (λ a. HasLowNeighbour at ts t a v) p (subst (λ b. HasLowNeighbour at ts t t.k b) q (convex t i).over_ki)

  -- true if x lies on the inner side of an edge
  abbrev inwards : ℕ → ℕ → Bool
  inwards u v = above (vol z (at u) (at v) x)

  -- a triangle with x on the inner side of all edges is met
  met_round : (t : Triple) (u v w : ℕ) → IsRound t u v w → inwards u v ≡ true → inwards v w ≡ true → inwards w u ≡ true → is_met at z x t ≡ true
  met_round t u v w (inl (p, q, r)) e f g = plain t.i t.j t.k u v w p q r e f g
    where
      plain : (i j k u v w : ℕ) → i ≡ u → j ≡ v → k ≡ w → inwards u v ≡ true → inwards v w ≡ true → inwards w u ≡ true
          → (inwards i j && (inwards j k && inwards k i)) ≡ true
      plain i j k u v w p q r e f g = rw (p, q, r, e, f, g) refl
  met_round t u v w (inr (inl (p, q, r))) e f g = plain t.i t.j t.k u v w p q r e f g
    where
      plain : (i j k u v w : ℕ) → j ≡ u → k ≡ v → i ≡ w → inwards u v ≡ true → inwards v w ≡ true → inwards w u ≡ true
          → (inwards i j && (inwards j k && inwards k i)) ≡ true
      plain i j k u v w p q r e f g = rw (p, q, r, e, f, g) refl
  met_round t u v w (inr (inr (p, q, r))) e f g = plain t.i t.j t.k u v w p q r e f g
    where
      plain : (i j k u v w : ℕ) → k ≡ u → i ≡ v → j ≡ w → inwards u v ≡ true → inwards v w ≡ true → inwards w u ≡ true
          → (inwards i j && (inwards j k && inwards k i)) ≡ true
      plain i j k u v w p q r e f g = rw (p, q, r, e, f, g) refl

  module _ (q : Vector) (off_q : IsOffEdges at ts z q) (corners : (e : ℕ × ℕ) → In e (edges ts) → ¬ (vol z (at e.0) x q ≡ pos 0)) where
    abbrev side : ℕ → Bool
    side i = above (vol z (at i) x q)

    -- true if q lies on the inner side of an edge
    abbrev behind : ℕ → ℕ → Bool
    behind u v = above (vol z (at u) (at v) q)

    -- the signs round a triangle
    signs_round : (t : Triple) → In t ts → (u v w : ℕ) → IsRound t u v w
        → signs_fit (side u) (side v) (side w) (inwards u v) (inwards v w) (inwards w u) (behind u v) (behind v w) (behind w u) ≡ true
    signs_round t i u v w r =
        round_fits z (at u) (at v) (at w) x q (equal_negative (rise at t z) (vol (at u) (at v) (at w) z) (rise_round at t u v w r z) (inside t i))
        (off (u, v) first) (off (v, w) second) (off (w, u) third) (off_q (u, v) first) (off_q (v, w) second) (off_q (w, u) third)
        (corners (u, v) first) (corners (v, w) second) (corners (w, u) third)
      where
        first : In (u, v) (edges ts)
        first = edge_of ts t i u v w r

        second : In (v, w) (edges ts)
        second = edge_of ts t i v w u (round_next t u v w r)

        third : In (w, u) (edges ts)
        third = edge_of ts t i w u v (round_next t v w u (round_next t u v w r))

    -- the line from q to x leaves a triangle across an edge, if the triangle is highest at x
    record IsExit (e : ℕ × ℕ) : Type 0 where
      t : Triple
      there : In t ts
      w : ℕ
      round : IsRound t e.0 e.1 w
      top : IsGreatest (height at z x ts) (depth at z x ts) t ts
      left : side e.0 ≡ true
      right : side e.1 ≡ false
      out : inwards e.0 e.1 ≡ false
      back : behind e.0 e.1 ≡ true

    -- the position on the line, as a fraction
    abbrev gone : (ℕ × ℕ) → ℤ
    gone e = vol z (at e.0) (at e.1) q

    abbrev left_over : (ℕ × ℕ) → ℤ
    left_over e = neg_ℤ (vol z (at e.0) (at e.1) x)

    -- x is past the edge
    past : (e : ℕ × ℕ) → IsExit e → vol z (at e.0) (at e.1) x <ℤ pos 0
    past e h = below_is (vol z (at e.0) (at e.1) x) (off e (edge_of ts h.t h.there e.0 e.1 h.w h.round)) h.out

    positive : (e : ℕ × ℕ) → IsExit e → pos 0 <ℤ left_over e
    positive e h = neg-positive (vol z (at e.0) (at e.1) x) (past e h)

    abbrev Goes : (ℕ × ℕ) → Type 0
    Goes e = (HighestMet at z x ts) ⊎ Next gone left_over IsExit (HighestMet at z x ts) (edges ts) e

    -- the position in the next triangle
    onwards : (e : ℕ × ℕ) → IsExit e → Goes e
    onwards (u, v) h = by (over_round h.t h.there u v h.w h.round)
      where
        by : HasLowNeighbour at ts h.t u v → Goes (u, v)
        by n =
            met_or_out (goes_on (side v) (side u) (side n.third) (inwards v u) (inwards u n.third) (inwards n.third v)
            (behind v u) (behind u n.third) (behind n.third v) (signs_round n.next n.there v u n.third n.round) h.right h.left entered
            (flip q (off_q (u, v) (edge_of ts h.t h.there u v h.w h.round)) ∙ ap not h.back))
          where
            flip : (y : Vector) → ¬ (vol z (at u) (at v) y ≡ pos 0) → above (vol z (at v) (at u) y) ≡ not (above (vol z (at u) (at v) y))
            flip y m = ap above (flip_round z (at u) (at v) y) ∙ above-neg (vol z (at u) (at v) y) m

            entered : inwards v u ≡ true
            entered = flip x (off (u, v) (edge_of ts h.t h.there u v h.w h.round)) ∙ ap not h.out

            top : IsGreatest (height at z x ts) (depth at z x ts) n.next ts
            top = neighbour_greatest at z x ts inside h.t h.there h.top u v h.w h.round n (past (u, v) h)

            second : IsRound n.next u n.third v
            second = round_next n.next v u n.third n.round

            third : IsRound n.next n.third v u
            third = round_next n.next u n.third v second

            behind_it : pos 0 <ℤ vol z (at v) (at u) (at n.third)
            behind_it = turned (vol z (at v) (at u) (at n.third)) (vol (at v) (at u) (at n.third) z) (rise at n.next z)
                (vol-outwards z (at v) (at u) (at n.third)) (rise_round at n.next v u n.third n.round z) (inside n.next n.there)
              where
                turned : (a b c : ℤ) → a ≡ neg_ℤ b → c ≡ b → c <ℤ pos 0 → pos 0 <ℤ a
                turned a b c e f h = omega (arith, ints)

            half : (a b : ℤ) → neg_ℤ a *ℤ b ≡ a *ℤ neg_ℤ b
            half a b = ring (a ∷ b ∷ []) (mul (neg (var 0)) (var 1)) (mul (var 0) (neg (var 1))) refl

            farther_second : pos 0 <ℤ vol z (at u) x q → (gone (u, v) *ℤ left_over (u, n.third)) <ℤ (gone (u, n.third) *ℤ left_over (u, v))
            farther_second s =
                plain (vol z (at v) (at u) x) (vol z (at u) (at n.third) q) (vol z (at v) (at u) q) (vol z (at u) (at n.third) x)
                (gone (u, v)) (vol z (at u) (at v) x) (vol z (at v) (at u) (at n.third) *ℤ vol z (at u) x q)
                (flip_round z (at u) (at v) x) (flip_round z (at u) (at v) q) (turn_product z (at v) (at u) (at n.third) x q) (mul-pos _ _ behind_it s)
              where
                gap : (a b c : ℤ) → a -ℤ b ≡ c → pos 0 <ℤ c → b <ℤ a
                gap a b c e h = omega (arith, ints)

                plain : (a b c d g l k : ℤ) → a ≡ neg_ℤ l → c ≡ neg_ℤ g → a *ℤ b -ℤ c *ℤ d ≡ k → pos 0 <ℤ k → (g *ℤ neg_ℤ d) <ℤ (b *ℤ neg_ℤ l)
                plain a b c d g l k e f p h =
                    subst (λ m. m <ℤ (b *ℤ neg_ℤ l)) (ap (λ m. m *ℤ d) f ∙ half g d)
                    (subst (λ m. (c *ℤ d) <ℤ m) (ap (λ m. m *ℤ b) e ∙ mul_comm (neg_ℤ l) b) (gap (a *ℤ b) (c *ℤ d) k p h))

            farther_third : vol z (at v) x q <ℤ pos 0 → (gone (u, v) *ℤ left_over (n.third, v)) <ℤ (gone (n.third, v) *ℤ left_over (u, v))
            farther_third s =
                plain (vol z (at n.third) (at v) x) (vol z (at v) (at u) q) (vol z (at n.third) (at v) q) (vol z (at v) (at u) x)
                (gone (u, v)) (vol z (at u) (at v) x) (vol z (at n.third) (at v) (at u) *ℤ vol z (at v) x q)
                (flip_round z (at u) (at v) x) (flip_round z (at u) (at v) q) (turn_product z (at n.third) (at v) (at u) x q)
                (mul-pos_neg _ _ (subst (λ m. pos 0 <ℤ m) (sym (vol-round z (at n.third) (at v) (at u))) behind_it) s)
              where
                gap : (a b c : ℤ) → a -ℤ b ≡ c → c <ℤ pos 0 → a <ℤ b
                gap a b c e h = omega (arith, ints)

                plain : (a b c d g l k : ℤ) → d ≡ neg_ℤ l → b ≡ neg_ℤ g → a *ℤ b -ℤ c *ℤ d ≡ k → k <ℤ pos 0 → (g *ℤ neg_ℤ a) <ℤ (c *ℤ neg_ℤ l)
                plain a b c d g l k e f p h =
                    subst (λ m. m <ℤ (c *ℤ neg_ℤ l)) (ap (λ m. a *ℤ m) f ∙ mul_comm a (neg_ℤ g) ∙ half g a)
                    (subst (λ m. (a *ℤ b) <ℤ m) (ap (λ m. c *ℤ m) e) (gap (a *ℤ b) (c *ℤ d) k p h))

            met_or_out : GoesOn (side n.third) (inwards u n.third) (inwards n.third v) (behind u n.third) (behind n.third v) → Goes (u, v)
            met_or_out (inl e) = let p = and_parts _ _ e in inl (n.next, n.there, top, met_round n.next v u n.third n.round entered p.0 p.1)
            met_or_out (inr (inl (c, o, b))) =
                inr (
                  (u, n.third),
                  edge_of ts n.next n.there u n.third v second,
                  record { t = n.next; there = n.there; w = v; round = second; top = top; left = h.left; right = c; out = o; back = b },
                  farther_second (above_is (vol z (at u) x q) h.left),
                )
            met_or_out (inr (inr (c, o, b))) =
                inr (
                  (n.third, v),
                  edge_of ts n.next n.there n.third v u third,
                  record { t = n.next; there = n.there; w = u; round = third; top = top; left = c; right = h.right; out = o; back = b },
                  farther_third (below_is (vol z (at v) x q) (corners (v, u) (edge_of ts n.next n.there v u n.third n.round)) h.right),
                )

    -- the walk from a triangle that has q inside
    pub walked : (t : Triple) → In t ts → IsGreatest (height at z x ts) (depth at z x ts) t ts
        → behind t.i t.j ≡ true → behind t.j t.k ≡ true → behind t.k t.i ≡ true → (HighestMet at z x ts)
    walked t i g e f k =
        met_or_out (begins (side t.i) (side t.j) (side t.k) (inwards t.i t.j) (inwards t.j t.k) (inwards t.k t.i) (behind t.i t.j) (behind t.j t.k)
        (behind t.k t.i) (signs_round t i t.i t.j t.k (inl (refl, refl, refl))) e f k)
      where
        go : (e : ℕ × ℕ) → IsExit e → (HighestMet at z x ts)
        go = ascent gone left_over IsExit (HighestMet at z x ts) (edges ts) positive onwards

        over : (u v w : ℕ) → IsRound t u v w → side u ≡ true → side v ≡ false → inwards u v ≡ false → behind u v ≡ true → (HighestMet at z x ts)
        over u v w r a b o back = go (u, v) (record {
          t = t;
          there = i;
          w = w;
          round = r;
          top = g;
          left = a;
          right = b;
          out = o;
          back = back;
        })

        met_or_out : Begins (side t.i) (side t.j) (side t.k) (inwards t.i t.j) (inwards t.j t.k) (inwards t.k t.i) → (HighestMet at z x ts)
        met_or_out (inl m) = (t, i, g, m)
        met_or_out (inr (inl (a, b, o))) = over t.i t.j t.k (inl (refl, refl, refl)) a b o e
        met_or_out (inr (inr (inl (a, b, o)))) = over t.j t.k t.i (inr (inl (refl, refl, refl))) a b o f
        met_or_out (inr (inr (inr (a, b, o)))) = over t.k t.i t.j (inr (inr (refl, refl, refl))) a b o k
