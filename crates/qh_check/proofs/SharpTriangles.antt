-- Triangles whose steps pair off with an angle at each edge: the neighbours of each.
use Rattle.qh_model.proofs.Common.{◌≡◌, ◌≢◌, ℕ, ◌<◌, arith, List}
use Rattle.qh_model.proofs.Common.{get_or, length, refl, sym, ap, subst, ◌∙◌, inl, inr, cases_lt, nat_tests, ints, pos, ◌<ℤ◌, flat_map, Vector, vol, In, Triple}
use Rattle.qh_model.proofs.{Members.In-get_or, lists.Images.in_map, lists.Joined.in_flat_map, algebra.Signs.equal_negative, algebra.Signs.less_le}
use Rattle.qh_model.proofs.algebra.VectorIdentities.{vol-flip, vol-third_last}
use Rattle.qh_laws.specs.contract.LocallyConvex.{IsRound, HasLowNeighbour, IsSharpAround}
use Rattle.{qh_laws.proofs.Highest.rise_round, qh_check.specs.steps.Rays.IsInside}
use Rattle.qh_check.specs.steps.StepKeys.{step_in, turns, back, AreSteps, AreSharpPairs, IsSharpPair}
use Rattle.qh_check.proofs.StepLists.{at_position, of_turns, of_ups, in_ups, of_downs, in_downs}

-- a triangle with a place strictly below it has three corners
pub ends_differ : (at : ℕ → Vector) (z : Vector) (u v w : ℕ) → vol (at u) (at v) (at w) z <ℤ pos 0 → u ≢ v
ends_differ at z u v w h e =
    let below = subst (λ (x : ℕ). vol (at u) (at x) (at w) z <ℤ pos 0) (sym e) h in
    omega (arith, ints, vol-flip (at u) (at u) (at w) z, below)

module _ (at : ℕ → Vector) (ts : List Triple) (up down : List ℕ) (steps : AreSteps ts up down) (pairs : AreSharpPairs at up down) where
  abbrev all : List Triple
  all = flat_map turns ts

  -- the step back of a step, with its third corner strictly below
  pub record HasPartner (s : Triple) : Type 0 where
    pub g : Triple
    pub there : In g all
    pub from : g.i ≡ s.j
    pub to : g.j ≡ s.i
    pub below : vol (at s.i) (at s.j) (at s.k) (at g.k) <ℤ pos 0

  -- the step back of a step to a higher id
  partner_up : (s : Triple) → In s all → s.i < s.j → HasPartner s
  partner_up s m l = partner_at (at_position step_in up s (in_ups ts up down steps s m (grind (arith, nat_tests, l))))
    where
      partner_at : (k : ℕ) × (k < length up) × (step_in (get_or up k 0) ≡ s) → HasPartner s
      partner_at (k, h, e) = record {
        g = back (step_in (get_or down k 0));
        there = (of_downs ts up down steps (step_in (get_or down k 0)) (in_map step_in down (get_or down k 0) (In-get_or down k 0 behind))).0;
        from = sym pair.to ∙ ap (λ (x : Triple). x.j) e;
        to = sym pair.from ∙ ap (λ (x : Triple). x.i) e;
        below = subst (λ (x : Triple). vol (at x.i) (at x.j) (at x.k) (at (step_in (get_or down k 0)).k) <ℤ pos 0) e pair.below;
      }
        where
          pair : IsSharpPair at (step_in (get_or up k 0)) (step_in (get_or down k 0))
          pair = pairs.each k h

          behind : k < length down
          behind = omega (arith, pairs.count, h)

  -- the step back of a step to a lower id
  partner_down : (s : Triple) → In s all → s.j < s.i → HasPartner s
  partner_down s m l = partner_at (at_position step_in down (back s) (in_downs ts up down steps s m (grind (arith, nat_tests, l))))
    where
      partner_at : (k : ℕ) × (k < length down) × (step_in (get_or down k 0) ≡ back s) → HasPartner s
      partner_at (k, h, e) = record {
        g = step_in (get_or up k 0);
        there = (of_ups ts up down steps (step_in (get_or up k 0)) (in_map step_in up (get_or up k 0) (In-get_or up k 0 ahead))).0;
        from = pair.from ∙ ap (λ (x : Triple). x.i) e;
        to = pair.to ∙ ap (λ (x : Triple). x.j) e;
        below = equal_negative _ _ (sym (vol-third_last (at s.i) (at s.j) (at s.k) (at (step_in (get_or up k 0)).k))) turned;
      }
        where
          ahead : k < length up
          ahead = omega (arith, pairs.count, h)

          pair : IsSharpPair at (step_in (get_or up k 0)) (step_in (get_or down k 0))
          pair = pairs.each k ahead

          moved : (a b c d i j l : ℕ) → a ≡ i → b ≡ j → d ≡ l → vol (at a) (at b) (at c) (at d) <ℤ pos 0 → vol (at i) (at j) (at c) (at l) <ℤ pos 0
          moved a b c d i j l p q r h = rw (sym p, sym q, sym r) h

          turned : vol (at s.j) (at s.i) (at (step_in (get_or up k 0)).k) (at s.k) <ℤ pos 0
          turned = moved _ _ _ _ s.j s.i s.k (pair.from ∙ ap (λ (x : Triple). x.i) e) (pair.to ∙ ap (λ (x : Triple). x.j) e)
              (ap (λ (x : Triple). x.k) e) pair.below

  pub partner : (s : Triple) → In s all → s.i ≢ s.j → HasPartner s
  partner s m n = elim (cases_lt s.i s.j) [
    | inl l ↦ partner_up s m l
    | inr r ↦ elim (cases_lt s.j s.i) [ inl l ↦ partner_down s m l | inr q ↦ absurd (n (omega (arith, r, q))) ]
  ]

  -- a neighbour across an edge, with its third corner strictly below
  abbrev pub Steep : Triple → ℕ → ℕ → Type 0
  Steep t u v = (n : HasLowNeighbour at ts t u v) × (vol (at t.i) (at t.j) (at t.k) (at n.third) <ℤ pos 0)

  module _ (t : Triple) (m : In t ts) (z : Vector) (inside : IsInside at z t) where
    steep : (u v w : ℕ) → IsRound t u v w → In (record { i = u; j = v; k = w }) all → Steep t u v
    steep u v w r n = over (partner (record { i = u; j = v; k = w }) n (ends_differ at z u v w (equal_negative _ _ (rise_round at t u v w r z) inside)))
      where
        over : HasPartner (record { i = u; j = v; k = w }) → Steep t u v
        over p = neighbour (of_turns ts p.g p.there)
          where
            low : vol (at t.i) (at t.j) (at t.k) (at p.g.k) <ℤ pos 0
            low = equal_negative _ _ (sym (rise_round at t u v w r (at p.g.k))) p.below

            neighbour : (s : Triple) × In s ts × IsRound s p.g.i p.g.j p.g.k → Steep t u v
            neighbour (s, i, q) = (
              record {
                next = s;
                there = i;
                third = p.g.k;
                round = subst (λ (x : ℕ). IsRound s x u p.g.k) p.from (subst (λ (y : ℕ). IsRound s p.g.i y p.g.k) p.to q);
                below = less_le _ _ low;
              },
              low,
            )

    over_ij : Steep t t.i t.j
    over_ij = steep t.i t.j t.k (inl (refl, refl, refl)) (in_flat_map turns ts t t m (inl refl))

    over_jk : Steep t t.j t.k
    over_jk = steep t.j t.k t.i (inr (inl (refl, refl, refl))) (in_flat_map turns ts t _ m (inr (inl refl)))

    over_ki : Steep t t.k t.i
    over_ki = steep t.k t.i t.j (inr (inr (refl, refl, refl))) (in_flat_map turns ts t _ m (inr (inr (inl refl))))

    -- so it has a sharp neighbour across each edge
    pub sharp_around : IsSharpAround at ts t
    sharp_around = record {
      around = record { over_ij = over_ij.0; over_jk = over_jk.0; over_ki = over_ki.0 };
      over_ij = over_ij.1;
      over_jk = over_jk.1;
      over_ki = over_ki.1;
    }
