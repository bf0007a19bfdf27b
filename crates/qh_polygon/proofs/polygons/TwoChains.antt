-- Two chains, there and back: their members are the extremes, each once, and the cycle turns left.
use Rattle.qh_model.proofs.Common.{◌≡◌, ℕ, refl, List, [], ◌∷◌, arith, sym, subst, ◌∙◌, ◌⊎◌, inl, inr, ⊎_elim, ints, by_lt_z, pos, neg_ℤ, ◌≤ℤ◌, ◌<ℤ◌, ◌↔◌}
use Rattle.qh_model.proofs.Common.{Extreme, Others, TurnsLeft, In, Once, Vector, cross_product, dot, Separator, rules}
use Rattle.qh_model.proofs.{Decisions.in_or_not, extremes.ExtremeIds.combination_within, extremes.ExtremeIds.alternative_in, extremes.ExtremeIds.listed_itself}
use Rattle.qh_model.proofs.algebra.{Order.le_antisym, Order.mul-nonneg_nonpos, Order.le_less, Ring.ring, Ring.Expr.neg}
use Rattle.qh_model.proofs.algebra.Signs.{not_less, opposite_same, neg_le, le_neg, neg_lt, lt_neg}
use Rattle.qh_model.proofs.algebra.VectorIdentities.{vec, crossE, dotE, put, opposite, oppositeE, dot-opposite}
use Rattle.qh_model.proofs.polygons.Cycles.{AroundCycle, cycle_map}
use Rattle.qh_polygon.proofs.polygons.ChainMembers.{Under, Inside, chain-in, chain-below, chain-once, chain-bottom, under, inside, span}
use Rattle.qh_polygon.proofs.polygons.{Corners.Corner, Corners.greatest_corner, Corners.corner_extreme, Corners.core, Corners.strict, TurnLaws.IsChain}
use Rattle.qh_polygon.proofs.polygons.Cycles.{bottom, bottom-in, cycle-of, in-turned_onto, turned_onto-in, once-turned_onto}
use Rattle.qh_polygon.proofs.polygons.Sides.{Side, Down, sides, down_corner}
use Rattle.qh_polygon.proofs.polygons.Turns.{IsFlat, IsKeyed, turn_about, height_of, turn_laws}
use Rattle.qh_polygon.specs.steps.Chains.{turned_onto}

-- a bracket along the opposite direction
bracket-opposite : (h w n : Vector) → dot (cross_product (opposite h) w) n ≡ neg_ℤ (dot (cross_product h w) n)
bracket-opposite h w n = ring (put h (put w (put n []))) (dotE (crossE (oppositeE (vec 0)) (vec 1)) (vec 2)) (neg (dotE (crossE (vec 0) (vec 1)) (vec 2))) refl

-- heights in the opposite direction differ, too
pub keyed_opposite : (h : Vector) (at : ℕ → Vector) (A : ℕ → Type 0) → IsKeyed h at A → IsKeyed (opposite h) at A
keyed_opposite h at A k = record { same = λ i j ai aj e. k.same i j ai aj (opposite_same _ _ _ _ (dot-opposite h (at i)) (dot-opposite h (at j)) e) }

-- two chains over the same members, from the least to the greatest and back
pub record Chains (n h : Vector) (at : ℕ → Vector) (A : ℕ → Type 0) (m : ℕ) (s : List ℕ) (z : ℕ) (r : List ℕ) : Type 0 where
  pub flat : IsFlat n at A
  pub keyed : IsKeyed h at A
  pub lower : IsChain (turn_about n at) (height_of h at) A m s
  pub upper : IsChain (turn_about n at) (height_of (opposite h) at) A z r
  pub last : (x : ℕ) → A x → height_of h at x ≤ℤ height_of h at m
  pub first : (x : ℕ) → A x → height_of (opposite h) at x ≤ℤ height_of (opposite h) at z

-- one chain, whose heights in the opposite direction are those along k
module _ (n h k : Vector) (at : ℕ → Vector) (A : ℕ → Type 0) (flat : IsFlat n at A) (keyed : IsKeyed h at A) (m a : ℕ) (s : List ℕ)
    (g : IsChain (turn_about n at) (height_of h at) A m (a ∷ s)) (last : (x : ℕ) → A x → height_of h at x ≤ℤ height_of h at m) where
  -- its edges are sides
  way_sides : IsKeyed k at A → ((u v : ℕ) → height_of h at u ≤ℤ height_of h at v → height_of k at v ≤ℤ height_of k at u) → Down (Side n at A) m (a ∷ s)
  way_sides = search (rules, sides, greatest_corner)

  -- it begins at the member that is highest along k
  way_ends : ((u v : ℕ) → height_of k at u ≤ℤ height_of k at v → height_of h at v ≤ℤ height_of h at u) → (z : ℕ) → A z
      → ((x : ℕ) → A x → height_of k at x ≤ℤ height_of k at z) → bottom a s ≡ z
  way_ends turned z az first = let c = chain-bottom (turn_about n at) (height_of h at) A m (a ∷ s) g in
      keyed.same (bottom a s) z c.0 az (le_antisym _ _ (c.1 z az) (turned (bottom a s) z (first (bottom a s) c.0)))

  -- an id that is not a member of the chain is not beyond all of it along w, if w has this direction
  way_beyond : (e : ℕ) → A e → (In e (m ∷ a ∷ s) → ⊥) → (w : Vector) → ((x : ℕ) → In x (m ∷ a ∷ s) → dot w (at x) <ℤ dot w (at e))
      → dot (cross_product h w) n ≤ℤ pos 0 → ⊥
  way_beyond e ae out w past lean =
      let p = span (turn_about n at) (height_of h at) A keyed.same m (a ∷ s) (m ∷ a ∷ s) g (λ x i. i) e ae out
      (le_less _ _ (last e ae) (λ q. out (inl (keyed.same e m ae g.0 q)))) in
      core n h w at A flat p.u p.v e p.is_u p.is_v ae p.before p.after (past p.u p.has_u) (past p.v p.has_v) (mul-nonneg_nonpos _ _ (p.edge e ae) lean)

module _ (n h : Vector) (at : ℕ → Vector) (A : ℕ → Type 0) (m a : ℕ) (s : List ℕ) (z b : ℕ) (r : List ℕ) (c : Chains n h at A m (a ∷ s) z (b ∷ r)) where
  -- heights in the opposite direction differ, too
  kb : IsKeyed (opposite h) at A
  kb = keyed_opposite h at A c.keyed

  -- the order of heights is reversed, there and back
  there : (u v : ℕ) → height_of h at u ≤ℤ height_of h at v → height_of (opposite h) at v ≤ℤ height_of (opposite h) at u
  there u v = le_neg _ _ _ _ (dot-opposite h (at v)) (dot-opposite h (at u))

  back : (u v : ℕ) → height_of (opposite h) at u ≤ℤ height_of (opposite h) at v → height_of h at v ≤ℤ height_of h at u
  back u v = neg_le _ _ _ _ (dot-opposite h (at u)) (dot-opposite h (at v))

  -- the sides of the path there
  lower_sides : Down (Side n at A) m (a ∷ s)
  lower_sides = way_sides n h (opposite h) at A c.flat c.keyed m a s c.lower c.last kb there

  -- the sides of the path back
  upper_sides : Down (Side n at A) z (b ∷ r)
  upper_sides = way_sides n (opposite h) h at A c.flat kb z b r c.upper c.first c.keyed back

  -- the path there begins where the path back ends
  lower_ends : bottom a s ≡ z
  lower_ends = way_ends n h (opposite h) at A c.flat c.keyed m a s c.lower c.last back z c.upper.0 c.first

  -- and ends where it begins
  upper_ends : bottom b r ≡ m
  upper_ends = way_ends n (opposite h) h at A c.flat kb z b r c.upper c.first there m c.lower.0 c.last

  -- the cycle
  abbrev ring_list : List ℕ
  ring_list = turned_onto (a ∷ s) (turned_onto (b ∷ r) [])

  -- the cycle contains the path there, with its end
  in_lower : (x : ℕ) → In x (m ∷ a ∷ s) → In x ring_list
  in_lower = grind (arith, in-turned_onto, upper_ends, bottom-in)

  -- and the path back
  in_upper : (x : ℕ) → In x (z ∷ b ∷ r) → In x ring_list
  in_upper x i = in-turned_onto (a ∷ s) (turned_onto (b ∷ r) []) x (elim i [
    | inl e ↦ inl (subst (λ v. In v (a ∷ s)) (lower_ends ∙ sym e) (bottom-in a s))
    | inr k ↦ inr (in-turned_onto (b ∷ r) [] x (inl k))
  ])

  -- and nothing else
  of_chains : (x : ℕ) → In x ring_list → In x (a ∷ s) ⊎ In x (b ∷ r)
  of_chains x i = ⊎_elim (λ k. inl k) (λ k. inr (⊎_elim (λ l. l) (λ l. absurd l) (turned_onto-in (b ∷ r) [] x k)))
      (turned_onto-in (a ∷ s) (turned_onto (b ∷ r) []) x i)

  -- all are corners
  corners : (x : ℕ) → In x ring_list → Corner at A x
  corners x i = ⊎_elim (λ k. down_corner n at A m (a ∷ s) lower_sides x k) (λ k. down_corner n at A z (b ∷ r) upper_sides x k) (of_chains x i)

  meet : (v : ℕ) → A v → Under (turn_about n at) (height_of h at) A v → Inside (turn_about n at) (height_of (opposite h) at) A v → ⊥
  meet v av u i =
      let k = turn_laws n h at A c.flat c.keyed in
      let back = k.behind u.u v i.t i.q u.is av i.is_t i.is_q (neg_lt _ _ _ _ (dot-opposite h (at v)) (dot-opposite h (at i.t)) i.after) u.before
      (neg_lt _ _ _ _ (dot-opposite h (at i.q)) (dot-opposite h (at v)) i.before) (u.edge i.t i.is_t) (u.edge i.q i.is_q) in
      omega (arith, ints, k.swap v i.q i.t, back, i.sharp)

  -- no inner id is on both paths
  disjoint : (v : ℕ) → In v (a ∷ s) → In v (b ∷ r) → ⊥
  disjoint v i j =
      let av = chain-in (turn_about n at) (height_of h at) A m (a ∷ s) c.lower v (inr i) in
      let up = chain-below (turn_about n at) (height_of (opposite h) at) A z (b ∷ r) c.upper v j in
      let down = chain-below (turn_about n at) (height_of h at) A m (a ∷ s) c.lower v i in
      ⊎_elim (λ l. not_less _ _ (neg_lt _ _ _ _ (dot-opposite h (at v)) (dot-opposite h (at z)) up) (l z c.upper.0))
      (λ u. ⊎_elim (λ l. not_less _ _ (lt_neg _ _ _ _ (dot-opposite h (at m)) (dot-opposite h (at v)) down) (l m c.lower.0)) (λ k.
      meet v av u k) (inside (turn_about n at) (height_of (opposite h) at) A z (b ∷ r) c.upper v j))
      (under (turn_about n at) (height_of h at) A m (a ∷ s) c.lower v (inr i))

  -- each occurs once
  pub ring_once : Once ring_list
  ring_once =
      once-turned_onto (a ∷ s) (turned_onto (b ∷ r) []) (chain-once (turn_about n at) (height_of h at) A m (a ∷ s) c.lower).1
      (once-turned_onto (b ∷ r) [] (chain-once (turn_about n at) (height_of (opposite h) at) A z (b ∷ r) c.upper).1 tt (λ x i j. j))
      (λ x i j. disjoint x i (⊎_elim (λ l. l) (λ l. absurd l) (turned_onto-in (b ∷ r) [] x j)))

  -- a side turns left to all other members
  turns : (u v : ℕ) → Side n at A u v → TurnsLeft at n ring_list u v
  turns u v e w i wu wv = let cw = corners w i in strict n h at A c.flat c.keyed u v w e.from e.to cw e.apart wu wv (e.edge w cw.member)

  -- so all neighbours do
  pub ring_round : AroundCycle (TurnsLeft at n ring_list) ring_list
  ring_round = grind (arith, cycle_map, turns, cycle-of, lower_sides, upper_sides, lower_ends, upper_ends)

  -- ---- the extremes are members
  -- an id that is not on the cycle is not beyond all of it
  beyond_all : (e : ℕ) → A e → (In e ring_list → ⊥) → Separator at (λ x. In x ring_list) (at e) → ⊥
  beyond_all e ae out f =
      by_lt_z (pos 0) (dot (cross_product h f.w) n)
      (λ k. way_beyond n (opposite h) h at A c.flat kb z b r c.upper c.first e ae (λ i. out (in_upper e i)) f.w (λ x i. f.past x (in_upper x i))
      (omega (arith, ints, bracket-opposite h f.w n)))
      (way_beyond n h (opposite h) at A c.flat c.keyed m a s c.lower c.last e ae (λ i. out (in_lower e i)) f.w (λ x i. f.past x (in_lower x i)))

  -- so each extreme id is on it
  extreme_in : (e : ℕ) → Extreme at A e → In e ring_list
  extreme_in e x = ⊎_elim (λ i. i)
      (λ out. absurd (⊎_elim (λ f. x.1 (combination_within at (λ v. In v ring_list) (Others A e) (at e) f
      (λ j i. ((corners j i).member, λ k. out (subst (λ v. In v ring_list) k i)))))
      (beyond_all e x.0 out) (alternative_in at (λ v. In v ring_list) ring_list (listed_itself ring_list) (at e)))) (in_or_not e ring_list)

  -- the cycle has exactly the extreme ids
  pub ring_members : (i : ℕ) → In i ring_list ↔ Extreme at A i
  ring_members i = (λ k. corner_extreme at A i (corners i k), extreme_in i)
