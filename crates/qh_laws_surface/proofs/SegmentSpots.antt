-- Two spots close to the segment between two corners of a polygon, one on either side, and on the same side of all other lines.
use Rattle.qh_model.proofs.Common.{◌≡◌, ◌≢◌, ℕ, ◌<◌, arith, refl, sym, ap, subst, ◌∙◌, inl, inr, ⊎_elim, ◌⊎◌, List, [], ◌∷◌, ints, by_lt_z, ℤ, pos, ◌+ℤ◌, ◌*ℤ◌}
use Rattle.qh_model.proofs.Common.{◌≤ℤ◌, ◌<ℤ◌, cross, vol, In, Vector, origin, dot}
use Rattle.qh_model.specs.headline.Predicates.{left}
use Rattle.qh_model.proofs.{Decisions.Decided, Decisions.same_id, Decisions.same_number, Decisions.both, Decisions.contrary, algebra.VectorIdentities.left-flip}
use Rattle.qh_model.proofs.algebra.Integers.{mul_comm, zero_mul}
use Rattle.qh_model.proofs.algebra.Order.{mul-pos, mul-nonneg, product_zero, positive_le, le_less}
use Rattle.qh_laws.proofs.Perturbed.{AllUp, AllOff, perturbed}
use Rattle.qh_laws_surface.proofs.{ConvexLists.AllTurn, ConvexLists.none_twice, ConvexLists.none_back, SpotTurns.spot_turn-back}
use Rattle.qh_laws_surface.proofs.PlaneSpots.{triple, turn_form, between, between_turn, between_level}
use Rattle.qh_laws_surface.proofs.NearSpots.{near_one, Near, natural, chosen, in_chosen, of_chosen, pairs, in_pairs, three_turn, form_some, form_level}
use Rattle.qh_laws_surface.specs.contract.Covering.{Spot, spot_height, spot_turn}

module _ (at : ℕ → Vector) (i j k : ℕ) (r : List ℕ) (turns : AllTurn (cross (at i) (at j) (at k)) at (i ∷ j ∷ k ∷ r))
    (level : (l : ℕ) → In l (i ∷ j ∷ k ∷ r) → vol (at i) (at j) (at k) (at l) ≡ pos 0)
    (u v : ℕ) (mu : In u (i ∷ j ∷ k ∷ r)) (mv : In v (i ∷ j ∷ k ∷ r)) (ne : u ≢ v) where
  abbrev F : List ℕ
  F = i ∷ j ∷ k ∷ r

  abbrev n : Vector
  n = cross (at i) (at j) (at k)

  abbrev L : ℕ → ℕ → ℕ → ℤ
  L x y z = left n (at x) (at y) (at z)

  -- ---- a spot of the segment, on no line that does not hold both corners
  abbrev OffBoth : (ℕ × ℕ) → Type 0
  OffBoth e = ¬ ((L e.0 e.1 u ≡ pos 0) × (L e.0 e.1 v ≡ pos 0))

  off_both : (e : ℕ × ℕ) → Decided (OffBoth e)
  off_both e = contrary ((L e.0 e.1 u ≡ pos 0) × (L e.0 e.1 v ≡ pos 0))
      (both (L e.0 e.1 u ≡ pos 0) (L e.0 e.1 v ≡ pos 0) (same_number (L e.0 e.1 u) (pos 0)) (same_number (L e.0 e.1 v) (pos 0)))

  abbrev line : (ℕ × ℕ) → Vector
  line e = triple (L e.0 e.1 u) (L e.0 e.1 v) (pos 0)

  lines : List Vector
  lines = chosen OffBoth off_both line (pairs F)

  ups : List Vector
  ups = triple (pos 1) (pos 0) (pos 0) ∷ triple (pos 0) (pos 1) (pos 0) ∷ []

  weights : (y : Vector) × AllUp ups y × AllOff lines y
  unfolding lines ups
  weights = perturbed lines ups (triple (pos 1) (pos 1) (pos 0)) some up
    where
      some : (l : Vector) → In l lines → ¬ (l ≡ origin)
      some l m = by (of_chosen OffBoth off_both line l (pairs F) m)
        where
          by : (e : ℕ × ℕ) × In e (pairs F) × OffBoth e × (l ≡ line e) → ¬ (l ≡ origin)
          by (e, o, p, q) = λ z. p (ap (λ (w : Vector). w.x) (sym q ∙ z), ap (λ (w : Vector). w.y) (sym q ∙ z))

      up : (p : Vector) → In p ups → pos 0 <ℤ dot p (triple (pos 1) (pos 1) (pos 0))
      up p (inl e) = subst (λ x. pos 0 <ℤ dot x (triple (pos 1) (pos 1) (pos 0))) (sym e) (omega (arith, ints))
      up p (inr (inl e)) = subst (λ x. pos 0 <ℤ dot x (triple (pos 1) (pos 1) (pos 0))) (sym e) (omega (arith, ints))
      up p (inr (inr e)) = absurd e

  record Weights : Type 0 where
    a : ℕ
    b : ℕ
    some_a : 0 < a
    some_b : 0 < b
    off : (x y : ℕ) → In x F → In y F → OffBoth (x, y) → ¬ (pos a *ℤ L x y u +ℤ pos b *ℤ L x y v ≡ pos 0)

  weighed : Weights
  unfolding lines ups
  weighed = by weights
    where
      by : (y : Vector) × AllUp ups y × AllOff lines y → Weights
      by (y, up, off) = made (natural y.x (let h = up (triple (pos 1) (pos 0) (pos 0)) (inl refl) in omega (arith, ints, h)))
          (natural y.y (let h = up (triple (pos 0) (pos 1) (pos 0)) (inr (inl refl)) in omega (arith, ints, h)))
        where
          made : (c : ℕ) × (0 < c) × (y.x ≡ pos c) → (c : ℕ) × (0 < c) × (y.y ≡ pos c) → Weights
          made (a, ha, ea) (b, hb, eb) = record {
            a = a;
            b = b;
            some_a = ha;
            some_b = hb;
            off = λ x z mx mz o e. off (line (x, z)) (in_chosen OffBoth off_both line (x, z) (pairs F) (in_pairs x z F mx mz) o) (
                ap (λ w. L x z u *ℤ w +ℤ L x z v *ℤ y.y +ℤ pos 0 *ℤ y.z) ea ∙ ap (λ w. L x z u *ℤ pos a +ℤ L x z v *ℤ w +ℤ pos 0 *ℤ y.z) eb
                ∙ omega (arith, ints, e, mul_comm (L x z u) (pos a), mul_comm (L x z v) (pos b), zero_mul y.z));
          }

  pub mid : Spot
  mid = between at u v u weighed.a weighed.b 0 weighed.some_a

  pub mid_level : spot_height at i j k mid ≡ pos 0
  unfolding mid
  mid_level = between_level at u v u weighed.a weighed.b 0 weighed.some_a i j k (level u mu) (level v mv) (level u mu)

  mid_turn : (x y : ℕ) → spot_turn n at x y mid ≡ pos weighed.a *ℤ L x y u +ℤ pos weighed.b *ℤ L x y v
  unfolding mid
  mid_turn x y = between_turn at u v u weighed.a weighed.b 0 weighed.some_a n x y ∙ omega (arith, ints, zero_mul (L x y u))

  -- ---- spots beside it, to the left of the line from u to v and to the right
  pub to_left : Near at i j k r turns mid mid_level (turn_form at i j k u v ∷ [])
  to_left = near_one at i j k r turns mid mid_level (turn_form at i j k u v) (form_some at i j k r turns u v mu mv ne)
      (form_level at i j k r turns mid mid_level u v (omega (
        arith,
        ints,
        mid_turn u v,
        product_zero (pos weighed.a) (L u v u) (none_back n at u v),
        product_zero (pos weighed.b) (L u v v) (none_twice n at u v),
      )))

  pub to_right : Near at i j k r turns mid mid_level (turn_form at i j k v u ∷ [])
  to_right = near_one at i j k r turns mid mid_level (turn_form at i j k v u) (form_some at i j k r turns v u mv mu (λ e. ne (sym e)))
      (form_level at i j k r turns mid mid_level v u (omega (
        arith,
        ints,
        mid_turn v u,
        product_zero (pos weighed.a) (L v u u) (none_twice n at v u),
        product_zero (pos weighed.b) (L v u v) (none_back n at v u),
      )))

  -- both lie to the left of a side that has neither corner to its right, and one to its left
  pub both_left : (x y : ℕ) → In x F → In y F → pos 0 ≤ℤ L x y u → pos 0 ≤ℤ L x y v → (pos 0 <ℤ L x y u) ⊎ (pos 0 <ℤ L x y v)
      → (pos 0 <ℤ spot_turn n at x y to_left.spot) × (pos 0 <ℤ spot_turn n at x y to_right.spot)
  both_left x y mx my hu hv some = (to_left.keeps x y mx my (by some), to_right.keeps x y mx my (by some))
    where
      a : pos 0 <ℤ pos weighed.a
      a = let h = weighed.some_a in omega (arith, ints, h)

      b : pos 0 <ℤ pos weighed.b
      b = let h = weighed.some_b in omega (arith, ints, h)

      by : (pos 0 <ℤ L x y u) ⊎ (pos 0 <ℤ L x y v) → pos 0 <ℤ spot_turn n at x y mid
      by (inl h) = omega (arith, ints, mid_turn x y, mul-pos (pos weighed.a) (L x y u) a h, mul-nonneg (pos weighed.b) (L x y v) (positive_le _ b) hv)
      by (inr h) = omega (arith, ints, mid_turn x y, mul-nonneg (pos weighed.a) (L x y u) (positive_le _ a) hu, mul-pos (pos weighed.b) (L x y v) b h)

  -- a line through two other corners does not hold both
  off_pair : (x y : ℕ) → In x F → In y F → x ≢ y → ¬ ((x ≡ u) × (y ≡ v)) → ¬ ((x ≡ v) × (y ≡ u)) → OffBoth (x, y)
  off_pair x y mx my xy nuv nvu (zu, zv) = by (same_id x u) (same_id y u) (same_id x v) (same_id y v)
    where
      nonzero : (w : ℕ) → In w F → ¬ (x ≡ w) → ¬ (y ≡ w) → L x y w ≡ pos 0 → ⊥
      nonzero w mw nx ny z = ⊎_elim (λ h. omega (arith, ints, h, z)) (λ h. omega (arith, ints, h, z, left-flip n (at x) (at y) (at w)))
          (three_turn n at F turns x y w mx my mw xy ny nx)

      by : Decided (x ≡ u) → Decided (y ≡ u) → Decided (x ≡ v) → Decided (y ≡ v) → ⊥
      by (inr p) (inr q) s t = nonzero u mu p q zu
      by p q (inr s) (inr t) = nonzero v mv s t zv
      by (inl p) q s (inl t) = nuv (p, t)
      by (inl p) q (inl s) t = ne (sym p ∙ s)
      by p (inl q) (inl s) t = nvu (s, q)
      by p (inl q) s (inl t) = ne (sym q ∙ t)

  -- both lie on the same side of it
  pub agree : (x y : ℕ) → In x F → In y F → x ≢ y → ¬ ((x ≡ u) × (y ≡ v)) → ¬ ((x ≡ v) × (y ≡ u))
      → (pos 0 <ℤ spot_turn n at x y to_left.spot → pos 0 <ℤ spot_turn n at x y to_right.spot)
      × (pos 0 <ℤ spot_turn n at x y to_right.spot → pos 0 <ℤ spot_turn n at x y to_left.spot)
  agree x y mx my xy nuv nvu = by_lt_z (pos 0) (spot_turn n at x y mid)
      (λ h. ((λ l. to_right.keeps x y mx my h), (λ l. to_left.keeps x y mx my h)))
      (λ h. let back : pos 0 <ℤ spot_turn n at y x mid = negative h in (
        (λ l. absurd (omega (arith, ints, l, to_left.keeps y x my mx back, spot_turn-back n at x y to_left.spot))),
        (λ l. absurd (omega (arith, ints, l, to_right.keeps y x my mx back, spot_turn-back n at x y to_right.spot))),
      ))
    where
      negative : spot_turn n at x y mid ≤ℤ pos 0 → pos 0 <ℤ spot_turn n at y x mid
      negative h =
          let some = weighed.off x y mx my (off_pair x y mx my xy nuv nvu) in
          let less_than = le_less (spot_turn n at x y mid) (pos 0) h (λ e. some (sym (mid_turn x y) ∙ e)) in
          omega (arith, ints, less_than, spot_turn-back n at x y mid)
