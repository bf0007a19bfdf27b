-- Spots of a face: inside it, off all lines through two of its corners, and inside polygons whose corners are corners of the face.
use Rattle.qh_laws.proofs.{Perturbed.Rises, Signs.above, Signs.above_is, Signs.is_above}
use Rattle.qh_laws_surface.proofs.ConvexLists.{AllTurn, not_right, one_apart, polygon_turns, side_left}
use Rattle.qh_laws_surface.proofs.NearSpots.{Near, form_level, near}
use Rattle.qh_laws_surface.proofs.PlanePieces.{OverFace, all_pass, on, pass_all}
use Rattle.qh_laws_surface.proofs.PlaneSpots.{between, between_level, between_turn, numbers, turn_form, turn_of}
use Rattle.qh_laws_surface.proofs.{SpotFans.InTriangle, SpotFans.all_left, SpotFans.in_triangle, SpotTurns.spot_turn-back, SpotTurns.turns_mixed}
use Rattle.qh_laws_surface.specs.contract.Covering.{IsOffLines, Spot, covers, spot_height, spot_turn}
use Rattle.qh_model.proofs.Common.{Bool, Decides-int_eq, Follows, In, List, Vector, [], ap, arith, by_lt_z, cases_Bool, cross, dot, inl, inr, int_lt, ints}
use Rattle.qh_model.proofs.Common.{list_all, map, not, not-true, pos, refl, steps_round, subst, sym, true, ℕ, ℤ, ◌*ℤ◌, ◌+ℤ◌, ◌<ℤ◌, ◌∙◌, ◌∷◌, ◌≡◌, ◌≢◌, ◌≤ℤ◌}
use Rattle.qh_model.proofs.{Common.◌⊎◌, Members.each_of_three}
use Rattle.qh_model.proofs.algebra.{Order.cancel-pos, Order.mul-nonneg, Order.mul-pos, Order.positive_le, VectorIdentities.dot-origin}
use Rattle.qh_model.proofs.{lists.Images.in_map, lists.Images.of_map, lists.Joined.in_append, polygons.Neighbours.follows_members, polygons.Steps.on_round}
use Rattle.qh_model.specs.headline.Predicates.{left}

-- ---- tests
-- true if the spot lies to the right of no step
abbrev pub none_right : (n : Vector) (at : ℕ → Vector) → Spot → List (ℕ × ℕ) → Bool
none_right n at s es = list_all (λ e. not (int_lt (spot_turn n at e.0 e.1 s) (pos 0))) es

not_right_is : (x : ℤ) → pos 0 ≤ℤ x → not (int_lt x (pos 0)) ≡ true
not_right_is x h = elim (cases_Bool (int_lt x (pos 0))) [ inl t ↦ absurd (omega (arith, ints)) | inr f ↦ rw f refl ]

is_not_right : (x : ℤ) → not (int_lt x (pos 0)) ≡ true → pos 0 ≤ℤ x
is_not_right x h = let e = not-true (int_lt x (pos 0)) h in omega (arith, ints)

-- a sum of three products is above 0 if no product is below 0 and one is above 0
one_above : (x y z a b c : ℤ) → pos 0 <ℤ x → pos 0 <ℤ y → pos 0 <ℤ z → pos 0 ≤ℤ a → pos 0 ≤ℤ b → pos 0 ≤ℤ c
    → (pos 0 <ℤ a) ⊎ ((pos 0 <ℤ b) ⊎ (pos 0 <ℤ c)) → pos 0 <ℤ (x *ℤ a +ℤ (y *ℤ b +ℤ z *ℤ c))
one_above x y z a b c hx hy hz ha hb hc (inl h) =
    omega (arith, ints, mul-pos x a hx h, mul-nonneg y b (positive_le _ hy) hb, mul-nonneg z c (positive_le _ hz) hc)
one_above x y z a b c hx hy hz ha hb hc (inr (inl h)) =
    omega (arith, ints, mul-nonneg x a (positive_le _ hx) ha, mul-pos y b hy h, mul-nonneg z c (positive_le _ hz) hc)
one_above x y z a b c hx hy hz ha hb hc (inr (inr h)) =
    omega (arith, ints, mul-nonneg x a (positive_le _ hx) ha, mul-nonneg y b (positive_le _ hy) hb, mul-pos z c hz h)

-- a spot to the left of each side, and to the right of no side
abbrev pub IsLeft : (n : Vector) (at : ℕ → Vector) → Spot → List ℕ → Type 0
IsLeft n at s q = (u v : ℕ) → Follows u v q → pos 0 <ℤ spot_turn n at u v s

abbrev pub IsNotRight : (n : Vector) (at : ℕ → Vector) → Spot → List ℕ → Type 0
IsNotRight n at s q = (u v : ℕ) → Follows u v q → pos 0 ≤ℤ spot_turn n at u v s

pub left_of : (n : Vector) (at : ℕ → Vector) (s : Spot) (q : List ℕ) → all_left n at s (steps_round q) ≡ true → IsLeft n at s q
left_of n at s q e u v g = above_is (spot_turn n at u v s)
    (all_pass (λ e. above (spot_turn n at e.0 e.1 s)) (steps_round q) e (u, v) ((on_round u v q).1 g))

pub of_left : (n : Vector) (at : ℕ → Vector) (s : Spot) (q : List ℕ) → IsLeft n at s q → all_left n at s (steps_round q) ≡ true
of_left n at s q h = pass_all (λ e. above (spot_turn n at e.0 e.1 s)) (steps_round q) (λ e m. is_above _ (h e.0 e.1 ((on_round e.0 e.1 q).0 m)))

pub right_of : (n : Vector) (at : ℕ → Vector) (s : Spot) (q : List ℕ) → none_right n at s (steps_round q) ≡ true → IsNotRight n at s q
right_of n at s q e u v g = is_not_right (spot_turn n at u v s)
    (all_pass (λ e. not (int_lt (spot_turn n at e.0 e.1 s) (pos 0))) (steps_round q) e (u, v) ((on_round u v q).1 g))

pub of_right : (n : Vector) (at : ℕ → Vector) (s : Spot) (q : List ℕ) → IsNotRight n at s q → none_right n at s (steps_round q) ≡ true
of_right n at s q h =
    pass_all (λ e. not (int_lt (spot_turn n at e.0 e.1 s) (pos 0))) (steps_round q) (λ e m. not_right_is _ (h e.0 e.1 ((on_round e.0 e.1 q).0 m)))

module _ {at : ℕ → Vector} {ids : List ℕ} {qs : List (List ℕ)} {i j k : ℕ} {r : List ℕ} (c : OverFace at ids qs i j k (i ∷ j ∷ k ∷ r)) where
  abbrev F : List ℕ
  F = i ∷ j ∷ k ∷ r

  abbrev n : Vector
  n = cross (at i) (at j) (at k)

  pub turns : AllTurn n at F
  turns = polygon_turns n at c.polygon

  -- a spot of the plane to the left of each side is covered
  pub covers_face : (z : Spot) → spot_height at i j k z ≡ pos 0 → IsLeft n at z F → covers at z F ≡ true
  covers_face z h g = rw ((Decides-int_eq (spot_height at i j k z) (pos 0)).1 h, of_left n at z F g) refl

  -- a spot with no turn 0 lies off all lines
  pub off_lines : (z : Spot) → ((u v : ℕ) → In u F → In v F → u ≢ v → ¬ (spot_turn n at u v z ≡ pos 0)) → IsOffLines at z F
  unfolding spot_turn
  off_lines z off u v mu mv ne e = off u v mu mv ne (ap (λ x. dot x n) e ∙ dot-origin n)

  -- ---- a spot inside a list of corners lies inside the face
  -- a spot inside a triangle of its corners lies to the left of each side, since no corner lies to the right
  weighed : (z : Spot) (q : List ℕ) (t : InTriangle n at z q) → ((x : ℕ) → In x q → In x F) → IsLeft n at z F
  weighed z q t h x y g = cancel-pos _ _ t.turns (subst (λ d. pos 0 <ℤ d) (sym (turns_mixed n at z t.a t.v t.w x y))
      (one_above _ _ _ _ _ _ t.vw t.wa t.av (least t.a t.has_a) (least t.v t.has_v) (least t.w t.has_w)
      (one_apart n at (λ l. pos 0 <ℤ left n (at x) (at y) (at l)) t.a t.v t.w t.turns x y (λ l m. c.polygon.round x y g l (inside l m)))))
    where
      least : (l : ℕ) → In l q → pos 0 ≤ℤ left n (at x) (at y) (at l)
      least l m = not_right n at F turns x y g l (h l m)

      inside : (l : ℕ) → In l (t.a ∷ t.v ∷ t.w ∷ []) → In l F
      inside = each_of_three (λ l. In l F) t.a t.v t.w (h t.a t.has_a) (h t.v t.has_v) (h t.w t.has_w)

  -- ---- three or more corners of the face
  module _ (a v w : ℕ) (rest : List ℕ) (t : AllTurn n at (a ∷ v ∷ w ∷ rest)) (in_F : (l : ℕ) → In l (a ∷ v ∷ w ∷ rest) → In l F) where
    abbrev q : List ℕ
    q = a ∷ v ∷ w ∷ rest

    -- a spot inside these corners, off all lines, lies inside the face
    pub inside_side : (z : Spot) → ((x y : ℕ) → In x F → In y F → x ≢ y → ¬ (spot_turn n at x y z ≡ pos 0)) → all_left n at z (steps_round q) ≡ true
        → IsLeft n at z F
    inside_side z off e = weighed z q (in_triangle n at z (λ l. In l F) off a v w rest in_F t e) in_F

    -- a spot of the plane to the right of none of their sides is near a spot to the left of each
    module _ (s : Spot) (level : spot_height at i j k s ≡ pos 0) (closed : IsNotRight n at s q) where
      middle : Spot
      middle = between at a v w 1 1 1 (omega arith)

      middle_level : spot_height at i j k middle ≡ pos 0
      unfolding middle
      middle_level = between_level at a v w 1 1 1 (omega arith) i j k (on c a (in_F a (inl refl)))
          (on c v (in_F v (inr (inl refl)))) (on c w (in_F w (inr (inr (inl refl)))))

      middle_left : IsLeft n at middle q
      unfolding middle
      middle_left x y g = subst (λ d. pos 0 <ℤ d) (sym (between_turn at a v w 1 1 1 (omega arith) n x y))
          (one_above (pos 1) (pos 1) (pos 1) _ _ _ (omega (arith, ints)) (omega (arith, ints)) (omega (arith, ints))
          (least a (inl refl)) (least v (inr (inl refl))) (least w (inr (inr (inl refl))))
          (one_apart n at (λ l. pos 0 <ℤ left n (at x) (at y) (at l)) a v w (t.0.0 w (inl refl)) x y
          (λ l m. side_left n at q t x y g l (in_append (a ∷ v ∷ w ∷ []) rest l (inl m)))))
        where
          least : (l : ℕ) → In l q → pos 0 ≤ℤ left n (at x) (at y) (at l)
          least l m = not_right n at q t x y g l m

      pub sides : List Vector
      sides = map (λ (e : ℕ × ℕ). turn_form at i j k e.0 e.1) (steps_round q)

      rise : (p : Vector) → In p sides → Rises p (numbers at i j k s) (numbers at i j k middle)
      unfolding sides
      rise p m = by (of_map (λ (e : ℕ × ℕ). turn_form at i j k e.0 e.1) (steps_round q) p m)
        where
          by : (e : ℕ × ℕ) × In e (steps_round q) × (p ≡ turn_form at i j k e.0 e.1) → Rises p (numbers at i j k s) (numbers at i j k middle)
          by ((x, y), o, e) = subst (λ d. Rises d (numbers at i j k s) (numbers at i j k middle)) (sym e) (inr (
            form_level at i j k r turns s level x y (closed x y ((on_round x y q).0 o)),
            (let h = mul-pos (left n (at i) (at j) (at k)) (spot_turn n at x y middle) (turns.0.0 k (inl refl)) (middle_left x y ((on_round x y q).0 o)) in
                omega (arith, ints, h, turn_of at i j k middle middle_level x y)),
          ))

      pub moved : Near at i j k r turns s level sides
      moved = near at i j k r turns s level sides (numbers at i j k middle) rise

      pub moved_left : IsLeft n at moved.spot q
      unfolding sides
      moved_left x y g = moved.more x y (in_map (λ (e : ℕ × ℕ). turn_form at i j k e.0 e.1) (steps_round q) (x, y) ((on_round x y q).1 g))

      -- so the spot is to the right of no side of the face
      pub not_beyond : IsNotRight n at s F
      not_beyond x y g = by_lt_z (spot_turn n at x y s) (pos 0) (λ h. absurd (omega (
        arith,
        ints,
        h,
        moved.keeps y x (follows_members x y F g).1 (follows_members x y F g).0 (omega (arith, ints, h, spot_turn-back n at x y s)),
        spot_turn-back n at x y moved.spot,
        inside_side moved.spot moved.off (of_left n at moved.spot q moved_left) x y g,
      ))) (λ h. h)
