-- Points to the left of all sides of a closed cycle: they are not extreme, so the remaining points have the same polygon.
use Rattle.qh_model.proofs.Common.{Bool, Extreme, HasTriangle, In, IsPolygon, IsStrictlyIncreasing, List, Members, Others, Separator, Vector, [], and_parts, ap}
use Rattle.qh_model.proofs.Common.{arith, by_lt_z, dot, false_from_ne_true, filter, inl, inr, ints, not, place, pos, refl, subst, sym, true, ℕ, ℤ, ⊎_elim, ◌*ℤ◌}
use Rattle.qh_model.proofs.Common.{◌+ℤ◌, ◌<ℤ◌, ◌∙◌, ◌∷◌, ◌≡◌, ◌≢◌, ◌≤ℤ◌}
use Rattle.qh_model.proofs.{algebra.Signs.less_differ, algebra.VectorIdentities.dot-minus, algebra.VectorIdentities.left-turn, extremes.Dimensions.triangle_of}
use Rattle.qh_model.proofs.extremes.ExtremeIds.{alternative_in, combination_within, listed_itself, members_are_combinations}
use Rattle.qh_model.proofs.{hulls.ExtremeParts.part_set, hulls.SameSets.extremes_of_part, lists.Filters.in_filter}
use Rattle.qh_model.specs.headline.Predicates.{left}
use Rattle.qh_polygon.proofs.PlaneDirections.{bracket, bracket-fan}
use Rattle.qh_polygon.proofs.polygons.{Chain.is_left-yes, ComponentTurns.turns_agree, PlanarIds.flat_of, PlanarIds.planar_triangle, PlanarIds.two_of_triangle}
use Rattle.qh_polygon.proofs.polygons.Turns.{IsFlat, left-back, left-bracket, left-swap, left-there, step}
use Rattle.qh_polygon.specs.{contract.PlanarSets.IsPlanarSet, steps.Chains.is_left, steps.Chains.turn_of}
use Rattle.qh_polygon.specs.steps.InnerPlaces.{IsFlatSet, is_inside, is_left_along, is_outside}

-- ---- triangles
-- a point in a triangle is not beyond all its corners: a, b and c are the distances of these beyond it
not_beyond : (tv tu uv a b c : ℤ) → tv *ℤ b ≡ tu *ℤ c +ℤ uv *ℤ a → pos 0 <ℤ tu → pos 0 <ℤ uv → tv ≤ℤ pos 0 → a <ℤ pos 0 → b <ℤ pos 0 → c <ℤ pos 0 → ⊥
not_beyond = grind arith

module _ (n : Vector) (at : ℕ → Vector) (A : ℕ → Type 0) (flat : IsFlat n at A) (p : ℕ) (e : Extreme at A p) where
  -- the turn from u over v to p
  abbrev to_left : ℕ → ℕ → ℤ
  to_left u v = left n (at u) (at v) (at p)

  -- a side with p on its left begins at an id other than p
  begins_apart : (u v : ℕ) → pos 0 <ℤ to_left u v → u ≢ p
  begins_apart u v h q = less_differ _ _ (subst (λ t. pos 0 <ℤ left n (at t) (at v) (at p)) q h) (sym (left-back n (at p) (at v)))

  -- and ends at another
  ends_apart : (u v : ℕ) → pos 0 <ℤ to_left u v → v ≢ p
  ends_apart u v h q = less_differ _ _ (subst (λ t. pos 0 <ℤ left n (at u) (at t) (at p)) q h) (sym (left-there n (at u) (at p)))

  -- the same as a bracket of the vectors from p
  abbrev seen : ℕ → ℕ → ℤ
  seen u v = bracket n (step at p u) (step at p v)

  -- they are equal
  to_left-seen : (u v : ℕ) → to_left u v ≡ seen u v
  to_left-seen u v = left-turn n (at u) (at v) (at p) ∙ left-turn n (at v) (at p) (at u) ∙ left-bracket n (at p) (at u) (at v)

  -- an extreme id is in no triangle of others
  no_triangle : (t u v : ℕ) → A t → A u → A v → pos 0 <ℤ to_left t u → pos 0 <ℤ to_left u v → to_left t v ≤ℤ pos 0 → ⊥
  no_triangle t u v it iu iv tu uv tv =
      ⊎_elim (λ c. e.1 (combination_within at (Members corners) (Others A p) (at p) c other)) separated
      (alternative_in at (Members corners) corners (listed_itself corners) (at p))
    where
      corners : List ℕ
      corners = t ∷ u ∷ v ∷ []

      other : (j : ℕ) → In j corners → Others A p j
      other j (inl q) = subst (Others A p) (sym q) (it, begins_apart t u tu)
      other j (inr (inl q)) = subst (Others A p) (sym q) (iu, begins_apart u v uv)
      other j (inr (inr (inl q))) = subst (Others A p) (sym q) (iv, ends_apart u v uv)
      other j (inr (inr (inr q))) = absurd q

      separated : Separator at (Members corners) (at p) → ⊥
      separated s =
          let beyond : (j : ℕ) → ℤ = (λ j. dot s.w (step at p j)) in
          let below : (j : ℕ) → In j corners → beyond j <ℤ pos 0 = (λ j m. omega (arith, ints, dot-minus s.w (at j) (at p), s.past j m)) in
          not_beyond (seen t v) (seen t u) (seen u v) (beyond t) (beyond u) (beyond v) (bracket-fan n s.w (step at p t) (step at p u) (step at p v) flat.some
          (flat.even p t e.0 it) (flat.even p u e.0 iu) (flat.even p v e.0 iv))
          (subst (λ x. pos 0 <ℤ x) (to_left-seen t u) tu) (subst (λ x. pos 0 <ℤ x) (to_left-seen u v) uv) (subst (λ x. x ≤ℤ pos 0) (to_left-seen t v) tv)
          (below t (inl refl)) (below u (inr (inl refl))) (below v (inr (inr (inl refl))))

  -- turns whose sign to the left is right
  abbrev AreTold : (ℕ → ℕ → ℕ → ℤ) → Type 0
  AreTold turn = (u v : ℕ) → A u → A v → is_left (turn u v p) ≡ true → pos 0 <ℤ to_left u v

  -- nor is it to the left of a path from u back to t, if it is to the left of the one from t to u
  no_way : (turn : ℕ → ℕ → ℕ → ℤ) → AreTold turn → (t u : ℕ) (r : List ℕ) → A t → A u → ((x : ℕ) → In x r → A x)
      → pos 0 <ℤ to_left t u → is_left_along turn p u r t ≡ true → ⊥
  no_way turn told t u [] it iu ir tu h = omega (arith, ints, left-swap n (at t) (at u) (at p), tu, told u t iu it h)
  no_way turn told t u (v ∷ r) it iu ir tu h =
      let b = and_parts _ _ h in let iv = ir v (inl refl) in
      by_lt_z (pos 0) (to_left t v) (λ tv. no_way turn told t v r it iv (λ x m. ir x (inr m)) tv b.1)
      (λ tv. no_triangle t u v it iu iv tu (told u v iu iv b.0) tv)

  -- nor to the left of all sides of a cycle
  pub not_inside : (turn : ℕ → ℕ → ℕ → ℤ) → AreTold turn → (cycle : List ℕ) → ((x : ℕ) → In x cycle → A x) → is_inside turn cycle p ≡ true → ⊥
  not_inside turn told [] all h = cc
  not_inside turn told (t ∷ []) all h =
      let tp = told t t (all t (inl refl)) (all t (inl refl)) h in omega (arith, ints, left-swap n (at t) (at t) (at p), tp, tp)
  not_inside turn told (t ∷ u ∷ r) all h =
      let b = and_parts _ _ h in let it = all t (inl refl) in let iu = all u (inr (inl refl)) in
      no_way turn told t u r it iu (λ x m. all x (inr (inr m))) (told t u it iu b.0) b.1

-- ---- the ids of a planar set that remain outside a cycle
module _ (pts : List Vector) (ids cycle : List ℕ) (n : Vector) (h : IsPlanarSet pts ids n) (within : (i : ℕ) → In i cycle → In i ids) where
  -- the test that ids have to pass to remain
  abbrev outside : ℕ → Bool
  outside = is_outside (turn_of pts n) cycle

  -- an extreme id passes, so it remains
  pub extreme_left : (i : ℕ) → Extreme (place pts) (Members ids) i → In i (filter outside ids)
  extreme_left i e = in_filter outside ids i e.0 (ap not (false_from_ne_true (is_inside (turn_of pts n) cycle i)
      (not_inside n (place pts) (Members ids) flat i e (turn_of pts n) told cycle within)))
    where
      flat : IsFlat n (place pts) (Members ids)
      flat = flat_of pts ids n h

      told : (u v : ℕ) → In u ids → In v ids → is_left (turn_of pts n u v i) ≡ true → pos 0 <ℤ left n (place pts u) (place pts v) (place pts i)
      told u v iu iv q = is_left-yes _ (sym (turns_agree pts n (Members ids) flat u v i iu iv e.0) ∙ q)

-- ---- a part of a planar set with all extreme ids
module _ (pts : List Vector) (ids part : List ℕ) (n : Vector) (h : IsPlanarSet pts ids n) (rising : IsStrictlyIncreasing part)
    (within : (i : ℕ) → In i part → In i ids) (extremes : (i : ℕ) → Extreme (place pts) (Members ids) i → In i part) where
  -- the points
  abbrev at : ℕ → Vector
  at = place pts

  -- the part is flat, too: three of its points are not in line
  pub outer_flat : IsFlatSet pts part n
  outer_flat =
      let mixes = members_are_combinations at ids h.set.distinct in
      let t = triangle_of at (Members ids) (Extreme at (Members ids)) mixes (planar_triangle pts ids n h) in
      let flat = flat_of pts ids n h in
      let p : HasTriangle at (Members part) =
      record { i = t.i; j = t.j; k = t.k; has_i = extremes t.i t.has_i; has_j = extremes t.j t.has_j; has_k = extremes t.k t.has_k; area = t.area } in
      record {
        set = part_set pts ids part h.set rising within;
        two = two_of_triangle at part p;
        some = flat.some;
        even = λ i j mi mj. flat.even i j (within i mi) (within j mj);
      }

  -- and has the set's polygon
  pub outer_polygon : (q : List ℕ) → IsPolygon at (Extreme at (Members part)) n q → IsPolygon at (Extreme at (Members ids)) n q
  outer_polygon q w =
      let same = extremes_of_part at ids part h.set.distinct within extremes in
      record { members = λ i. (λ m. (same i).0 ((w.members i).0 m), λ e. (w.members i).1 ((same i).1 e)); once = w.once; round = w.round; least = w.least }

-- a planar set is flat
pub planar_flat : (pts : List Vector) (ids : List ℕ) (n : Vector) → IsPlanarSet pts ids n → IsFlatSet pts ids n
planar_flat pts ids n h =
    let f = flat_of pts ids n h in
    record { set = h.set; two = two_of_triangle (place pts) ids (planar_triangle pts ids n h); some = f.some; even = f.even }
