-- Equally many pieces cover two spots on both sides of a segment between corners of a face. So they take its steps equally often in both directions.
use Rattle.qh_laws.proofs.{Crossings.number, Signs.above}
use Rattle.qh_laws_surface.proofs.ConvexLists.{AllTurn, Turn, first_two, no_back, not_first, not_right, not_second, side_left, third_corner, turned}
use Rattle.qh_laws_surface.proofs.{Covered.count_parts, Covered.covers_flat, Covered.covers_other, CoveredFaces.none_counted}
use Rattle.qh_laws_surface.proofs.FaceSpots.{covers_face, inside_side, left_of, of_left, off_lines, turns}
use Rattle.qh_laws_surface.proofs.PlanePieces.{OverFace, PieceOf, all_alike, diagonal_kept, in_parts, kept_alike, none_back, on, part_member, part_turns, parts}
use Rattle.qh_laws_surface.proofs.{PlanePieces.piece, PlanePieces.side_kept, PlanePieces.third, SegmentSpots.agree, SegmentSpots.both_left}
use Rattle.qh_laws_surface.proofs.{SegmentSpots.to_left, SegmentSpots.to_right, SpotFans.all_left, SpotHeights.above_alike, SpotTurns.spot_turn-back}
use Rattle.qh_laws_surface.proofs.StepCounts.{Beside, follows_or_not, none_there, not_taken, taken, times, times-more}
use Rattle.qh_laws_surface.specs.contract.{Covering.IsOffLines, Covering.Spot, Covering.covers, Covering.spot_height, Covering.spot_turn, Measures.lies_in}
use Rattle.qh_model.proofs.Common.{Bool, Follows, In, List, Members, Once, Vector, [], arith, count_by, cross, false, false_from_ne_true, flat_map, inl, inr}
use Rattle.qh_model.proofs.Common.{ints, pos, refl, steps_round, subst, sym, true, ℕ, ⊎_elim, ◌+◌, ◌<ℤ◌, ◌∙◌, ◌∷◌, ◌≡◌, ◌≢◌, ◌≤ℤ◌, ◌≤◌, ◌⊎◌}
use Rattle.qh_model.proofs.{Decisions.Decided, Decisions.same_id, closed_surfaces.Sums.count, closed_surfaces.Sums.count-is, lists.Ordered.Ordered}
use Rattle.qh_model.proofs.polygons.{Neighbours.follows_members, Steps.on_round}
use Rattle.qh_model.specs.headline.Predicates.{left}

-- ---- lists in which each three, in order, turn left have each member once
once_ordered : (n : Vector) (at : ℕ → Vector) (a : ℕ) (q : List ℕ) → Ordered (Turn n at a) q → Once q
once_ordered n at a [] o = tt
once_ordered n at a (b ∷ q) o = ((λ m. not_second n at a b b (o.0 b m) refl), once_ordered n at a q o.1)

once_turns : (n : Vector) (at : ℕ → Vector) (a b c : ℕ) (q : List ℕ) → AllTurn n at (a ∷ b ∷ c ∷ q) → Once (a ∷ b ∷ c ∷ q)
once_turns n at a b c q t = (not_there, once_ordered n at a (b ∷ c ∷ q) t.0)
  where
    not_there : ¬ (In a (b ∷ c ∷ q))
    not_there (inl e) = first_two n at a b c (t.0.0 c (inl refl)) e
    not_there (inr m) = not_first n at a b a (t.0.0 a m) refl

-- ---- two corners of such lists, and their sides
module _ (n : Vector) (at : ℕ → Vector) (q : List ℕ) (t : AllTurn n at q) (u v : ℕ) (mu : In u q) (mv : In v q) (ne : u ≢ v) where
  abbrev Sides : ℕ → ℕ → Type 0
  Sides x y = ((u ≡ x) × (v ≡ y)) ⊎ (((u ≡ y) × (v ≡ x)) ⊎ ((pos 0 <ℤ left n (at x) (at y) (at u)) ⊎ (pos 0 <ℤ left n (at x) (at y) (at v))))

  -- a side goes from one to the other, or it has one of them to its left
  side_of : (x y : ℕ) → Follows x y q → Sides x y
  side_of x y g = by (same_id u x) (same_id u y) (same_id v x) (same_id v y)
    where
      by : Decided (u ≡ x) → Decided (u ≡ y) → Decided (v ≡ x) → Decided (v ≡ y) → Sides x y
      by (inr a) (inr b) c e = inr (inr (inl (side_left n at q t x y g u mu a b)))
      by a b (inr c) (inr e) = inr (inr (inr (side_left n at q t x y g v mv c e)))
      by (inl a) b c (inl e) = inl (a, e)
      by a (inl b) (inl c) e = inr (inl (b, c))
      by (inl a) b (inl c) e = absurd (ne (a ∙ sym c))
      by a (inl b) c (inl e) = absurd (ne (b ∙ sym e))

-- a list that takes the step from u to v has the spots to the left of the step that are close to it
module _ (n : Vector) (at : ℕ → Vector) (u v : ℕ) (z : Spot) (before : pos 0 <ℤ spot_turn n at u v z) (q : List ℕ) (t : AllTurn n at q)
    (some : (x y : ℕ) → (w : ℕ) × In w q × (w ≢ x) × (w ≢ y)) (step : Follows u v q)
    (close : (x y : ℕ) → In x q → In y q → pos 0 ≤ℤ left n (at x) (at y) (at u) → pos 0 ≤ℤ left n (at x) (at y) (at v)
    → (pos 0 <ℤ left n (at x) (at y) (at u)) ⊎ (pos 0 <ℤ left n (at x) (at y) (at v)) → pos 0 <ℤ spot_turn n at x y z) where
  corner : (w : ℕ) × In w q × (w ≢ u) × (w ≢ v)
  corner = some u v

  turn : Turn n at u v corner.0
  turn = side_left n at q t u v step corner.0 corner.1 corner.2 corner.3

  has_left : all_left n at z (steps_round q) ≡ true
  has_left = of_left n at z q each
    where
      m : In u q × In v q
      m = follows_members u v q step

      each : (x y : ℕ) → Follows x y q → pos 0 <ℤ spot_turn n at x y z
      each x y g = by (side_of n at q t u v m.0 m.1 (first_two n at u v corner.0 turn) x y g)
        where
          by : Sides n at q t u v m.0 m.1 (first_two n at u v corner.0 turn) x y → pos 0 <ℤ spot_turn n at x y z
          by (inl e) = subst (λ s. pos 0 <ℤ spot_turn n at s y z) e.0 (subst (λ s. pos 0 <ℤ spot_turn n at u s z) e.1 before)
          by (inr (inl e)) = absurd (no_back n at v corner.0 u (turned n at u v corner.0 turn) (side_left n at q t v u
              (subst (λ s. Follows s u q) (sym e.1) (subst (λ s. Follows x s q) (sym e.0) g)) corner.0 corner.1 corner.3 corner.2))
          by (inr (inr s)) = close x y (follows_members x y q g).0 (follows_members x y q g).1
              (not_right n at q t x y g u m.0) (not_right n at q t x y g v m.1) s

module _ {at : ℕ → Vector} {ids : List ℕ} {qs : List (List ℕ)} {i j k : ℕ} {r : List ℕ} (c : OverFace at ids qs i j k (i ∷ j ∷ k ∷ r))
    (once : (s : Spot) → covers at s (i ∷ j ∷ k ∷ r) ≡ true → IsOffLines at s (i ∷ j ∷ k ∷ r) → count_by (covers at s) qs ≡ 1) where
  abbrev F : List ℕ
  F = i ∷ j ∷ k ∷ r

  abbrev n : Vector
  n = cross (at i) (at j) (at k)

  abbrev left_all : Spot → List ℕ → Bool
  left_all z q = all_left n at z (steps_round q)

  -- the pieces of the face
  abbrev own : List (List ℕ)
  own = parts c

  own_piece : (q : List ℕ) → In q own → PieceOf at (Members ids) q
  own_piece q m = piece c q (in_parts c q m).0

  own_once : (q : List ℕ) → In q own → Once q
  own_once q m = by (own_piece q m)
    where
      by : PieceOf at (Members ids) q → Once q
      by p = subst Once (sym p.is) (once_turns n at p.i p.j p.k p.rest (subst (AllTurn n at) p.is (part_turns c q m)))

  -- one of the pieces covers a spot inside the face
  one_has : (z : Spot) → spot_height at i j k z ≡ pos 0 → ((x y : ℕ) → In x F → In y F → x ≢ y → ¬ (spot_turn n at x y z ≡ pos 0))
      → ((x y : ℕ) → Follows x y F → pos 0 <ℤ spot_turn n at x y z) → count (left_all z) own ≡ 1
  one_has z h off inside =
      sym (count_parts (covers at z) (lies_in at i j k) (left_all z) qs (covers_flat c z h) (covers_other c z (off_lines c z off) (covers_face c z h inside)))
      ∙ count-is (covers at z) qs ∙ once z (covers_face c z h inside) (off_lines c z off)

  -- a list that takes a step does not cover a spot to its right
  lacks : (z : Spot) (x y : ℕ) → pos 0 <ℤ spot_turn n at x y z → (q : List ℕ) → Follows y x q → left_all z q ≡ false
  lacks z x y p q g = false_from_ne_true (left_all z q) (λ e. omega (arith, ints, p, spot_turn-back n at x y z, left_of n at z q e y x g))

  -- ---- a segment between two corners
  module _ (u v : ℕ) (mu : In u F) (mv : In v F) (ne : u ≢ v) where
    abbrev zl : Spot
    zl = (to_left at i j k r (turns c) (on c) u v mu mv ne).spot

    abbrev zr : Spot
    zr = (to_right at i j k r (turns c) (on c) u v mu mv ne).spot

    l_before : pos 0 <ℤ spot_turn n at u v zl
    l_before = (to_left at i j k r (turns c) (on c) u v mu mv ne).more u v (inl refl)

    r_before : pos 0 <ℤ spot_turn n at v u zr
    r_before = (to_right at i j k r (turns c) (on c) u v mu mv ne).more v u (inl refl)

    abbrev both_sides : (x y : ℕ) → In x F → In y F → pos 0 ≤ℤ left n (at x) (at y) (at u) → pos 0 ≤ℤ left n (at x) (at y) (at v)
        → (pos 0 <ℤ left n (at x) (at y) (at u)) ⊎ (pos 0 <ℤ left n (at x) (at y) (at v))
        → (pos 0 <ℤ spot_turn n at x y zl) × (pos 0 <ℤ spot_turn n at x y zr)
    both_sides = both_left at i j k r (turns c) (on c) u v mu mv ne

    -- a list that takes the step covers the left spot, and one that takes the step back covers the right one
    left_has : (q : List ℕ) → AllTurn n at q → ((x : ℕ) → In x q → In x F) → ((x y : ℕ) → (w : ℕ) × In w q × (w ≢ x) × (w ≢ y)) → Follows u v q
        → left_all zl q ≡ true
    left_has q t h s g = has_left n at u v zl l_before q t s g (λ x y mx my a b c. (both_sides x y (h x mx) (h y my) a b c).0)

    right_has : (q : List ℕ) → In q own → Follows v u q → left_all zr q ≡ true
    right_has q m g = has_left n at v u zr r_before q (part_turns c q m) (third (own_piece q m)) g
        (λ x y mx my a b e. (both_sides x y (part_member c q m x mx) (part_member c q m y my) b a (⊎_elim (λ d. inr d) (λ d. inl d) e)).1)

    own_left : (q : List ℕ) → In q own → Follows u v q → left_all zl q ≡ true
    own_left q m = left_has q (part_turns c q m) (part_member c q m) (third (own_piece q m))

    -- the other lists cover both or neither
    alike : (q : List ℕ) → In q own → ¬ (Follows u v q) → ¬ (Follows v u q) → left_all zl q ≡ left_all zr q
    alike q m nuv nvu = all_alike (λ e. above (spot_turn n at e.0 e.1 zl)) (λ e. above (spot_turn n at e.0 e.1 zr)) (steps_round q)
        (λ e o. each e.0 e.1 ((on_round e.0 e.1 q).0 o))
      where
        each : (x y : ℕ) → Follows x y q → above (spot_turn n at x y zl) ≡ above (spot_turn n at x y zr)
        each x y g = let o = follows_members x y q g in let w = third (own_piece q m) x y in
            above_alike (spot_turn n at x y zl) (spot_turn n at x y zr)
            (agree at i j k r (turns c) (on c) u v mu mv ne x y (part_member c q m x o.0) (part_member c q m y o.1)
            (first_two n at x y w.0 (side_left n at q (part_turns c q m) x y g w.0 w.1 w.2 w.3))
            (λ e. nuv (subst (λ s. Follows s v q) e.0 (subst (λ s. Follows x s q) e.1 g)))
            (λ e. nvu (subst (λ s. Follows s u q) e.0 (subst (λ s. Follows x s q) e.1 g))))

    -- so the counts differ by the steps
    abbrev IsBalanced : List ℕ → Type 0
    IsBalanced q = number (left_all zl q) + times v u (steps_round q) ≡ number (left_all zr q) + times u v (steps_round q)

    one_balance : (q : List ℕ) → In q own → IsBalanced q
    one_balance q m = by (follows_or_not q u v) (follows_or_not q v u)
      where
        by : Decided (Follows u v q) → Decided (Follows v u q) → IsBalanced q
        by (inl g) (inl h) = let a = lacks zl u v l_before q h in let b = own_left q m g in absurd (cc)
        by (inl g) (inr h) = rw (own_left q m g, lacks zr v u r_before q g, taken u v q (own_once q m) g, not_taken v u q h) refl
        by (inr g) (inl h) = rw (right_has q m h, lacks zl u v l_before q h, taken v u q (own_once q m) h, not_taken u v q g) refl
        by (inr g) (inr h) = rw (alike q m g h, not_taken u v q g, not_taken v u q h) refl

    balance : (ps : List (List ℕ)) → ((q : List ℕ) → In q ps → In q own)
        → count (left_all zl) ps + times v u (flat_map steps_round ps) ≡ count (left_all zr) ps + times u v (flat_map steps_round ps)
    balance [] h = refl
    balance (q ∷ ps) h = omega (arith, one_balance q (h q (inl refl)), balance ps (λ x m. h x (inr m)), times-more u v q ps, times-more v u q ps)

    -- the number of lists that take the step is at most the number of those that cover the left spot
    at_most : (ps : List (List ℕ)) → ((q : List ℕ) → In q ps → In q own) → times u v (flat_map steps_round ps) ≤ count (left_all zl) ps
    at_most [] h = omega arith
    at_most (q ∷ ps) h = omega (arith, one_most (follows_or_not q u v), at_most ps (λ x m. h x (inr m)), times-more u v q ps)
      where
        one_most : Decided (Follows u v q) → times u v (steps_round q) ≤ number (left_all zl q)
        one_most (inl g) = rw (own_left q (h q (inl refl)) g, taken u v q (own_once q (h q (inl refl))) g) (omega arith)
        one_most (inr g) = rw (not_taken u v q g) (omega arith)

    l_one : ((x y : ℕ) → Follows x y F → pos 0 <ℤ spot_turn n at x y zl) → count (left_all zl) own ≡ 1
    l_one = one_has zl (to_left at i j k r (turns c) (on c) u v mu mv ne).level (to_left at i j k r (turns c) (on c) u v mu mv ne).off

    -- ---- a diagonal: both spots lie inside the face
    pub diagonal_alike : ¬ (Beside F u v)
        → (times u v (flat_map steps_round qs) ≡ times v u (flat_map steps_round qs)) × (times u v (flat_map steps_round qs) ≤ 1)
    diagonal_alike diagonal = (omega (arith, balance own (λ q m. m), one, r_one, uv, vu), omega (arith, at_most own (λ q m. m), uv, one))
      where
        inside_both : (x y : ℕ) → Follows x y F → (pos 0 <ℤ spot_turn n at x y zl) × (pos 0 <ℤ spot_turn n at x y zr)
        inside_both x y g = by (side_of n at F (turns c) u v mu mv ne x y g)
          where
            by : Sides n at F (turns c) u v mu mv ne x y → (pos 0 <ℤ spot_turn n at x y zl) × (pos 0 <ℤ spot_turn n at x y zr)
            by (inl e) = absurd (diagonal (inl (subst (λ s. Follows s v F) (sym e.0) (subst (λ s. Follows x s F) (sym e.1) g))))
            by (inr (inl e)) = absurd (diagonal (inr (subst (λ s. Follows s u F) (sym e.1) (subst (λ s. Follows x s F) (sym e.0) g))))
            by (inr (inr s)) = both_sides x y (follows_members x y F g).0 (follows_members x y F g).1
                (not_right n at F (turns c) x y g u mu) (not_right n at F (turns c) x y g v mv) s

        one : count (left_all zl) own ≡ 1
        one = l_one (λ x y g. (inside_both x y g).0)

        r_one : count (left_all zr) own ≡ 1
        r_one = one_has zr (to_right at i j k r (turns c) (on c) u v mu mv ne).level (to_right at i j k r (turns c) (on c) u v mu mv ne).off
            (λ x y g. (inside_both x y g).1)

        uv : times u v (flat_map steps_round own) ≡ times u v (flat_map steps_round qs)
        uv = kept_alike (lies_in at i j k) u v qs (diagonal_kept c u v diagonal mu mv)

        vu : times v u (flat_map steps_round own) ≡ times v u (flat_map steps_round qs)
        vu = kept_alike (lies_in at i j k) v u qs (diagonal_kept c v u (λ b. diagonal (⊎_elim (λ d. inr d) (λ d. inl d) b)) mv mu)

    -- ---- a side: the left spot lies inside the face, and no piece covers the right one
    pub side_once : Follows u v F → times u v (flat_map steps_round qs) ≡ 1
    side_once along =
        let back_none = none_there v u (flat_map steps_round own) (none_back c u v along) in
        let kept = kept_alike (lies_in at i j k) u v qs (side_kept c u v along) in
        omega (arith, balance own (λ q m. m), l_one inside, none_counted (left_all zr) own none_right, back_none, kept)
      where
        inside : (x y : ℕ) → Follows x y F → pos 0 <ℤ spot_turn n at x y zl
        inside = left_of n at zl F (left_has F (turns c) (λ x m. m) (third_corner n at i j k r (turns c)) along)

        none_right : (q : List ℕ) → In q own → ¬ (left_all zr q ≡ true)
        none_right q m e = by (own_piece q m)
          where
            by : PieceOf at (Members ids) q → ⊥
            by p = omega (
              arith,
              ints,
              r_before,
              spot_turn-back n at v u zr,
              inside_side c p.i p.j p.k p.rest (subst (AllTurn n at) p.is (part_turns c q m))
                  (λ l o. part_member c q m l (subst (In l) (sym p.is) o)) zr (to_right at i j k r (turns c) (on c) u v mu mv ne).off
                  (subst (λ x. left_all zr x ≡ true) p.is e) u v along,
            )
