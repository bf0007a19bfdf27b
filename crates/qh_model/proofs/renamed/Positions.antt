-- The members of a rising list named by their positions: the list of their points has the same hull under these names.
use Rattle.qh_model.proofs.Common.{◌≡◌, ℕ, zero, suc, ◌<◌, refl, List, [], ◌∷◌, length, get_or, map, arith, sym, ap, subst, ◌∙◌, ⊎_elim, eq-eqb, ne_eqb}
use Rattle.qh_model.proofs.Common.{length-map, get_or-map, dite, ℕ_discrete, IsStrictlyIncreasing, ◌↔◌, HasDistinctPoints, AreDistinctIds, Extreme, HullValue}
use Rattle.qh_model.proofs.Common.{IsHull, place, In, Once, Members, vertex_number, Vector, origin}
use Rattle.qh_model.proofs.{DistinctIds.distinct_apart, Members.In-get_or, Members.rising_once, renamed.Lists.rising_map}
use Rattle.qh_model.proofs.{hulls.OfExtremes.body_of_extremes, renamed.Renaming.IsRenaming, renamed.Renaming.renaming_apart, renamed.Renaming.renaming_back}
use Rattle.qh_model.proofs.{lists.Images.in_map, lists.Images.of_map, lists.Rising.rising_between, renamed.Bodies.renamed_body, renamed.Bodies.body_renamed}

-- ---- positions
-- a member's position is one of the list, and the member is at it
pub at_number : (xs : List ℕ) (i : ℕ) → In i xs → (vertex_number xs i < length xs) × (get_or xs (vertex_number xs i) 0 ≡ i)
at_number [] i m = absurd m
at_number (x ∷ xs) i m = dite (ℕ_discrete x i) (λ e. rw (eq-eqb x i e) (omega arith, e)) (λ n.
    let r = at_number xs i (⊎_elim (λ d. absurd (n (sym d))) (λ j. j) m) in let low = r.0 in rw (ne_eqb x i n) (omega (arith, low), r.1))

-- the member at a position has this position, if each member occurs once
pub number_at : (xs : List ℕ) (k : ℕ) → Once xs → k < length xs → vertex_number xs (get_or xs k 0) ≡ k
number_at [] k o h = absurd (omega arith)
number_at (x ∷ xs) zero o h = rw (eq-eqb x x refl) refl
number_at (x ∷ xs) (suc k) o h =
    rw (ne_eqb x (get_or xs k 0) (λ e. o.0 (subst (λ t. In t xs) (sym e) (In-get_or xs k 0 (omega arith))))) (ap suc (number_at xs k o.1 (omega arith)))

-- positions rise with the members
number_rises : (xs : List ℕ) → IsStrictlyIncreasing xs → (i j : ℕ) → In i xs → In j xs → i < j → vertex_number xs i < vertex_number xs j
number_rises = grind (arith, at_number, rising_between)

-- ---- the points at the positions
-- the positions of all members
abbrev pub vertex_numbers : List ℕ → List ℕ
vertex_numbers xs = map (vertex_number xs) xs

-- the points of all members
abbrev pub points_of : List Vector → List ℕ → List Vector
points_of pts xs = map (place pts) xs

-- the point at a member's position is that of the member
pub point_at : (pts : List Vector) (xs : List ℕ) (i : ℕ) → In i xs → place (points_of pts xs) (vertex_number xs i) ≡ place pts i
unfolding place
point_at pts xs i m = let r = at_number xs i m in get_or-map (place pts) xs (vertex_number xs i) 0 origin r.0 ∙ ap (place pts) r.1

-- positions are numbers below the length
position_below : (xs : List ℕ) (k : ℕ) → In k (vertex_numbers xs) → k < length xs
position_below = grind (arith, of_map, at_number)

module _ (pts : List Vector) (A : ℕ → Type 0) (xs : List ℕ) (rising : IsStrictlyIncreasing xs) (members : (i : ℕ) → In i xs ↔ A i) where
  -- the member at a position has this position
  number_here : (k : ℕ) → k < length xs → vertex_number xs (get_or xs k 0) ≡ k
  number_here k h = number_at xs k (rising_once xs rising) h

  -- each number below the length is a position
  position_of : (k : ℕ) → k < length xs → In k (vertex_numbers xs)
  position_of k h = subst (λ n. In n (vertex_numbers xs)) (number_here k h) (in_map (vertex_number xs) xs (get_or xs k 0) (In-get_or xs k 0 h))

  -- the members are renamed
  pub by_position : let back : ℕ → ℕ = λ k. get_or xs k 0 in
      IsRenaming (place pts) (place (points_of pts xs)) A (Members (vertex_numbers xs)) (vertex_number xs) back
  by_position = record {
    to = λ i a. in_map (vertex_number xs) xs i ((members i).1 a);
    from = λ k m. (members (get_or xs k 0)).0 (In-get_or xs k 0 (position_below xs k m));
    over = λ i a. (at_number xs i ((members i).1 a)).1;
    under = λ k m. number_here k (position_below xs k m);
    point = λ i a. point_at pts xs i ((members i).1 a);
    rises = λ i j a b h. number_rises xs rising i j ((members i).1 a) ((members j).1 b) h;
  }

  -- different positions have different points
  positions_apart : HasDistinctPoints (place pts) A → HasDistinctPoints (place (points_of pts xs)) (Members (vertex_numbers xs))
  positions_apart = grind (arith, renaming_back, by_position, renaming_apart)

  -- the positions are the distinct ids of these points
  positions_distinct : HasDistinctPoints (place pts) A → AreDistinctIds (points_of pts xs) (vertex_numbers xs)
  positions_distinct apart = record {
    rising = rising_map A (vertex_number xs) by_position.rises xs (λ i m. (members i).0 m) rising;
    members = λ k. (λ m. (within k m, below k m), λ d. position_of k (subst (λ n. k < n) count d.0));
  }
    where
      count : length (points_of pts xs) ≡ length xs
      count = length-map xs (place pts)

      within : (k : ℕ) → In k (vertex_numbers xs) → k < length (points_of pts xs)
      within k m = subst (λ n. k < n) (sym count) (position_below xs k m)

      below : (k : ℕ) → In k (vertex_numbers xs) → (j : ℕ) → j < k → place (points_of pts xs) j ≡ place (points_of pts xs) k → ⊥
      below k m j h e =
          let low = position_below xs k m in
          let equal : j ≡ k = positions_apart apart j k (position_of j (omega (arith, low, h))) m e in
          omega (arith, h, equal)

-- ---- the points of the extreme ids
-- a hull by the positions of its extreme ids
abbrev pub hull_of_extremes : HullValue → HullValue
hull_of_extremes h = record { given = length h.body.extremes; distinct = length h.body.extremes; body = renamed_body (vertex_number h.body.extremes) h.body }

-- this is the hull of the list of their points
pub extreme_points_have_hull : (pts : List Vector) (h : HullValue) → IsHull pts h → IsHull (points_of pts h.body.extremes) (hull_of_extremes h)
extreme_points_have_hull pts h s = record {
  ids = vertex_numbers xs;
  distinct_ids = positions_distinct pts E xs s.body.extremes.rising s.body.extremes.members (λ i j a b. apart i j a.0 b.0);
  given = sym (length-map xs (place pts));
  distinct = sym (length-map xs (vertex_number xs));
  body = body_renamed (by_position pts E xs s.body.extremes.rising s.body.extremes.members) h.body
      ((body_of_extremes (place pts) s.ids h.body apart).1 s.body);
}
  where
    xs : List ℕ
    xs = h.body.extremes

    E : ℕ → Type 0
    E = Extreme (place pts) (Members s.ids)

    apart : HasDistinctPoints (place pts) (Members s.ids)
    apart = distinct_apart pts s.ids s.distinct_ids
