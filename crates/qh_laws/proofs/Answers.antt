-- The result for a part: those of its ids that are the lowest of their points and are extreme.
use Rattle.qh_model.proofs.Common.{◌≡◌, ◌≢◌, ℕ, ◌<◌, List, length, get_or, map, arith, sym, subst, ◌∙◌, length-map, get_or-map, IsStrictlyIncreasing}
use Rattle.qh_model.proofs.Common.{AreDistinctIds, Extreme, AreExtremes, place, In, Members, vertex_number, Vector, origin}
use Rattle.qh_model.proofs.{Members.In-get_or, Members.rising_once, lists.Images.in_map, lists.Images.of_map, renamed.Lists.rising_map}
use Rattle.qh_model.proofs.{lists.Rising.rising_between, renamed.Renaming.IsRenaming, renamed.Renaming.renaming_back, renamed.Renaming.extreme_renamed}
use Rattle.qh_model.proofs.renamed.Positions.{at_number, number_at, by_position, points_of, point_at}
use Rattle.qh_laws.specs.laws.TreeLaws.{IsAnswer}

-- the id is the lowest id of its point among the ids
pub record IsLowest (pts : List Vector) (ids : List ℕ) (i : ℕ) : Type 0 where
  pub member : In i ids
  pub lowest : (j : ℕ) → j < i → In j ids → place pts j ≢ place pts i

-- the point at a position
point_of : (pts : List Vector) (ids : List ℕ) (k : ℕ) → k < length ids → place (points_of pts ids) k ≡ place pts (get_or ids k 0)
unfolding place
point_of pts ids k h = get_or-map (place pts) ids k 0 origin h

module _ (pts : List Vector) (ids : List ℕ) (rising : IsStrictlyIncreasing ids) (qs : List ℕ) (d : AreDistinctIds (points_of pts ids) qs) where
  -- positions rise with the ids
  position_rises : (i j : ℕ) → In i ids → In j ids → i < j → vertex_number ids i < vertex_number ids j
  position_rises = (by_position pts (Members ids) ids rising (λ i. (λ m. m, λ m. m))).rises

  -- a distinct position is a position of the list
  position_below : (k : ℕ) → In k qs → k < length ids
  position_below k m = subst (λ n. k < n) (length-map ids (place pts)) ((d.members k).0 m).0

  -- the position of a lowest id is distinct
  position_of : (i : ℕ) → IsLowest pts ids i → In (vertex_number ids i) qs
  position_of i l = (d.members k).1 (subst (λ n. k < n) (sym (length-map ids (place pts))) r.0, apart)
    where
      k : ℕ
      k = vertex_number ids i

      r : (k < length ids) × (get_or ids k 0 ≡ i)
      r = at_number ids i l.member

      apart : (j : ℕ) → j < k → place (points_of pts ids) j ≢ place (points_of pts ids) k
      apart j h e =
          let low = r.0 in
          let within : j < length ids = omega (arith, h, low) in
          let before : get_or ids j 0 < i = subst (λ n. get_or ids j 0 < n) r.1 (rising_between ids j k rising h low) in
          l.lowest (get_or ids j 0) before (In-get_or ids j 0 within) (sym (point_of pts ids j within) ∙ e ∙ point_at pts ids i l.member)

  -- the id at a distinct position is the lowest id of its point
  lowest_at : (k : ℕ) → In k qs → IsLowest pts ids (get_or ids k 0)
  lowest_at k m = record { member = there; lowest = apart }
    where
      low : k < length ids
      low = position_below k m

      there : In (get_or ids k 0) ids
      there = In-get_or ids k 0 low

      apart : (j : ℕ) → j < get_or ids k 0 → In j ids → place pts j ≢ place pts (get_or ids k 0)
      apart j h n e =
          let here : vertex_number ids (get_or ids k 0) ≡ k = number_at ids k (rising_once ids rising) low in
          let before : vertex_number ids j < k =
          subst (λ p. vertex_number ids j < p) here (position_rises j (get_or ids k 0) n there h) in
          ((d.members k).0 m).1 (vertex_number ids j) before (point_at pts ids j n ∙ e ∙ sym (point_of pts ids k low))

  -- so lowest ids and distinct positions correspond to each other
  pub lowest_by_position : IsRenaming (place pts) (place (points_of pts ids)) (IsLowest pts ids) (Members qs)
      (vertex_number ids) (λ k. get_or ids k 0)
  lowest_by_position = record {
    to = position_of;
    from = lowest_at;
    over = λ i a. (at_number ids i a.member).1;
    under = λ k m. number_at ids k (rising_once ids rising) (position_below k m);
    point = λ i a. point_at pts ids i a.member;
    rises = λ i j a b h. position_rises i j a.member b.member h;
  }

-- an answer is the rising list of the extreme ids of the lowest ids
pub answer_is : (pts : List Vector) (ids xs : List ℕ) → IsStrictlyIncreasing ids → IsAnswer pts ids xs → AreExtremes (place pts) (IsLowest pts ids) xs
answer_is pts ids xs rising a = record {
  rising = subst IsStrictlyIncreasing (sym a.named)
      (rising_map (Members a.right.ids) back again.rises positions (λ k m. ((a.right.body.extremes.members k).0 m).0) a.right.body.extremes.rising);
  members = λ i. (into i, out i);
}
  where
    back : ℕ → ℕ
    back k = get_or ids k 0

    positions : List ℕ
    positions = a.hull.body.extremes

    there : IsRenaming (place pts) (place (points_of pts ids)) (IsLowest pts ids) (Members a.right.ids) (vertex_number ids) back
    there = lowest_by_position pts ids rising a.right.ids a.right.distinct_ids

    again : IsRenaming (place (points_of pts ids)) (place pts) (Members a.right.ids) (IsLowest pts ids) back (vertex_number ids)
    again = renaming_back there

    into : (i : ℕ) → In i xs → Extreme (place pts) (IsLowest pts ids) i
    into i m =
        let r = of_map back positions i (subst (λ t. In i t) a.named m) in
        subst (Extreme (place pts) (IsLowest pts ids)) (sym r.2) (extreme_renamed again r.0 ((a.right.body.extremes.members r.0).0 r.1))

    out : (i : ℕ) → Extreme (place pts) (IsLowest pts ids) i → In i xs
    out i e =
        let k = vertex_number ids i in
        let m = in_map back positions k ((a.right.body.extremes.members k).1 (extreme_renamed there i e)) in
        subst (λ t. In i t) (sym a.named) (subst (λ j. In j (map back positions)) (there.over i e.0) m)
