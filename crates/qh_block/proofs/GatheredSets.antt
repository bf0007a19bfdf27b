-- A set by the positions of its ids in a list of their points: its extreme ids are those at the extreme positions.
use Rattle.qh_model.proofs.Common.{◌≡◌, ℕ, ◌<◌, List, length, map, arith, sym, subst, ◌∙◌, length-map, get_or-map, get_or_default, get_or-range_with_len}
use Rattle.qh_model.proofs.Common.{length-range_with_len, range_with_len, AreIndices, IsIdSet, Vector, origin, place, In, Members, vertex_number, AreExtremes}
use Rattle.qh_model.proofs.{Members.In-get_or, Members.rising_once, lists.Ranges.range_below, lists.Ranges.range_has, renamed.Lists.rising_map}
use Rattle.qh_model.proofs.{lists.Rising.range_rises, lists.Rising.rising_between, renamed.Positions.at_number, renamed.Positions.number_at}
use Rattle.qh_model.proofs.renamed.{Polygons.members_renamed, Renaming.IsRenaming, Renaming.renaming_apart, Renaming.extremes_renamed}
use Rattle.qh_mesh.specs.contract.Names.{name_in}

module _ (pts : List Vector) (ids : List ℕ) where
  -- the points in the order of the ids
  abbrev pub gathered : List Vector
  gathered = map (place pts) ids

  -- their positions
  abbrev pub positions : List ℕ
  positions = range_with_len 0 (length ids)

  -- there is a point at each position
  pub positions_in : AreIndices gathered positions
  positions_in k d h =
      let count = length-range_with_len 0 (length ids) in
      rw (get_or-range_with_len 0 (length ids) k d (omega (arith, count, h))) (omega (arith, count, length-map ids (place pts), h))

  -- the point at a position is that of the id at the position
  point_of : (k : ℕ) → k < length ids → place gathered k ≡ place pts (name_in ids k)
  unfolding place
  point_of k h = get_or-map (place pts) ids k k origin h

  module _ (s : IsIdSet pts ids) where
    -- a position names an id
    by_position : IsRenaming (place gathered) (place pts) (Members positions) (Members ids) (name_in ids) (vertex_number ids)
    by_position = record {
      to = λ k m. In-get_or ids k k (below k m);
      from = λ i m. range_has (length ids) (vertex_number ids i) (at_number ids i m).0;
      over = λ k m. subst (λ n. vertex_number ids n ≡ k) (get_or_default ids k 0 k (below k m))
          (number_at ids k (rising_once ids s.rising) (below k m));
      under = λ i m. get_or_default ids (vertex_number ids i) (vertex_number ids i) 0 (at_number ids i m).0 ∙ (at_number ids i m).1;
      point = λ k m. sym (point_of k (below k m));
      rises = λ j k m n h. rw (get_or_default ids j j 0 (below j m), get_or_default ids k k 0 (below k n))
          (rising_between ids j k s.rising h (below k n));
    }
      where
        below : (k : ℕ) → In k positions → k < length ids
        below = range_below (length ids)

    -- the positions are a set of ids of the gathered points
    pub positions_set : IsIdSet gathered positions
    positions_set = record {
      rising = range_rises (length ids);
      distinct = λ j k m n e. renaming_apart by_position j k m n
          (s.distinct (name_in ids j) (name_in ids k) (by_position.to j m) (by_position.to k n) (by_position.point j m ∙ e ∙ sym (by_position.point k n)));
    }

    -- the ids at the extreme positions are the extreme ids
    pub extremes_by_position : (found : List ℕ) → AreExtremes (place gathered) (Members positions) found
        → AreExtremes (place pts) (Members ids) (map (name_in ids) found)
    extremes_by_position found h = record {
      rising = rising_map (Members positions) (name_in ids) by_position.rises found (λ k m. ((h.members k).0 m).0) h.rising;
      members = members_renamed (extremes_renamed by_position) found h.members;
    }
