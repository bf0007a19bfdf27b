-- Ids of a run in another order, and by their positions.
use Rattle.qh_mesh.specs.contract.{Names.name_in, Replacement.IsLive}
use Rattle.qh_model.proofs.Common.{◌≡◌, ◌∙◌, ℕ, ◌<◌, List, [], ◌∷◌, length, map, ap, sym, subst, refl, inl, inr, false, arith, eqb, eq-eqb, slice_index}
use Rattle.qh_model.proofs.Common.{IsPermutation, get_or-map, get_or_default, length-map, nat_tests, IsPermutation-sym, IsDistinct-IsPermutation, IsDistinct}
use Rattle.qh_model.proofs.Common.{range_with_len, IsFinished, Surface, IsCorner, StoredFacet, named_facet, surface_of, AreIndices, Vector, origin, place, vol}
use Rattle.qh_model.proofs.{Common.In, Common.Once, Common.Members, Members.All-In, Members.All-of, Members.In-get_or, Members.every_of}
use Rattle.qh_model.proofs.{Members.every_at, Members.in_permutation, lists.Ranges.range_below, surfaces.Inside.finished_over, surfaces.Named.IsNamed}
use Rattle.{qh_model.proofs.surfaces.Named.stored_named, qh_model.proofs.surfaces.Stored.live_is_marked, qh_polygon.proofs.KeyOrder.eqb_flips}
use Rattle.qh_surface.specs.{contract.Corners.AreCornersBelow, contract.Simplexes.IsSimplexOf, declared.starts.initial_simplex.Simplex.Simplex}
use Rattle.qh_surface.specs.steps.Positions.{IsSimplexIn, IsPositionOf, ArePositionsOf}
use Rattle.std.proofs.lemmas.Map.Keys.{IsDistinct-cons, IsDistinct-head, IsDistinct-tail}

module _ {ids near : List ℕ} (p : IsPermutation ids near) where
  back : (i : ℕ) → Members near i → Members ids i
  back = in_permutation near ids (IsPermutation-sym ids near p)

  -- a surface that is finished for ids is finished for the same ids in another order
  pub finished_reordered : {at : ℕ → Vector} {m : Surface} → IsFinished at near m → IsFinished at ids m
  finished_reordered {at} {m} h = finished_over at near ids m h back (λ f i l k. h.unseen f i l (in_permutation ids near p l k))

  -- the ids are indices in any order
  pub indices_reordered : (pts : List Vector) → AreIndices pts ids → AreIndices pts near
  indices_reordered pts a = All-of (λ i. i < length pts) near (λ i m. All-In (λ i. i < length pts) ids i a (back i m))

  -- a simplex of ids is a simplex of the ids in any order
  pub simplex_reordered : {pts : List Vector} {s : Simplex} → IsSimplexOf pts ids s → IsSimplexOf pts near s
  simplex_reordered {s = s} h = record {
    has_i = in_permutation ids near p s.i h.has_i;
    has_j = in_permutation ids near p s.j h.has_j;
    has_k = in_permutation ids near p s.k h.has_k;
    has_l = in_permutation ids near p s.l h.has_l;
    volume = h.volume;
  }

  -- ids that occur once do so in any order
  pub once_reordered : Once ids → Once near
  unfolding IsDistinct
  once_reordered h = once near (IsDistinct-IsPermutation eqb eqb_flips ids near p (apart ids h))
    where
      apart : (xs : List ℕ) → Once xs → IsDistinct eqb xs
      apart [] h = tt
      apart (x ∷ xs) h = IsDistinct-cons eqb x xs
          (every_of (λ y. eqb x y ≡ false) xs (λ y m. grind (arith, nat_tests, h, m))) (apart xs h.1)

      once : (xs : List ℕ) → IsDistinct eqb xs → Once xs
      once [] d = tt
      once (x ∷ xs) d = (
        λ m. let e = eq-eqb x x refl in let n = every_at (λ y. eqb x y ≡ false) xs x (IsDistinct-head eqb x xs d) m in cc,
        once xs (IsDistinct-tail eqb x xs d),
      )

-- a simplex of ids in terms of their positions
pub simplex_in : (pts points : List Vector) (ids : List ℕ) (of s : Simplex) → points ≡ map (place pts) ids → ArePositionsOf ids of s
    → IsSimplexOf pts ids of → IsSimplexIn points s
unfolding place
simplex_in pts points ids of s is at h = record {
  i_in = rw (is, length-map) at.i_is.0;
  j_in = rw (is, length-map) at.j_is.0;
  k_in = rw (is, length-map) at.k_is.0;
  l_in = rw (is, length-map) at.l_is.0;
  volume = λ e. h.volume (sym (λ n. vol (same at.i_is n) (same at.j_is n) (same at.k_is n) (same at.l_is n)) ∙ e);
}
  where
    same : {p i : ℕ} → IsPositionOf ids i p → place points p ≡ place pts i
    same {p} q = ap (λ (xs : List Vector). place xs p) is ∙ get_or-map (place pts) ids p 0 origin q.0 ∙ ap (place pts) q.1

-- a list maps positions to its ids
pub name_is : (ids : List ℕ) (l : ℕ) → l < length ids → name_in ids l ≡ slice_index ids l
name_is ids l h = get_or_default ids l l 0 h

-- a finished surface over the positions of ids has positions as its corners
pub positions_within : {at : ℕ → Vector} (fs : List StoredFacet) (ids : List ℕ)
    → IsFinished at (range_with_len 0 (length ids)) (surface_of fs) → AreCornersBelow (length ids) fs
positions_within fs ids z = record {
  i_in = λ f l. range_below (length ids) _ (z.corners f ((live_is_marked fs f).1 l) _ (inl refl));
  j_in = λ f l. range_below (length ids) _ (z.corners f ((live_is_marked fs f).1 l) _ (inr (inl refl)));
  k_in = λ f l. range_below (length ids) _ (z.corners f ((live_is_marked fs f).1 l) _ (inr (inr refl)));
}

-- the corners of a finished surface over the positions of ids are mapped to ids
pub named_corners : (pts : List Vector) (ids : List ℕ) (at : ℕ → Vector) (fs : List StoredFacet) → AreIndices pts ids
    → IsFinished at (range_with_len 0 (length ids)) (surface_of fs) → AreCornersBelow (length pts) (map (named_facet (name_in ids)) fs)
named_corners pts ids at fs a z = record {
  i_in = λ f l. corner f _ _ l (m.i_is f (was f l)) (inl refl);
  j_in = λ f l. corner f _ _ l (m.j_is f (was f l)) (inr (inl refl));
  k_in = λ f l. corner f _ _ l (m.k_is f (was f l)) (inr (inr refl));
}
  where
    gs : List StoredFacet
    gs = map (named_facet (name_in ids)) fs

    m : IsNamed (surface_of fs) (surface_of gs) (name_in ids)
    m = stored_named (name_in ids) fs

    was : (f : ℕ) → IsLive gs f → In f (surface_of fs).live
    was f l = subst (In f) m.live ((live_is_marked gs f).1 l)

    corner : (f c i : ℕ) → IsLive gs f → i ≡ name_in ids c → IsCorner (surface_of fs) f c → i < length pts
    corner f c i l e h =
        let b = range_below (length ids) c (z.corners f (was f l) c h) in
        subst (λ n. n < length pts) (sym (e ∙ name_is ids c b)) (All-In (λ i. i < length pts) ids (slice_index ids c) a (In-get_or ids c 0 b))
