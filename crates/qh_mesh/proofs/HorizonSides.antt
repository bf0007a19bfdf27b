-- The horizon of listed facets: its edges, its balance, and how it is collected.
use Rattle.qh_model.proofs.Common.{◌≡◌, ℕ, ◌+◌, ◌/◌, ◌<◌, ◌≤◌, arith, ap, sym, ◌∙◌, refl, subst, Bool, true, false, not, List, [], ◌∷◌, All}
use Rattle.qh_model.proofs.Common.{length, map, slice_index, cases_Bool, not-true, sum_by-cons, filter, count_by, flat_map, StoredFacet, facet_at, Side, first}
use Rattle.qh_model.proofs.Common.{second, third, In}
use Rattle.std.proofs.lemmas.{Bool.not_from_false, List.Filters.sum_by-filter_both}
use Rattle.qh_model.proofs.{Members.All-In, Members.All-of, Members.In-get_or, Members.in_at, lists.Counts.count-map, lists.Counts.count_twins}
use Rattle.qh_model.proofs.lists.{Filters.in_filter, Filters.of_filter, Filters.once_filter, Filters.filter_image, OnceEach.once_place}
use Rattle.qh_model.proofs.surfaces.Stored.{live_inside}
use Rattle.qh_mesh.specs.{contract.Edges.edge_of, contract.Edges.facet_of, contract.Edges.twin_of, steps.Surfaces.IsSurface}
use Rattle.qh_mesh.specs.contract.Replacement.{sides_of, is_listed, horizon, IsLive, AreFacets, IsKept}
use Rattle.qh_mesh.specs.{declared.slots.End.End, declared.slots.End.TheVariants.Start, declared.slots.End.TheVariants.Finish, steps.Places.Removed}
use Rattle.qh_mesh.specs.steps.Horizons.{corner, other, edge_side, IsBalanced, HasSidesInside, is_open, three_sides, open_sides}
use Rattle.qh_mesh.specs.steps.{Kept.outer_of, Kept.removed, Twins.HasTwin, Twins.HasTwins}
use Rattle.qh_mesh.proofs.{EdgeSides.edge-facet, EdgeSides.twin-is, EdgeSides.side-is, EdgeSides.noted-is, Mates.meets}
use Rattle.qh_mesh.proofs.ListedFacets.{listed_live, in_sides, of_sides, once_sides, in_listed, listed_in, unlisted_at}

module _ (old : List StoredFacet) (vs : List ℕ) where
  -- the edge at a position of the horizon
  abbrev pub edge : ℕ → ℕ
  edge j = slice_index (horizon old vs) j

  -- true if a listed facet lies across the edge
  abbrev inner : ℕ → Bool
  inner e = is_listed vs (twin_of old e / 3)

  abbrev leaves : ℕ → Bool
  leaves e = not (inner e)

  -- the edge belongs to a listed facet, and no listed facet lies across
  pub on_horizon : (j : ℕ) → j < length (horizon old vs) → (is_listed vs (edge j / 3) ≡ true) × (inner (edge j) ≡ false)
  on_horizon j l =
      let r = of_filter leaves (sides_of vs) (edge j) (In-get_or (horizon old vs) j 0 l) in
      (of_sides vs (edge j) r.0, not-true (inner (edge j)) r.1)

  -- so its twin is an edge of a remaining facet
  pub horizon_twin : HasTwins old → AreFacets old vs → (j : ℕ) → j < length (horizon old vs) → HasTwin old (edge j) × IsKept old vs (twin_of old (edge j) / 3)
  horizon_twin = grind (arith, on_horizon, listed_live)

  -- each such edge is on the horizon
  pub horizon_at : (x : ℕ) → is_listed vs (x / 3) ≡ true → inner x ≡ false → (j : ℕ) × (j < length (horizon old vs)) × (edge j ≡ x)
  horizon_at x l u = in_at (horizon old vs) x (in_filter leaves (sides_of vs) x (in_sides vs x l) (not_from_false (inner x) u))

  -- once
  pub same_place : AreFacets old vs → (i j : ℕ) → i < length (horizon old vs) → j < length (horizon old vs) → edge i ≡ edge j → i ≡ j
  same_place a = once_place 0 (horizon old vs) (once_filter leaves (sides_of vs) (once_sides vs a.once))

-- ---- balance
-- the entries of the edges of facets are their sides
sides_are : (fs : List StoredFacet) (vs : List ℕ) → map (edge_side fs) (sides_of vs) ≡ flat_map (λ v. three_sides (facet_at fs v)) vs
sides_are fs [] = refl
sides_are fs (v ∷ vs) = λ i. noted-is fs v first i ∷ noted-is fs v second i ∷ noted-is fs v third i ∷ sides_are fs vs i

-- the sides of facets: at each corner, the number of sides that start equals the number that end
round : (fs : List StoredFacet) (l : ℕ) (vs : List ℕ) → let hs = flat_map (λ v. three_sides (facet_at fs v)) vs in
    count_by (meets Finish l) hs ≡ count_by (meets Start l) hs
round fs l [] = refl
round fs l (v ∷ vs) = let r = round fs l vs in simp sum_by-cons (omega arith)

module _ (fs : List StoredFacet) (vs : List ℕ) (t : HasTwins fs) (a : AreFacets fs vs) (l : ℕ) where
  abbrev inside : List ℕ
  inside = filter (inner fs vs) (sides_of vs)

  abbrev meet : End → ℕ → Bool
  meet end e = meets end l (edge_side fs e)

  -- the number of inner sides that meet it at this end is at most the number at the other end
  count_inside : (end : End) → count_by (meet end) inside ≤ count_by (meet (other end)) inside
  count_inside end = count_twins (twin_of fs) (meet end) (meet (other end)) inside
      (once_filter (inner fs vs) (sides_of vs) (once_sides vs a.once))
      (λ e i m. let k = of_filter (inner fs vs) (sides_of vs) e i in let d = twin_of fs e in let h = of_sides vs e k.0 in
      let g = t e (listed_live fs vs a (e / 3) h) in
      let met = elim end as (λ b. corner (other b) (edge_side fs d) ≡ corner b (edge_side fs e)) [ Start ↦ g.ends | Finish ↦ g.starts ] in
      (in_filter (inner fs vs) (sides_of vs) d (in_sides vs d k.1) (rw (g.back, h) refl), rw (met, m) refl, g.back))

  -- so on the horizon too
  balance : (end : End) → count_by (meet end) inside + count_by (meets end l) (map (edge_side fs) (horizon fs vs))
      ≡ count_by (meets end l) (flat_map (λ v. three_sides (facet_at fs v)) vs)
  balance = grind (arith, count-map, meets, sum_by-filter_both, sides_are)

-- the horizon of facets of a surface is balanced
pub horizon_balanced : (fs : List StoredFacet) (vs : List ℕ) → HasTwins fs → AreFacets fs vs → IsBalanced (map (edge_side fs) (horizon fs vs))
horizon_balanced fs vs t a = elim [ Start ↦ λ l. sym (even l) | Finish ↦ even ]
  where
    even : (l : ℕ) → let hs = map (edge_side fs) (horizon fs vs) in count_by (meets Finish l) hs ≡ count_by (meets Start l) hs
    even l = let c = count_inside fs vs t a l in let b = balance fs vs t a l in
        omega (arith, c Finish, c Start, b Finish, b Start, round fs l vs)

-- ---- collecting
module _ (old cleared : List StoredFacet) (vs : List ℕ) (r : Removed old cleared vs (length vs)) where
  -- a listed facet is removed
  pub gone : (f : ℕ) → is_listed vs f ≡ true → facet_at cleared f ≡ removed (facet_at old f)
  gone f e = let q = in_at vs f (listed_in vs f e) in subst (λ g. facet_at cleared g ≡ removed (facet_at old g)) q.2 (r.there q.0 q.1)

  -- every other facet is unchanged
  pub stays : (f : ℕ) → is_listed vs f ≡ false → facet_at cleared f ≡ facet_at old f
  stays f u = r.others f (unlisted_at vs f u)

  module _ (free : List ℕ) (s : IsSurface old free) (a : AreFacets old vs) where
    -- a listed facet and those across its sides are in the list
    pub sides_inside : All (HasSidesInside cleared) vs
    sides_inside = All-of (HasSidesInside cleared) vs (λ f i.
        let live = All-In (IsLive old) vs f a.live i in
        let across : (t : Side) → facet_of (outer_of (facet_at cleared f) t) < length cleared = (λ t. let e = edge_of f t in
        let twin = (s.twins e (subst (IsLive old) (sym (edge-facet f t)) live)).live in
        rw (gone f (in_listed vs f i), r.len, ← twin-is old f t) (live_inside old (facet_of (twin_of old e)) twin)) in
        record { facet = rw r.len (live_inside old f live); ij = across first; jk = across second; ki = across third })

    -- the entry of a side of a listed facet, which is open if the facet across remains
    noted : (e : ℕ) → In e (sides_of vs) → (edge_side cleared e ≡ edge_side old e) × (is_open cleared (edge_side cleared e) ≡ leaves old vs e)
    noted = grind (arith, of_sides, side-is, gone, cases_Bool, stays, listed_live)

    -- so the horizon is collected
    pub gathered : open_sides cleared vs ≡ map (edge_side old) (horizon old vs)
    gathered = ap (filter (is_open cleared)) (sym (sides_are cleared vs))
        ∙ filter_image (is_open cleared) (leaves old vs) (edge_side cleared) (edge_side old) (sides_of vs) noted
