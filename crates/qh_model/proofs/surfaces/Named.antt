-- A surface with other names of its corners: if different corners have different names, with the same points, it is sound if it was sound before, and finished
-- if it was finished before. So a surface over positions in a list of points is a surface over their ids.
use Rattle.qh_model.proofs.Common.{HasDistinctFacets, In, IsCorner, IsFinished, IsSound, IsStrict, IsWhole, List, Once, Side, StoredFacet, Surface}
use Rattle.qh_model.proofs.Common.{Vector, Weighted, [], ap, arith, both_ways, cond, end, facet_at, false, get_or-map, inl, inr, length}
use Rattle.qh_model.proofs.Common.{live_from, map, middle_at, middle_of, named_facet, origin, perturbed, place, pos, range_with_len, refl, rise}
use Rattle.qh_model.proofs.Common.{slice_index, subst, suc, surface_of, sym, towards, true, vertex_number, vol, weighted, weighted_at, zero, ℕ, ◌+◌}
use Rattle.qh_model.proofs.{Common.◌<ℤ◌, Common.◌<◌, Common.◌∙◌, Common.◌∷◌, Common.◌≡◌, Common.◌≤ℤ◌, lists.Images.in_map, lists.Images.of_map}
use Rattle.qh_model.proofs.{lists.Ranges.range_below, lists.Ranges.range_named, renamed.Positions.number_at, surfaces.Stored.live_is_marked}
use Rattle.qh_model.specs.contract.Surface.{start}

-- m' is m with renamed corners
pub record IsNamed (m m' : Surface) (name : ℕ → ℕ) : Type 0 where
  pub live : m'.live ≡ m.live
  pub i_is : (f : ℕ) → In f m.live → m'.i f ≡ name (m.i f)
  pub j_is : (f : ℕ) → In f m.live → m'.j f ≡ name (m.j f)
  pub k_is : (f : ℕ) → In f m.live → m'.k f ≡ name (m.k f)
  pub over_is : (f : ℕ) (s : Side) → In f m.live → m'.over f s ≡ m.over f s
  pub back_is : (f : ℕ) (s : Side) → In f m.live → m'.back f s ≡ m.back f s

-- the numbers below n have different names, since position is the inverse, and each name has its number's point
pub record IsNaming (at at' : ℕ → Vector) (n : ℕ) (name position : ℕ → ℕ) : Type 0 where
  pub back : (l : ℕ) → l < n → position (name l) ≡ l
  pub point : (l : ℕ) → l < n → at' (name l) ≡ at l

-- ---- the corners
module _ {m m' : Surface} {name : ℕ → ℕ} (r : IsNamed m m' name) where
  -- a live facet of m' is one of m
  live_named : (f : ℕ) → In f m'.live → In f m.live
  live_named f = subst (In f) r.live

  -- the start of a side
  pub start_named : (f : ℕ) → In f m.live → (s : Side) → start m' f s ≡ name (start m f s)
  start_named = grind arith

  -- the end of a side
  pub end_named : (f : ℕ) → In f m.live → (s : Side) → end m' f s ≡ name (end m f s)
  end_named = grind arith

  -- the name of a corner
  corner_named : (f : ℕ) → In f m.live → (l : ℕ) → IsCorner m f l → IsCorner m' f (name l)
  corner_named = grind arith

  -- a corner of m' is the name of one of m
  of_corner_named : (f : ℕ) → In f m.live → (l : ℕ) → IsCorner m' f l → (c : ℕ) × IsCorner m f c × (l ≡ name c)
  of_corner_named = grind arith

  -- a whole surface stays whole
  pub whole_named : IsWhole m → IsWhole m'
  whole_named = grind arith

-- ---- soundness
-- the names have the corners' points
abbrev ArePlaced : Surface → (home home' : ℕ → Weighted) → (ℕ → ℕ) → Type 0
ArePlaced m home home' name = (f : ℕ) → In f m.live → (l : ℕ) → IsCorner m f l → home' (name l) ≡ home l

-- position maps the name of a corner back to the corner
abbrev LeadsBack : Surface → (name position : ℕ → ℕ) → Type 0
LeadsBack m name position = (f : ℕ) → In f m.live → (l : ℕ) → IsCorner m f l → position (name l) ≡ l

module _ {m m' : Surface} {name : ℕ → ℕ} (r : IsNamed m m' name) where
  -- the height of a point above a facet stays the same
  rise_named : (home home' : ℕ → Weighted) → ArePlaced m home home' name → (f : ℕ) → In f m.live → (y : Weighted) → rise m home f y ≡ rise m' home' f y
  rise_named = grind arith

  -- a strict surface stays strict
  strict_named : (home home' : ℕ → Weighted) → ArePlaced m home home' name → IsStrict m home → IsStrict m' home'
  strict_named home home' p z f g i' j' l c u = below (of_corner_named r g j l c)
    where
      i : In f m.live
      i = live_named r f i'

      j : In g m.live
      j = live_named r g j'

      below : (c : ℕ) × IsCorner m g c × (l ≡ name c) → rise m' home' f (home' l) <ℤ pos 0
      below (c, d, e) =
          let known = z f g i j c d (λ x. u (subst (IsCorner m' f) (sym e) (corner_named r f i c x))) in
          let same : home c ≡ home' l = sym (ap home' e ∙ p g j c d) in
          subst (λ y. rise m' home' f y <ℤ pos 0) same (subst (λ x. x <ℤ pos 0) (rise_named home home' p f i (home c)) known)

  -- different facets stay different
  distinct_named : (position : ℕ → ℕ) → LeadsBack m name position → HasDistinctFacets m → HasDistinctFacets m'
  distinct_named position b d f g i' j' h = d f g i j (λ l c. kept l c (of_corner_named r g j (name l) (h (name l) (corner_named r f i l c))))
    where
      i : In f m.live
      i = live_named r f i'

      j : In g m.live
      j = live_named r g j'

      kept : (l : ℕ) → IsCorner m f l → (c : ℕ) × IsCorner m g c × (name l ≡ name c) → IsCorner m g l
      kept l x (c, y, e) = subst (IsCorner m g) (sym (b g j c y) ∙ ap position (sym e) ∙ b f i l x) y

  -- a sound surface stays sound
  pub sound_named : (home home' : ℕ → Weighted) (o : Weighted) (position : ℕ → ℕ)
      → ArePlaced m home home' name → LeadsBack m name position → IsSound m home o → IsSound m' home' o
  sound_named home home' o position p b z = record {
    inner = λ f i. let k = live_named r f i in subst (λ x. x <ℤ pos 0) (rise_named home home' p f k o) (z.inner f k);
    distinct = distinct_named position b z.distinct;
    lifted = record {
      h = share;
      from = z.lifted.from;
      strict = λ n e. strict_named (perturbed home o z.lifted.h n) (perturbed home' o share n) (perturbed_placed n) (z.lifted.strict n e);
    };
  }
    where
      share : ℕ → ℕ
      share l = z.lifted.h (position l)

      perturbed_placed : (n : ℕ) → ArePlaced m (perturbed home o z.lifted.h n) (perturbed home' o share n) name
      perturbed_placed n f i l c = λ k. towards o (pos n) (p f i l c k) (pos (z.lifted.h (b f i l c k)))

-- ---- the law
-- a surface finished over numbers is finished over their names
pub finished_named : (at at' : ℕ → Vector) (n : ℕ) (name position : ℕ → ℕ) (m m' : Surface) → IsNaming at at' n name position
    → IsNamed m m' name → IsFinished at (range_with_len 0 n) m → IsFinished at' (map name (range_with_len 0 n)) m'
finished_named at at' n name position m m' a r h =
    let at_s = sym (point h.s h.has_s) in let at_t = sym (point h.t h.has_t) in
    let at_u = sym (point h.u h.has_u) in let at_v = sym (point h.v h.has_v) in
    record {
      s = name h.s;
      t = name h.t;
      u = name h.u;
      v = name h.v;
      has_s = in_map name ids h.s h.has_s;
      has_t = in_map name ids h.t h.has_t;
      has_u = in_map name ids h.u h.has_u;
      has_v = in_map name ids h.v h.has_v;
      volume = subst (λ x. x <ℤ pos 0) (λ k. vol (at_s k) (at_t k) (at_u k) (at_v k)) h.volume;
      whole = whole_named r h.whole;
      sound = subst (IsSound m' (weighted_at at'))
          (λ k. middle_of (weighted (at_s k)) (weighted (at_t k)) (weighted (at_u k)) (weighted (at_v k)))
          (sound_named r (weighted_at at) (weighted_at at') (middle_at at h.s h.t h.u h.v) position
          (λ f i l c. ap weighted (point l (h.corners f i l c))) (λ f i l c. a.back l (range_below n l (h.corners f i l c))) h.sound);
      some = h.some;
      some_live = subst (In h.some) (sym r.live) h.some_live;
      corners = λ f i l c. member f (live_named r f i) l (of_corner_named r f (live_named r f i) l c);
      unseen = λ f i l k. below f (live_named r f i) l (of_map name ids l k);
    }
  where
    ids : List ℕ
    ids = range_with_len 0 n

    point : (l : ℕ) → In l ids → at' (name l) ≡ at l
    point l k = a.point l (range_below n l k)

    member : (f : ℕ) → In f m.live → (l : ℕ) → (c : ℕ) × IsCorner m f c × (l ≡ name c) → In l (map name ids)
    member f i l (c, d, e) = subst (λ x. In x (map name ids)) (sym e) (in_map name ids c (h.corners f i c d))

    below : (f : ℕ) → In f m.live → (l : ℕ) → (c : ℕ) × In c ids × (l ≡ name c) → vol (at' (m'.i f)) (at' (m'.j f)) (at' (m'.k f)) (at' l) ≤ℤ pos 0
    below f i l (c, k, e) =
        let p = corner (m.i f) _ (r.i_is f i) (inl refl) in let q = corner (m.j f) _ (r.j_is f i) (inr (inl refl)) in
        let t = corner (m.k f) _ (r.k_is f i) (inr (inr refl)) in
        subst (λ x. x ≤ℤ pos 0) (λ z. vol (p z) (q z) (t z) (at_l z)) (h.unseen f i c k)
      where
        corner : (d n : ℕ) → n ≡ name d → IsCorner m f d → at d ≡ at' n
        corner d n e c = sym (ap at' e ∙ point d (h.corners f i d c))

        at_l : at c ≡ at' l
        at_l = sym (ap at' e ∙ point c k)

-- ---- stored surfaces
module _ (name : ℕ → ℕ) where
  -- the same places are live
  stored_live : (n : ℕ) (fs : List StoredFacet) → live_from n (map (named_facet name) fs) ≡ live_from n fs
  stored_live n [] = refl
  stored_live n (f ∷ fs) = let rest = stored_live (n + 1) fs in λ k. cond f.live (n ∷ rest k) (rest k)

  -- a live place has its facet with renamed corners
  stored_facet : (fs : List StoredFacet) (f : ℕ) → (facet_at fs f).live ≡ true → facet_at (map (named_facet name) fs) f ≡ named_facet name (facet_at fs f)
  stored_facet [] f e = absurd (both_ways false refl e)
  stored_facet (x ∷ fs) zero e = refl
  stored_facet (x ∷ fs) (suc f) e = stored_facet fs f e

  -- the parts of the facets that renaming does not change
  pub stored_part : {X : Type 0} (part : StoredFacet → X) (fs : List StoredFacet) (f : ℕ) → ((x : StoredFacet) → part (named_facet name x) ≡ part x)
      → part (facet_at (map (named_facet name) fs) f) ≡ part (facet_at fs f)
  stored_part part [] f h = refl
  stored_part part (x ∷ fs) zero h = h x
  stored_part part (x ∷ fs) (suc f) h = stored_part part fs f h

  -- the corners of a stored surface are named place by place
  pub stored_named : (fs : List StoredFacet) → IsNamed (surface_of fs) (surface_of (map (named_facet name) fs)) name
  stored_named = grind (arith, stored_live, stored_part, stored_facet, live_is_marked)

-- ---- positions in a list of ids
-- a surface finished over the positions of ids is finished over the ids
pub finished_by_position : (pts : List Vector) (ids : List ℕ) (name : ℕ → ℕ) (fs : List StoredFacet) → Once ids
    → ((l : ℕ) → l < length ids → name l ≡ slice_index ids l)
    → IsFinished (place (map (place pts) ids)) (range_with_len 0 (length ids)) (surface_of fs)
    → IsFinished (place pts) ids (surface_of (map (named_facet name) fs))
unfolding place
finished_by_position pts ids name fs once same h =
    subst (λ xs. IsFinished (place pts) xs (surface_of (map (named_facet name) fs))) (range_named name ids same)
    (finished_named (place (map (place pts) ids)) (place pts) (length ids) name (vertex_number ids) (surface_of fs)
    (surface_of (map (named_facet name) fs)) naming (stored_named name fs) h)
  where
    naming : IsNaming (place (map (place pts) ids)) (place pts) (length ids) name (vertex_number ids)
    naming = record {
      back = λ l b. ap (vertex_number ids) (same l b) ∙ number_at ids l once b;
      point = λ l b. ap (place pts) (same l b) ∙ sym (get_or-map (place pts) ids l 0 origin b);
    }
