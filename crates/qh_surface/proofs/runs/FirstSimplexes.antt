-- The start of a run: the facets of a simplex, with every position an orphan.
use Rattle.qh_mesh.specs.contract.{Replacement.IsLive, SoundMesh.IsSoundMesh, SoundMesh.IsClosedMesh, SoundMesh.simplex_facets}
use Rattle.qh_model.proofs.Common.{All, ◌≡◌, ◌≢◌, ℕ, zero, suc, ◌<◌, arith, sym, refl, inl, inr, List, [], ◌∷◌, length, subst, slice_index_or, pos, ◌<ℤ◌, ◌≤ℤ◌}
use Rattle.qh_model.proofs.Common.{ints, by_lt_z, All-from_recursion, All-nil, range_with_len, weighted, middle_at, StoredFacet, facet_at, Vector, place, vol}
use Rattle.qh_model.proofs.{Common.In, Members.All-In, Members.In-get_or, algebra.VectorIdentities.vol-flip_last, lists.Ranges.range_has}
use Rattle.{qh_model.proofs.surfaces.Simplex.middle-turned, qh_polygon.proofs.ShapeIds.first_two_in}
use Rattle.qh_polygon.specs.contract.Shapes.{IsInLine, IsInPlane, IsFirstNot, AreFirstTwo}
use Rattle.qh_surface.specs.contract.{OutsideSets.set_of, Simplexes.IsSimplexOf}
use Rattle.qh_surface.specs.steps.Runs.{height_at, IsGrown, RunState, IsRemade}

-- the corners of facet f are below n
abbrev CornersBelow : ℕ → List StoredFacet → ℕ → Type 0
CornersBelow n fs f = ((facet_at fs f).i < n) × ((facet_at fs f).j < n) × ((facet_at fs f).k < n)

-- the four facets of a simplex
abbrev pub four_facets : List ℕ
four_facets = 0 ∷ 1 ∷ 2 ∷ 3 ∷ []

-- each live facet of a simplex is one of the four, with three of its corners
simplex_facet : (n a b c d : ℕ) → a < n → b < n → c < n → d < n → (f : ℕ) → IsLive (simplex_facets a b c d) f
    → In f four_facets × CornersBelow n (simplex_facets a b c d) f
simplex_facet n a b c d ia ib ic id zero l = (inl refl, (ia, ib, ic))
simplex_facet n a b c d ia ib ic id (suc zero) l = (inr (inl refl), (ia, id, ib))
simplex_facet n a b c d ia ib ic id (suc (suc zero)) l = (inr (inr (inl refl)), (ia, ic, id))
simplex_facet n a b c d ia ib ic id (suc (suc (suc zero))) l = (inr (inr (inr (inl refl))), (ib, id, ic))
simplex_facet n a b c d ia ib ic id (suc (suc (suc (suc f)))) l = absurd (cc)

-- the mesh of a simplex of four points
pub record IsFirst (pts : List Vector) (fs : List StoredFacet) (i j k l : ℕ) : Type 0 where
  pub i_in : i < length pts
  pub j_in : j < length pts
  pub k_in : k < length pts
  pub l_in : l < length pts
  pub volume : vol (place pts i) (place pts j) (place pts k) (place pts l) ≢ pos 0
  pub up : pos 0 <ℤ vol (place pts i) (place pts j) (place pts k) (place pts l) → fs ≡ simplex_facets i k j l
  pub down : vol (place pts i) (place pts j) (place pts k) (place pts l) <ℤ pos 0 → fs ≡ simplex_facets i j k l
  pub sound : IsSoundMesh (place pts) fs (middle_at (place pts) i j k l)
  pub closed : IsClosedMesh (place pts) fs

-- a run can start with this mesh
record IsStarted (pts : List Vector) (fs : List StoredFacet) : Type 0 where
  grown : IsGrown pts fs
  named : (f : ℕ) → IsLive fs f → In f four_facets
  live : All (IsLive fs) four_facets

module _ {pts : List Vector} {fs : List StoredFacet} {i j k l : ℕ} (h : IsFirst pts fs i j k l) where
  abbrev at : ℕ → Vector
  at = place pts

  -- the positions of its corners in this order
  of_corners : (a b c d : ℕ) → fs ≡ simplex_facets a b c d → a < length pts → b < length pts → c < length pts → d < length pts
      → vol (at a) (at b) (at c) (at d) <ℤ pos 0 → IsSoundMesh at fs (middle_at at a b c d) → IsStarted pts fs
  of_corners a b c d is ia ib ic id volume sound = record {
    grown = record {
      s = a;
      t = b;
      u = c;
      v = d;
      s_in = ia;
      t_in = ib;
      u_in = ic;
      v_in = id;
      volume = volume;
      sound = sound;
      closed = h.closed;
      corners = record { i_in = λ f m. (below f m).0; j_in = λ f m. (below f m).1; k_in = λ f m. (below f m).2 };
    };
    named = λ f m. (facet f (rw is at m)).0;
    live = rw is (All-from_recursion (IsLive (simplex_facets a b c d)) four_facets (refl, (refl, (refl, (refl, tt)))));
  }
    where
      facet : (f : ℕ) → IsLive (simplex_facets a b c d) f → In f four_facets × CornersBelow (length pts) (simplex_facets a b c d) f
      facet = simplex_facet (length pts) a b c d ia ib ic id

      below : (f : ℕ) → IsLive fs f → CornersBelow (length pts) fs f
      below f m = rw is (facet f (rw is at m)).1

  -- the mesh starts a run, by the order of the corners that is turned outwards
  started : IsStarted pts fs
  started = by_lt_z (pos 0) (vol (at i) (at j) (at k) (at l))
      (λ up. of_corners i k j l (h.up up) h.i_in h.k_in h.j_in h.l_in (omega (arith, ints, up, vol-flip_last (at i) (at j) (at k) (at l)))
      (subst (IsSoundMesh at fs) (sym (middle-turned (weighted (at i)) (weighted (at j)) (weighted (at k)) (weighted (at l)))) h.sound))
      (λ low. let down : vol (at i) (at j) (at k) (at l) <ℤ pos 0 = omega (arith, ints, low, h.volume) in
      of_corners i j k l (h.down down) h.i_in h.j_in h.k_in h.l_in down h.sound)

-- the mesh with all positions orphans is ready to be settled
pub first_remade : (s : RunState) (i j k l : ℕ) → IsFirst s.points s.mesh i j k l → s.sets.positions ≡ length s.points
    → s.sets.orphans ≡ range_with_len 0 (length s.points) → s.sets.sets ≡ [] → s.pending ≡ [] → IsRemade s four_facets
first_remade s i j k l h p o none idle = record {
  grown = t.grown;
  planes = λ f a. inr (t.named f a);
  made_live = t.live;
  positions = p;
  range = subst (All (λ f. f < length s.sets.sets)) (sym idle) (All-nil (λ f. f < length s.sets.sets));
  settling = record {
    outside = λ f q m. absurd (nothing f q m);
    waits = λ f q m. absurd (nothing f q m);
    all = λ q b. inl (subst (In q) (sym o) (range_has (length s.points) q b));
    drops = λ q m u f a. All-In (λ g. height_at s.points s.mesh g q ≤ℤ pos 0) four_facets f u (t.named f a);
  };
}
  where
    t : IsStarted s.points s.mesh
    t = started h

    nothing : (f q : ℕ) → In q (set_of s.sets f) → ⊥
    nothing f q m = subst (λ (xs : List (List ℕ)). In q (slice_index_or xs f [])) none m

-- ---- the shape
-- the first ids that are not in a line and not in a plane are a simplex
pub simplex_is : (pts : List Vector) (ids : List ℕ) (i j k l : ℕ) → AreFirstTwo ids i j → IsFirstNot (IsInLine pts i j) ids k
    → IsFirstNot (IsInPlane pts i j k) ids l → IsSimplexOf pts ids (record { i = i; j = j; k = k; l = l })
simplex_is pts ids i j k l two line plane = record {
  has_i = (first_two_in ids i j two).0;
  has_j = (first_two_in ids i j two).1;
  has_k = subst (λ (x : ℕ). In x ids) line.is (In-get_or ids line.at 0 line.within);
  has_l = subst (λ (x : ℕ). In x ids) plane.is (In-get_or ids plane.at 0 plane.within);
  volume = plane.not;
}
