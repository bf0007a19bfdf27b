-- The laws of locally convex surfaces.
use Rattle.qh_model.proofs.Common.{◌≡◌, ℕ, ◌≤◌, refl, sym, subst, ◌∙◌, arith, List, [], ◌∷◌, length, inl, inr, ⊎_elim, ints, ℤ, pos, count_by, ◌≤ℤ◌, ◌<ℤ◌}
use Rattle.qh_model.proofs.Common.{Triple, cross, vol, AreInLine, In, Members, Vector, minus, dot, AreSupporting, IsCornerOf}
use Rattle.qh_model.proofs.{algebra.Order.neg-positive, algebra.VectorIdentities.in_line-vol, closed_surfaces.Sums.count, closed_surfaces.Sums.count-is}
use Rattle.qh_model.proofs.algebra.Signs.{less_le}
use Rattle.qh_laws.specs.contract.LocallyConvex.{IsLocallyConvex, HasAllUnder, is_met}
use Rattle.qh_laws.specs.laws.ConvexLaws.{LocalIsConvex, UnderIsBelow, LocalSupports}
use Rattle.qh_laws.proofs.{Directions.IsOffEdges, Greatest.IsGreatest, Greatest.greatest, Perturbed.AllUp, UnderTriangles.under_is_below, Walks.walked}
use Rattle.qh_laws.proofs.{Highest.rise, Highest.depth, Highest.height, Highest.HighestMet, Rays.Forms, Rays.MeetsSame, Rays.of_all, Rays.count-alike}
use Rattle.qh_laws.proofs.NoneAbove.{middle, middle-first, middle-second, middle-third, outwards, none_above}
use Rattle.qh_laws.proofs.OffPoints.{plus, edge_above, PointOff, PointOffEdges, off_all, off_edges}

module _ (at : ℕ → Vector) (ts : List Triple) (z d : Vector) (c : IsLocallyConvex at ts z d) where
  -- a triangle that is highest at x, of a list that is not empty
  highest : (x : Vector) (t : Triple) → In t ts → (g : Triple) × In g ts × IsGreatest (height at z x ts) (depth at z x ts) g ts
  highest x t i = go ts refl t i
    where
      go : (us : List Triple) → us ≡ ts → (t : Triple) → In t ts → (g : Triple) × In g ts × IsGreatest (height at z x ts) (depth at z x ts) g ts
      go [] e t i = absurd (subst (λ us. In t us) (sym e) i)
      go (u ∷ us) e t i =
          subst (λ vs. (g : Triple) × In g vs × IsGreatest (height at z x ts) (depth at z x ts) g vs) e
          (greatest (height at z x ts) (depth at z x ts) u us (λ y j. neg-positive (rise at y z) (c.inside y (subst (λ vs. In y vs) e j))))

  -- the walk, from the middle of a triangle
  highest_met : (t : Triple) → In t ts → (x : Vector) → IsOffEdges at ts z x → HighestMet at z x ts
  highest_met t i x off = from (highest x t i)
    where
      from : (g : Triple) × In g ts × IsGreatest (height at z x ts) (depth at z x ts) g ts → HighestMet at z x ts
      from (g, j, top) = go (off_all at z ts c.inside x off inner m here)
        where
          inner : List Vector
          inner = cross z (at g.i) (at g.j) ∷ cross z (at g.j) (at g.k) ∷ cross z (at g.k) (at g.i) ∷ []

          m : Vector
          m = middle z (at g.i) (at g.j) (at g.k)

          out : pos 0 <ℤ vol z (at g.i) (at g.j) (at g.k)
          out = outwards at z ts c.inside g j

          here : AllUp inner m
          here p (inl e) = subst (λ q. pos 0 <ℤ dot q m) (sym e) (omega (arith, ints, middle-first z (at g.i) (at g.j) (at g.k), out))
          here p (inr (inl e)) = subst (λ q. pos 0 <ℤ dot q m) (sym e) (omega (arith, ints, middle-second z (at g.i) (at g.j) (at g.k), out))
          here p (inr (inr (inl e))) = subst (λ q. pos 0 <ℤ dot q m) (sym e) (omega (arith, ints, middle-third z (at g.i) (at g.j) (at g.k), out))
          here p (inr (inr (inr n))) = absurd n

          go : PointOff at z ts c.inside x inner → HighestMet at z x ts
          go (y, up, off_q, corner) =
              walked at z ts c.inside c.convex x off (plus z y) off_q corner g j top
              (edge_above z y (at g.i) (at g.j) (up (cross z (at g.i) (at g.j)) (inl refl)))
              (edge_above z y (at g.j) (at g.k) (up (cross z (at g.j) (at g.k)) (inr (inl refl))))
              (edge_above z y (at g.k) (at g.i) (up (cross z (at g.k) (at g.i)) (inr (inr (inl refl)))))

  -- no corner is above a triangle
  pub convex : (l : ℕ) → IsCornerOf ts l → (t : Triple) → In t ts → rise at t (at l) ≤ℤ pos 0
  convex l corner t i = go (off_edges at z ts c.inside forms.list (minus d z) forms.here)
    where
      forms : Forms at z d (λ y. (s : Triple) → In s ts → MeetsSame at z d s y)
      forms = of_all at z d ts c.told

      go : PointOffEdges at z ts c.inside forms.list → rise at t (at l) ≤ℤ pos 0
      go (y, up, off) = none_above at z ts c.inside c.closed (plus z y) off one (highest_met t i) l corner t i
        where
          at_most : (m n : ℕ) → m ≡ n → n ≡ 1 → m ≤ 1
          at_most m n e f = omega arith

          one : count (is_met at z (plus z y)) ts ≤ 1
          one =
              at_most (count (is_met at z (plus z y)) ts) (count (is_met at z d) ts)
              (count-alike (is_met at z (plus z y)) (is_met at z d) ts (forms.tell y up)) (count-is (is_met at z d) ts ∙ c.once)

-- the law of corners
pub local_is_convex : LocalIsConvex
local_is_convex at ts z d c = convex at ts z d c

-- the law of other points
pub under_triangle_is_below : UnderIsBelow
under_triangle_is_below at ts z d c p u t i =
    under_is_below (at t.i) (at t.j) (at t.k) z (at u.t.i) (at u.t.j) (at u.t.k) p (outwards at z ts c.inside u.t u.there)
    (less_le (rise at t z) (pos 0) (c.inside t i))
    (corner u.t.i (inl refl)) (corner u.t.j (inr (inl refl))) (corner u.t.k (inr (inr (inl refl)))) u.first u.second u.third u.below
  where
    corner : (l : ℕ) → In l (u.t.i ∷ u.t.j ∷ u.t.k ∷ []) → vol (at t.i) (at t.j) (at t.k) (at l) ≤ℤ pos 0
    corner l m = convex at ts z d c l (u.t, u.there, m) t i

-- no member of the set is above a triangle
pub member_below : (at : ℕ → Vector) (ids : List ℕ) (ts : List Triple) (z d : Vector) → IsLocallyConvex at ts z d
    → HasAllUnder at ids ts z → (l : ℕ) → In l ids → (t : Triple) → In t ts → rise at t (at l) ≤ℤ pos 0
member_below at ids ts z d c all l m t i = ⊎_elim (λ k. convex at ts z d c l k t i) (λ u. under_triangle_is_below at ts z d c (at l) u t i) (all.others l m)

-- the law of supporting triples
pub local_supports : LocalSupports
local_supports at ids ts z d c all = (record { some = some ts c.once; area = area; closed = c.closed }, supporting)
  where
    some : (us : List Triple) → count_by (is_met at z d) us ≡ 1 → 1 ≤ length us
    some [] e = cc
    some (u ∷ us) e = omega arith

    area : (t : Triple) → In t ts → ¬ (AreInLine (at t.i) (at t.j) (at t.k))
    area t i f = omega (arith, ints, c.inside t i, in_line-vol (at t.i) (at t.j) (at t.k) z f)

    supporting : AreSupporting at (Members ids) ts
    supporting t i = record {
      has_i = all.corners t.i (t, i, inl refl);
      has_j = all.corners t.j (t, i, inr (inl refl));
      has_k = all.corners t.k (t, i, inr (inr (inl refl)));
      area = area t i;
      supports = λ l m. member_below at ids ts z d c all l m t i;
    }
