-- Surfaces that become strict when their corners are perturbed inwards: the facets that a real point sees are connected.
use Rattle.qh_model.proofs.Common.{Bool, HasDistinctFacets, HasTwin, In, IsCorner, IsInner, IsSound, IsStrict, IsWhole, Side, Surface, Weighted, and_parts, ap}
use Rattle.qh_model.proofs.Common.{arith, both_ways, by_lt_z, end, false, far, first, inl, inr, ints, neg_ℤ, not, not-true, perturbed, plane_of, pos, refl}
use Rattle.qh_model.proofs.Common.{rest, rise, second, subst, suc, sym, third, towards, true, weighted_dot, ℕ, ℤ, ◌&&◌, ◌*ℤ◌, ◌+ℤ◌, ◌+◌, ◌<ℤ◌, ◌∙◌, ◌≡◌, ◌≢◌}
use Rattle.qh_model.proofs.{Common.◌≤ℤ◌, Decisions.holds, Decisions.less_or_not, Decisions.test, Decisions.told}
use Rattle.qh_model.proofs.algebra.{Order.mul-pos, Signs.less_one_way, Signs.not_less}
use Rattle.qh_model.proofs.surfaces.Facets.{bends, middle, middle_below, middle_on, middle_weak, plane-is, rise_over, rise_side, weak}
use Rattle.qh_model.proofs.surfaces.PerturbedInwards.{Choice, above-perturbed_all, choose, cube, scale, size, size_le, tilt}
use Rattle.qh_model.proofs.surfaces.VisibleFacets.{Corners, Cut, Over, none_cut_off}
use Rattle.qh_model.specs.contract.{SoundSurface.IsStrictWhenPerturbed, Surface.start}

-- the points of a facet's corners
abbrev pub placed : Surface → (ℕ → Weighted) → ℕ → Corners
placed m at f = record { a = at (m.i f); b = at (m.j f); c = at (m.k f) }

-- ---- connectedness over weighted points
-- the facets that see p: a first one, and any set of facets that has it and, for each of its facets, every neighbour that sees p
pub record Grown (m : Surface) (sees : ℕ → Bool) (c : ℕ → Bool) : Type 0 where
  pub f0 : ℕ
  pub live : In f0 m.live
  pub sees_p : sees f0 ≡ true
  pub has : c f0 ≡ true
  pub grows : (f : ℕ) → In f m.live → (s : Side) → c f ≡ true → sees (m.over f s) ≡ true → c (m.over f s) ≡ true

-- all facets that see a point are reached, if the surface is strict
pub connected_at : (m : Surface) (at : ℕ → Weighted) (real : ℕ → Weighted) (o : Weighted) → IsWhole m → IsInner m real o → IsStrict m at → HasDistinctFacets m
    → (p : Weighted) (sees : ℕ → Bool) → ((f : ℕ) → In f m.live → sees f ≡ true → pos 0 <ℤ rise m at f p)
    → ((f : ℕ) → In f m.live → pos 0 <ℤ rise m at f p → sees f ≡ true)
    → (c : ℕ → Bool) → Grown m sees c → (f : ℕ) → In f m.live → sees f ≡ true → c f ≡ true
connected_at m at real o w n h d p sees up down c r f i e = reached (c f) refl
  where
    mark : ℕ → Bool
    mark g = sees g && not (c g)

    y : Weighted
    y = middle m at r.f0

    normal : Weighted
    normal = plane_of (at (m.i r.f0)) (at (m.j r.f0)) (at (m.k r.f0))

    marked : (g : ℕ) → sees g ≡ true → c g ≡ false → mark g ≡ true
    marked g a b = rw (a, b) refl

    parts : (g : ℕ) → mark g ≡ true → (sees g ≡ true) × (c g ≡ false)
    parts g k = let b = and_parts (sees g) (not (c g)) k in (b.0, not-true (c g) b.1)

    apart : (g : ℕ) → mark g ≡ true → r.f0 ≢ g
    apart g k q = both_ways (c g) (parts g k).1 (ap c (sym q) ∙ r.has)

    joined : (g : ℕ) → In g m.live → mark g ≡ true → (s : Side) → pos 0 <ℤ rise m at (m.over g s) p → mark (m.over g s) ≡ true
    joined g j k s q = marked (m.over g s) sees_g (left_out (c (m.over g s)) refl)
      where
        t : HasTwin m g s
        t = w g j s

        sees_g : sees (m.over g s) ≡ true
        sees_g = down (m.over g s) t.live q

        left_out : (b : Bool) → c (m.over g s) ≡ b → c (m.over g s) ≡ false
        left_out false z = z
        left_out true z =
            let comes_back = r.grows (m.over g s) t.live (m.back g s) z (ap sees t.returns ∙ (parts g k).0) in
            absurd (both_ways (c g) (parts g k).1 (ap c (sym t.returns) ∙ comes_back))

    side : (g : ℕ) → In g m.live → mark g ≡ true → (s : Side) → Over (placed m at) m.live mark y p g (at (start m g s)) (at (end m g s)) (at (rest m g s))
    side g j k s =
        record {
          g = m.over g s;
          b = at (far m g s);
          live_g = (w g j s).live;
          at_f = λ z. rise_side m at g s z;
          at_g = λ z. rise_over m at w g j s z;
          bends = bends m at real o w n h g j s;
          under = middle_weak m at h (m.over g s) r.f0 (w g j s).live r.live;
          joined = joined g j k s;
        }

    cut : (g : ℕ) → In g m.live → mark g ≡ true → Cut (placed m at) m.live mark normal y p g
    cut g j k =
        record {
          sees = up g j (parts g k).0;
          below = middle_below m at h g r.f0 j r.live d (apart g k);
          under_a = normal_le (at (m.i g)) (weak m at h r.f0 g r.live j (m.i g) (inl refl));
          under_b = normal_le (at (m.j g)) (weak m at h r.f0 g r.live j (m.j g) (inr (inl refl)));
          under_c = normal_le (at (m.k g)) (weak m at h r.f0 g r.live j (m.k g) (inr (inr refl)));
          ab = side g j k first;
          bc = side g j k second;
          ca = side g j k third;
        }
      where
        normal_le : (z : Weighted) → rise m at r.f0 z ≤ℤ pos 0 → weighted_dot normal z ≤ℤ pos 0
        normal_le z q = subst (λ v. v ≤ℤ pos 0) (sym (plane-is (at (m.i r.f0)) (at (m.j r.f0)) (at (m.k r.f0)) z)) q

    reached : (b : Bool) → c f ≡ b → c f ≡ true
    reached true q = q
    reached false q =
        absurd (none_cut_off (placed m at) m.live mark normal y p
        (subst (λ v. pos 0 <ℤ v) (sym (plane-is (at (m.i r.f0)) (at (m.j r.f0)) (at (m.k r.f0)) p)) (up r.f0 r.live r.sees_p))
        (plane-is (at (m.i r.f0)) (at (m.j r.f0)) (at (m.k r.f0)) y ∙ middle_on m at r.f0)
        cut f i (marked f e q))

-- ---- perturbed inwards
-- true if the facet sees p
abbrev pub sees : Surface → (ℕ → Weighted) → Weighted → ℕ → Bool
sees m home p f = test (less_or_not (pos 0) (rise m home f p))

-- THEOREM: a walk across sides from one of the facets that p sees reaches all of them
pub connected : (m : Surface) (home : ℕ → Weighted) (o : Weighted) → IsWhole m → IsSound m home o
    → (p : Weighted) (c : ℕ → Bool) → Grown m (sees m home p) c → (f : ℕ) → In f m.live → pos 0 <ℤ rise m home f p → c f ≡ true
connected m home o w s p c g f i q =
    connected_at m at home o w s.inner (l.strict n (omega arith)) s.distinct top (sees m home p)
    (λ f j e. ch.up n (omega arith) f j (holds (less_or_not (pos 0) (rise m home f p)) e)) perturbed_back c g f i
    (told (less_or_not (pos 0) (rise m home f p)) q)
  where
    l : IsStrictWhenPerturbed m home o
    l = s.lifted

    ch : Choice m home o l.h p
    ch = choose m home o s.inner l.h p

    n : ℕ
    n = l.from + ch.from

    at : ℕ → Weighted
    at = perturbed home o l.h n

    top : Weighted
    top = towards o (pos n) p (pos ch.k)

    perturbed_back : (f : ℕ) → In f m.live → pos 0 <ℤ rise m at f top → sees m home p f ≡ true
    perturbed_back f j e =
        by_lt_z (pos 0) (rise m home f p) (told (less_or_not (pos 0) (rise m home f p))) (λ k. absurd (less_one_way _ _ e (ch.down n (omega arith) f j k)))

-- no corner is above a facet
pub cert : (m : Surface) (home : ℕ → Weighted) (o : Weighted) → IsStrictWhenPerturbed m home o
    → (f g : ℕ) → In f m.live → In g m.live → (l : ℕ) → IsCorner m g l → rise m home f (home l) ≤ℤ pos 0
cert m home o t f g i j l c =
    by_lt_z (pos 0) (rise m home f (home l))
    (λ q. absurd (not_less _ _ (perturbed_above q) (weak m (perturbed home o t.h n) (t.strict n (omega arith)) f g i j l c))) (λ q. q)
  where
    h : ℕ → ℤ
    h d = pos (t.h d)

    e : ℤ
    e = tilt o (home (m.i f)) (home (m.j f)) (home (m.k f)) (home l) (h (m.i f)) (h (m.j f)) (h (m.k f)) (h l)

    n : ℕ
    n = t.from + suc (suc (size e))

    perturbed_above : pos 0 <ℤ rise m home f (home l) → pos 0 <ℤ rise m (perturbed home o t.h n) f (perturbed home o t.h n l)
    perturbed_above q =
        subst (λ v. pos 0 <ℤ v) (sym value) (mul-pos _ _ (cube (suc (size e)) n (omega arith))
        (scale e (rise m home f (home l)) (suc (size e)) n (under e) (omega arith) q))
      where
        under : (x : ℤ) → neg_ℤ x <ℤ pos (suc (size x))
        under x = let b = size_le x in omega (arith, ints, b.1)

        value : rise m (perturbed home o t.h n) f (perturbed home o t.h n l) ≡ pos n *ℤ pos n *ℤ pos n *ℤ (pos n *ℤ rise m home f (home l) +ℤ e)
        value = above-perturbed_all o (home (m.i f)) (home (m.j f)) (home (m.k f)) (home l) (pos n) (h (m.i f)) (h (m.j f)) (h (m.k f)) (h l)
