-- The horizon of perturbed corners: at the end of a side exactly one begins.
use Rattle.qh_model.proofs.Common.{Bool, HasTwin, In, IsCorner, IsSound, IsStrict, IsWhole, Side, Surface, Weighted, [], above, and_parts, ap, dite, end, far}
use Rattle.qh_model.proofs.Common.{inl, inr, neg_ℤ, pos, refl, rest, rise, subst, sym, true, ℕ, ℕ_discrete, ℤ, ◌&&◌, ◌*ℤ◌, ◌-ℤ◌, ◌<ℤ◌, ◌∙◌, ◌∷◌, ◌≡◌, ◌≢◌, ◌⊎◌}
use Rattle.qh_model.proofs.Decisions.{holds, less_or_not, test, told}
use Rattle.qh_model.proofs.algebra.{Order.mul-neg_neg, Order.neg-positive, Ring.ring, Ring.Expr.mul, Ring.Expr.neg, Ring.Expr.sub as less, Ring.Expr.var}
use Rattle.qh_model.proofs.algebra.Signs.{equal_negative, less_one_way, opposite_negative, opposite_positive}
use Rattle.qh_model.proofs.surfaces.{ConePlanes.Old, ConePlanes.apex_rise, ConePlanes.corner_below_cone, CramersRule.line_product, Determinants.above-turn}
use Rattle.qh_model.proofs.surfaces.{Determinants.swap24, Determinants.turned_first, FacetSides.end_next, FacetSides.from, FacetSides.from_is}
use Rattle.qh_model.proofs.surfaces.{FacetSides.side_next, FacetSides.start_next, Facets.corner_end, Facets.corner_rest, Facets.corner_test, Facets.ends_differ}
use Rattle.qh_model.proofs.surfaces.{Facets.rest_differs, Facets.rise_over, KeptSound.edge_once, KeptSound.side_once, VisibleFacets.Least, VisibleFacets.least}
use Rattle.qh_model.specs.contract.Surface.{start}

-- ---- perturbed corners: top is strictly above or strictly below every facet
pub record Scene (m : Surface) (home : ℕ → Weighted) (o : Weighted) : Type 0 where
  pub whole : IsWhole m
  pub sound : IsSound m home o
  pub at : ℕ → Weighted
  pub strict : IsStrict m at
  pub top : Weighted
  pub known : (f : ℕ) → In f m.live → (pos 0 <ℤ rise m at f top) ⊎ (rise m at f top <ℤ pos 0)

-- a side of the horizon
pub record HorizonSide (m : Surface) (at : ℕ → Weighted) (top : Weighted) (f : ℕ) (s : Side) : Type 0 where
  pub live : In f m.live
  pub seen : pos 0 <ℤ rise m at f top
  pub blind : rise m at (m.over f s) top <ℤ pos 0

module _ (m : Surface) (home : ℕ → Weighted) (o : Weighted) (c : Scene m home o) where
  -- all other corners are strictly below the plane through a horizon side and top
  pub horizon_below : (f : ℕ) (s : Side) → HorizonSide m c.at c.top f s
      → (l : ℕ) → Old m l → l ≢ start m f s → l ≢ end m f s → apex_rise m c.at f s c.top (c.at l) <ℤ pos 0
  horizon_below f s r l k ns ne = corner_below_cone m home o c.whole c.sound.inner c.at c.strict f r.live s l k ns ne c.top r.seen r.blind

  -- a horizon side is determined by its start, and by its end
  pub horizon_once : (f g : ℕ) (s t : Side) → HorizonSide m c.at c.top f s → HorizonSide m c.at c.top g t → start m f s ≡ start m g t → (f ≡ g) × (s ≡ t)
  horizon_once f g s t a b e = dite (ℕ_discrete (end m f s) (end m g t)) (λ k. let q = edge_once m home o c.sound f g a.live b.live s t e k in
      (q, side_once m home o c.sound.inner g b.live s t (ap (λ h. start m h s) (sym q) ∙ e))) (λ n. absurd (never n))
    where
      never : end m f s ≢ end m g t → ⊥
      never n =
          less_one_way _ _ (opposite_positive _ _ (swap24 (c.at (start m f s)) (c.at (end m f s)) c.top (c.at (end m g t)))
          (subst (λ u. above (c.at u) (c.at (end m g t)) c.top (c.at (end m f s)) <ℤ pos 0) (sym e)
          (horizon_below g t b (end m f s) (f, a.live, corner_end m f s) (λ q. ends_differ m home o c.sound.inner f a.live s (e ∙ sym q)) n)))
          (horizon_below f s a (end m g t) (g, b.live, corner_end m g t) (λ q. ends_differ m home o c.sound.inner g b.live t (sym e ∙ sym q)) (λ q. n (sym q)))

-- ---- at the end of a horizon side another begins
-- a horizon side that starts at v
pub record Joined (m : Surface) (at : ℕ → Weighted) (top : Weighted) (v : ℕ) : Type 0 where
  pub f : ℕ
  pub s : Side
  pub horizon : HorizonSide m at top f s
  pub starts : start m f s ≡ v

-- at the end of a horizon side another starts
pub horizon_next : (m : Surface) (home : ℕ → Weighted) (o : Weighted) (c : Scene m home o) (f : ℕ) (s : Side) → HorizonSide m c.at c.top f s
    → Joined m c.at c.top (end m f s)
horizon_next m home o c f s r = found (least mark p q m.live (λ g i e. p_pos g i e))
  where
    at : ℕ → Weighted
    at = c.at

    top : Weighted
    top = c.top

    u : ℕ
    u = start m f s

    v : ℕ
    v = end m f s

    w : ℕ
    w = rest m f s

    mark : ℕ → Bool
    mark g = test (less_or_not (pos 0) (rise m at g top)) && test (corner_test m g v)

    out : ℕ → ℕ
    out g = end m g (from m g v)

    -- the height of a point above the plane through v, top and another point
    round : ℕ → Weighted → ℤ
    round l y = above (at v) top (at l) y

    p : ℕ → ℤ
    p g = neg_ℤ (round u (at (out g)))

    q : ℕ → ℤ
    q g = neg_ℤ (round w (at (out g)))

    parts : (g : ℕ) → mark g ≡ true → (test (less_or_not (pos 0) (rise m at g top)) ≡ true) × (test (corner_test m g v) ≡ true)
    parts g = and_parts (test (less_or_not (pos 0) (rise m at g top))) (test (corner_test m g v))

    seen : (g : ℕ) → mark g ≡ true → pos 0 <ℤ rise m at g top
    seen g e = holds (less_or_not (pos 0) (rise m at g top)) (parts g e).0

    marked : (g : ℕ) → pos 0 <ℤ rise m at g top → IsCorner m g v → mark g ≡ true
    marked g a b = rw (told (less_or_not (pos 0) (rise m at g top)) a, told (corner_test m g v) b) refl

    starts : (g : ℕ) → mark g ≡ true → start m g (from m g v) ≡ v
    starts g e = from_is m g v (holds (corner_test m g v) (parts g e).1)

    t : HasTwin m f s
    t = c.whole f r.live s

    -- the reversed horizon side is not a side of a visible facet
    out_not_u : (g : ℕ) → In g m.live → mark g ≡ true → out g ≢ u
    out_not_u g i e k =
        let one = edge_once m home o c.sound g (m.over f s) i t.live (from m g v) (m.back f s) (starts g e ∙ sym t.start_is)
        (k ∙ sym t.end_is) in
        less_one_way _ _ (seen g e) (subst (λ h. rise m at h top <ℤ pos 0) (sym one) r.blind)

    below : (l : ℕ) → Old m l → l ≢ u → l ≢ v → round u (at l) <ℤ pos 0
    below l k a b = equal_negative _ _ (above-turn (at u) (at v) top (at l)) (horizon_below m home o c f s r l k a b)

    p_pos : (g : ℕ) → In g m.live → mark g ≡ true → pos 0 <ℤ p g
    p_pos g i e =
        neg-positive _ (below (out g) (g, i, corner_end m g (from m g v)) (out_not_u g i e)
        (λ k. ends_differ m home o c.sound.inner g i (from m g v) (starts g e ∙ sym k)))

    vw : round u (at w) <ℤ pos 0
    vw = let d = rest_differs m home o c.sound.inner f r.live s in below w (f, r.live, corner_rest m f s) d.0 d.1

    -- the facet across the side that starts at v comes earlier
    further : (g : ℕ) → In g m.live → mark g ≡ true → (d : Side) → from m g v ≡ d → pos 0 <ℤ rise m at (m.over g d) top
        → (mark (m.over g d) ≡ true) × (pos 0 <ℤ (p g *ℤ q (m.over g d) -ℤ q g *ℤ p (m.over g d)))
    further g i e d de k = (g'_marked, after_g)
      where
        g' : ℕ
        g' = m.over g d

        twin : HasTwin m g d
        twin = c.whole g i d

        starts_at_v : start m g d ≡ v
        starts_at_v = ap (start m g) (sym de) ∙ starts g e

        ends_at_v : end m g' (m.back g d) ≡ v
        ends_at_v = twin.end_is ∙ starts_at_v

        g'_marked : mark g' ≡ true
        g'_marked = marked g' k (subst (IsCorner m g') ends_at_v (corner_end m g' (m.back g d)))

        turn : from m g' v ≡ side_next (m.back g d)
        turn =
            side_once m home o c.sound.inner g' twin.live (from m g' v) (side_next (m.back g d))
            (starts g' g'_marked ∙ sym ends_at_v ∙ sym (start_next m g' (m.back g d)))

        out' : out g' ≡ far m g d
        out' = ap (end m g') turn ∙ end_next m g' (m.back g d)

        rising : rise m at g' top ≡ neg_ℤ (round (out g) (at (out g')))
        rising =
            rise_over m at c.whole g i d top
            ∙ (λ z. above (at (end m g (sym de z))) (at (starts_at_v z)) (at (sym out' z)) top)
            ∙ turned_first (at v) top (at (out g)) (at (out g'))

        after_g : pos 0 <ℤ (p g *ℤ q g' -ℤ q g *ℤ p g')
        after_g =
            subst (λ z. pos 0 <ℤ z) (sym (same (round u (at (out g))) (round w (at (out g'))) (round u (at (out g'))) (round w (at (out g)))
            ∙ line_product (at v) top (at u) (at w) (at (out g)) (at (out g'))))
            (mul-neg_neg (round u (at w)) (round (out g) (at (out g'))) vw (opposite_negative _ _ rising k))
          where
            same : (a b x y : ℤ) → neg_ℤ a *ℤ neg_ℤ b -ℤ neg_ℤ y *ℤ neg_ℤ x ≡ a *ℤ b -ℤ x *ℤ y
            same a b x y =
                ring (a ∷ b ∷ x ∷ y ∷ []) (less (mul (neg (var 0)) (neg (var 1))) (mul (neg (var 3)) (neg (var 2))))
                (less (mul (var 0) (var 1)) (mul (var 2) (var 3))) refl

    found : ((g : ℕ) → In g m.live → mark g ≡ true → ⊥) ⊎ Least mark p q m.live → Joined m at top v
    found (inl n) = absurd (n f r.live (marked f r.seen (corner_end m f s)))
    found (inr l) = last (c.known (m.over l.m d) (c.whole l.m l.there d).live)
      where
        d : Side
        d = from m l.m v

        last : (pos 0 <ℤ rise m at (m.over l.m d) top) ⊎ (rise m at (m.over l.m d) top <ℤ pos 0) → Joined m at top v
        last (inl k) = let h = further l.m l.there l.marked d refl k in absurd (l.least (m.over l.m d) (c.whole l.m l.there d).live h.0 h.1)
        last (inr k) = record { f = l.m; s = d; horizon = record { live = l.there; seen = seen l.m l.marked; blind = k }; starts = starts l.m l.marked }
