-- The twins of the cone, determined by the ends of the horizon's sides, make a whole surface again.
use Rattle.qh_model.proofs.Common.{IsHorizonSide, IsRewired, IsSound, Side, Surface, HasTwin, IsWhole, end, rise, first, second, third, Weighted, In, ◌≡◌, ℕ}
use Rattle.qh_model.proofs.Common.{ap, sym, ◌∙◌, subst, ◌⊎◌, inl, inr, by_lt_z, pos, ◌≤ℤ◌, ◌<ℤ◌, arith}
use Rattle.qh_model.specs.contract.{Rewired.LinksTo, Rewired.KeepsCorners, Surface.start}
use Rattle.qh_model.proofs.surfaces.{Cone.KeptOf, Cone.ConeOf, Cone.Replaced, Horizon.edge_next, Horizon.edge_prev, KeptSound.side_once, KeptSound.sound_kept}

-- the sides of a kept facet start as before
same_start : (m m' : Surface) (f : ℕ) → KeepsCorners m m' f → (s : Side) → start m' f s ≡ start m f s
same_start = grind arith

-- the sides of a kept facet end as before
same_end : (m m' : Surface) (f : ℕ) → KeepsCorners m m' f → (s : Side) → end m' f s ≡ end m f s
same_end = grind arith

-- the twin of a side, from the side that it links to
linked : (m' : Surface) (f : ℕ) (s : Side) (g : ℕ) (t : Side) → LinksTo m' f s g t → In g m'.live
    → start m' g t ≡ end m' f s → end m' g t ≡ start m' f s → m'.over g t ≡ f → HasTwin m' f s
linked = grind arith

-- each new side has its twin
pub whole_kept : (m m' : Surface) (home : ℕ → Weighted) (o : Weighted) (p : ℕ) → IsWhole m → IsSound m home o → IsRewired m m' home p → IsWhole m'
whole_kept m m' home o p w z r f' i s' = from (r.only f' i) s'
  where
    back_back : (f : ℕ) → In f m.live → (s : Side) → m.back (m.over f s) (m.back f s) ≡ s
    back_back f j s =
        let t = w f j s in let t2 = w (m.over f s) t.live (m.back f s) in
        side_once m home o z.inner f j (m.back (m.over f s) (m.back f s)) s
        (ap (λ x. start m x (m.back (m.over f s) (m.back f s))) (sym t.returns) ∙ t2.start_is ∙ t.end_is)

    blind_as : (a b : ℕ) → a ≡ b → rise m home b (home p) ≤ℤ pos 0 → rise m home a (home p) ≤ℤ pos 0
    blind_as a b e = subst (λ x. rise m home x (home p) ≤ℤ pos 0) (sym e)

    kept_side : (f : ℕ) → In f m.live → rise m home f (home p) ≤ℤ pos 0 → (s : Side) → HasTwin m' f s
    kept_side f j h s = by_lt_z (pos 0) (rise m home g (home p)) near plain
      where
        g : ℕ
        g = m.over f s

        b : Side
        b = m.back f s

        t : HasTwin m f s
        t = w f j s

        c : KeepsCorners m m' f
        c = r.kept f j h

        plain : rise m home g (home p) ≤ℤ pos 0 → HasTwin m' f s
        plain k =
            let d = r.kept g t.live k in
            linked m' f s g b (r.inside f s j h k) d.live
            (same_start m m' g d b ∙ t.start_is ∙ sym (same_end m m' f c s)) (same_end m m' g d b ∙ t.end_is ∙ sym (same_start m m' f c s))
            ((r.inside g b t.live k (blind_as (m.over g b) f t.returns h)).over_is ∙ t.returns)

        near : pos 0 <ℤ rise m home g (home p) → HasTwin m' f s
        near k =
            let e : IsHorizonSide m home (home p) g b = record { live = t.live; seen = k; blind = blind_as (m.over g b) f t.returns h } in
            let d = r.cone g b e in
            linked m' f s (r.number g b) first (r.outside f s j h k) d.live
            (d.i_is ∙ t.start_is ∙ sym (same_end m m' f c s)) (d.j_is ∙ t.end_is ∙ sym (same_start m m' f c s)) ((r.base g b e).over_is ∙ t.returns)

    cone_side : (f : ℕ) (s : Side) → IsHorizonSide m home (home p) f s → (s' : Side) → HasTwin m' (r.number f s) s'
    cone_side f s e first =
        let t = w f e.live s in let g = m.over f s in let b = m.back f s in
        let d = r.cone f s e in let k = r.kept g t.live e.blind in
        let l = r.outside g b t.live e.blind (subst (λ x. pos 0 <ℤ rise m home x (home p)) (sym t.returns) e.seen) in
        linked m' (r.number f s) first g b (r.base f s e) k.live (same_start m m' g k b ∙ t.start_is ∙ sym d.j_is) (same_end m m' g k b ∙ t.end_is ∙ sym d.i_is)
        (l.over_is ∙ ap (λ x. r.number x (m.back g b)) t.returns ∙ ap (r.number f) (back_back f e.live s))
    cone_side f s e second =
        let n = edge_next m home o w z (home p) f s e in
        let d = r.cone f s e in let k = r.cone n.f n.s n.edge in
        linked m' (r.number f s) second (r.number n.f n.s) third (r.next f s n.f n.s e n.edge n.is) k.live
        (k.k_is ∙ sym d.k_is) (k.i_is ∙ n.is ∙ sym d.j_is) (r.prev n.f n.s f s n.edge e (sym n.is)).over_is
    cone_side f s e third =
        let n = edge_prev m home o w z (home p) f s e in
        let d = r.cone f s e in let k = r.cone n.f n.s n.edge in
        linked m' (r.number f s) third (r.number n.f n.s) second (r.prev f s n.f n.s e n.edge n.is) k.live
        (k.j_is ∙ n.is ∙ sym d.i_is) (k.k_is ∙ sym d.k_is) (r.next n.f n.s f s n.edge e (sym n.is)).over_is

    from : (In f' m.live × (rise m home f' (home p) ≤ℤ pos 0)) ⊎ ((f : ℕ) × (s : Side) × IsHorizonSide m home (home p) f s × (f' ≡ r.number f s))
        → (s' : Side) → HasTwin m' f' s'
    from (inl k) s' = kept_side f' k.0 k.1 s'
    from (inr (f, s, e, q)) s' = subst (λ x. HasTwin m' x s') (sym q) (cone_side f s e s')

-- a rewired surface is a replacement
pub replaced : (m m' : Surface) (home : ℕ → Weighted) (p : ℕ) → IsRewired m m' home p → Replaced m m' home p
replaced m m' home p r = record { number = r.number; f0 = r.f0; live = r.live; seen = r.seen; origin = λ f' i. from f' (r.only f' i) }
  where
    from : (f' : ℕ) → (In f' m.live × (rise m home f' (home p) ≤ℤ pos 0)) ⊎ ((f : ℕ) × (s : Side) × IsHorizonSide m home (home p) f s × (f' ≡ r.number f s))
        → KeptOf m m' home p f' ⊎ ConeOf m m' home p r.number f'
    from f' (inl k) = let c = r.kept f' k.0 k.1 in inl (record { live = k.0; blind = k.1; i_is = c.i_is; j_is = c.j_is; k_is = c.k_is })
    from f' (inr (f, s, e, q)) = let c = r.cone f s e in inr (record {
      f = f;
      s = s;
      live = e.live;
      seen = e.seen;
      blind = e.blind;
      number_is = q;
      i_is = ap m'.i q ∙ c.i_is;
      j_is = ap m'.j q ∙ c.j_is;
      k_is = ap m'.k q ∙ c.k_is;
    })

-- THEOREM: a replacement keeps a whole, sound surface
pub replace_keeps : (m m' : Surface) (home : ℕ → Weighted) (o : Weighted) (p : ℕ) → IsWhole m → IsSound m home o → IsRewired m m' home p
    → IsWhole m' × IsSound m' home o
replace_keeps m m' home o p w z r = (whole_kept m m' home o p w z r, sound_kept w z (replaced m m' home p r))
