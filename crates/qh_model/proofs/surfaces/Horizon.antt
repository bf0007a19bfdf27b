-- The horizon: at the end of a side exactly one side begins, and at its start exactly one ends.
use Rattle.qh_model.proofs.Common.{In, IsHorizonSide, IsSound, IsWhole, List, Side, Surface, Weighted, [], above, arith, by_lt_z, dite, end, first, flat_map}
use Rattle.qh_model.proofs.Common.{inl, inr, perturbed, pos, refl, rise, second, subst, suc, sym, third, towards, zero, ℕ, ℕ_discrete, ◌+◌, ◌<ℤ◌, ◌∙◌, ◌∷◌, ◌≡◌}
use Rattle.qh_model.proofs.{Common.◌≢◌, Common.◌≤ℤ◌, algebra.Signs.less_one_way, algebra.Signs.opposite_positive, lists.Joined.in_flat_map}
use Rattle.qh_model.proofs.{lists.Searches.comes_back, surfaces.Determinants.swap14, surfaces.Facets.corner_start, surfaces.Facets.ends_differ}
use Rattle.qh_model.proofs.surfaces.PerturbedHorizon.{HorizonSide, Joined, Scene, horizon_below, horizon_next, horizon_once}
use Rattle.qh_model.proofs.surfaces.PerturbedInwards.{Choice, choose}
use Rattle.qh_model.specs.{contract.Surface.start, laws.Horizons.HasHorizonSide}

-- ---- at the start of a horizon side another ends
-- a horizon side that ends at u
pub record Ended (m : Surface) (at : ℕ → Weighted) (top : Weighted) (u : ℕ) : Type 0 where
  pub f : ℕ
  pub s : Side
  pub horizon : HorizonSide m at top f s
  pub ends : end m f s ≡ u

module _ (m : Surface) (home : ℕ → Weighted) (o : Weighted) (c : Scene m home o) where
  -- a horizon side is determined by its end
  pub horizon_once_end : (f g : ℕ) (s t : Side) → HorizonSide m c.at c.top f s → HorizonSide m c.at c.top g t
      → end m f s ≡ end m g t → start m f s ≡ start m g t
  horizon_once_end f g s t a b e = dite (ℕ_discrete (start m f s) (start m g t)) (λ k. k) (λ n. absurd (never n))
    where
      never : start m f s ≢ start m g t → ⊥
      never n =
          less_one_way _ _ (opposite_positive _ _ (swap14 (c.at (start m f s)) (c.at (end m f s)) c.top (c.at (start m g t)))
          (subst (λ u. above (c.at (start m g t)) (c.at u) c.top (c.at (start m f s)) <ℤ pos 0) (sym e)
          (horizon_below m home o c g t b (start m f s) (f, a.live, corner_start m f s) n (λ q. ends_differ m home o c.sound.inner f a.live s (q ∙ sym e)))))
          (horizon_below m home o c f s a (start m g t) (g, b.live, corner_start m g t) (λ q. n (sym q))
          (λ q. ends_differ m home o c.sound.inner g b.live t (q ∙ e)))

  -- at the start of a horizon side another ends: the way from side to side returns to the first, and each side follows only one
  pub horizon_prev : (f : ℕ) (s : Side) → HorizonSide m c.at c.top f s → Ended m c.at c.top (start m f s)
  horizon_prev f s r =
      let back = comes_back start_of corners within one_way in let j = (side back.0).1 in
      record { f = j.f; s = j.s; horizon = j.horizon; ends = back.1 }
    where
      -- the sides from this one, each given by its start
      side : ℕ → (v : ℕ) × Joined m c.at c.top v
      side zero = (start m f s, record { f = f; s = s; horizon = r; starts = refl })
      side (suc k) = let j = (side k).1 in (end m j.f j.s, horizon_next m home o c j.f j.s j.horizon)

      start_of : ℕ → ℕ
      start_of k = (side k).0

      corners_of : ℕ → List ℕ
      corners_of g = m.i g ∷ m.j g ∷ m.k g ∷ []

      corners : List ℕ
      corners = flat_map corners_of m.live

      has_start : (g : ℕ) (t : Side) → In (start m g t) (corners_of g)
      has_start g first = inl refl
      has_start g second = inr (inl refl)
      has_start g third = inr (inr (inl refl))

      within : (k : ℕ) → In (start_of k) corners
      within k = let j = (side k).1 in
          subst (λ v. In v corners) j.starts (in_flat_map corners_of m.live j.f (start m j.f j.s) j.horizon.live (has_start j.f j.s))

      one_way : (i j : ℕ) → start_of (suc i) ≡ start_of (suc j) → start_of i ≡ start_of j
      one_way i j e = let a = (side i).1 in let b = (side j).1 in
          sym a.starts ∙ horizon_once_end a.f b.f a.s b.s a.horizon b.horizon e ∙ b.starts

-- ---- the same for a real point
pub record Shown (m : Surface) (home : ℕ → Weighted) (o p : Weighted) : Type 0 where
  pub scene : Scene m home o
  pub horizon : (f : ℕ) (s : Side) → IsHorizonSide m home p f s → HorizonSide m scene.at scene.top f s
  pub edge : (f : ℕ) (s : Side) → HorizonSide m scene.at scene.top f s → IsHorizonSide m home p f s

module _ (m : Surface) (home : ℕ → Weighted) (o : Weighted) (w : IsWhole m) (z : IsSound m home o) (p : Weighted) where
  -- a real point satisfies the assumptions above
  pub shown : Shown m home o p
  shown = record {
    scene = record {
      whole = w;
      sound = z;
      at = at;
      top = top;
      strict = z.lifted.strict n (omega arith);
      known = λ f i. by_lt_z (pos 0) (rise m home f p) (λ k. inl (up f i k)) (λ k. inr (down f i k));
    };
    horizon = λ f s e. record { live = e.live; seen = up f e.live e.seen; blind = down (m.over f s) (w f e.live s).live e.blind };
    edge = λ f s r. record { live = r.live; seen = up_back f r.live r.seen; blind = down_back (m.over f s) (w f r.live s).live r.blind };
  }
    where
      ch : Choice m home o z.lifted.h p
      ch = choose m home o z.inner z.lifted.h p

      n : ℕ
      n = z.lifted.from + ch.from

      at : ℕ → Weighted
      at = perturbed home o z.lifted.h n

      top : Weighted
      top = towards o (pos n) p (pos ch.k)

      up : (f : ℕ) → In f m.live → pos 0 <ℤ rise m home f p → pos 0 <ℤ rise m at f top
      up = ch.up n (omega arith)

      down : (f : ℕ) → In f m.live → rise m home f p ≤ℤ pos 0 → rise m at f top <ℤ pos 0
      down = ch.down n (omega arith)

      up_back : (f : ℕ) → In f m.live → pos 0 <ℤ rise m at f top → pos 0 <ℤ rise m home f p
      up_back f i h = by_lt_z (pos 0) (rise m home f p) (λ k. k) (λ k. absurd (less_one_way _ _ h (down f i k)))

      down_back : (f : ℕ) → In f m.live → rise m at f top <ℤ pos 0 → rise m home f p ≤ℤ pos 0
      down_back f i h = by_lt_z (pos 0) (rise m home f p) (λ k. absurd (less_one_way _ _ (up f i k) h)) (λ k. k)

  -- THEOREM: each horizon edge has exactly one successor and one predecessor, determined by its ends
  pub edge_next : (f : ℕ) (s : Side) → IsHorizonSide m home p f s → HasHorizonSide m home p (λ g t. start m g t ≡ end m f s)
  edge_next f s e =
      let h = shown in let j = horizon_next m home o h.scene f s (h.horizon f s e) in
      record { f = j.f; s = j.s; edge = h.edge j.f j.s j.horizon; is = j.starts }

  -- each horizon edge has one predecessor
  pub edge_prev : (f : ℕ) (s : Side) → IsHorizonSide m home p f s → HasHorizonSide m home p (λ g t. end m g t ≡ start m f s)
  edge_prev f s e =
      let h = shown in let j = horizon_prev m home o h.scene f s (h.horizon f s e) in
      record { f = j.f; s = j.s; edge = h.edge j.f j.s j.horizon; is = j.ends }

  -- the start of a horizon side determines it
  pub edge_known_by_start : (f g : ℕ) (s t : Side) → IsHorizonSide m home p f s → IsHorizonSide m home p g t → start m f s ≡ start m g t → (f ≡ g) × (s ≡ t)
  edge_known_by_start f g s t a b = let h = shown in horizon_once m home o h.scene f g s t (h.horizon f s a) (h.horizon g t b)

  -- the end of a horizon side determines it
  pub edge_known_by_end : (f g : ℕ) (s t : Side) → IsHorizonSide m home p f s → IsHorizonSide m home p g t → end m f s ≡ end m g t → (f ≡ g) × (s ≡ t)
  edge_known_by_end f g s t a b e =
      let h = shown in edge_known_by_start f g s t a b (horizon_once_end m home o h.scene f g s t (h.horizon f s a) (h.horizon g t b) e)
