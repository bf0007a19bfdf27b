-- The facets that a point sees are connected, so a ring hides the facets inside it.
use Rattle.qh_model.proofs.Common.{◌≡◌, ℕ, refl, ◌∙◌, ap, Bool, true, false, both_ways, not-true, pos, ◌≤ℤ◌, not, weighted_at, middle_at, IsSound, Side}
use Rattle.qh_model.proofs.Common.{Surface, IsWhole, rise, Sees, Weighted, weighted, In, IsWalked}
use Rattle.qh_model.proofs.{algebra.Signs.at_most_zero, algebra.Signs.not_less, surfaces.SurfaceLaws.walk_finds_all}
use Rattle.qh_laws.specs.{contract.Seam.IsRing, laws.PointLaws.RingHidesRest}
use Rattle.qh_laws.proofs.Heights.{blind_rise, blind_height, seen_rise}

-- a walk over the facets that p sees reaches a facet that stays from one that does not stay only through the ring
ring_hides : (m : Surface) (home : ℕ → Weighted) (o : Weighted) → IsWhole m → IsSound m home o → (stay : ℕ → Bool) (p : Weighted)
    → (w : ℕ) → In w m.live → stay w ≡ false → Sees m home w p → ((g : ℕ) → IsRing m stay g → rise m home g p ≤ℤ pos 0)
    → (f : ℕ) → In f m.live → stay f ≡ true → rise m home f p ≤ℤ pos 0
ring_hides m home o whole sound stay p w i gone sees ring f live stays =
    at_most_zero (rise m home f p)
    (λ above. both_ways (stay f) (not-true (stay f) (walk_finds_all m home o whole sound p (λ g. not (stay g)) walked f live above)) stays)
  where
    grows : (g : ℕ) → In g m.live → (s : Side) → not (stay g) ≡ true → Sees m home (m.over g s) p → not (stay (m.over g s)) ≡ true
    grows g j s e above = by_mark (stay (m.over g s)) refl
      where
        ring_over : stay (m.over g s) ≡ true → IsRing m stay (m.over g s)
        ring_over h = let twin = whole g j s in
            record { live = twin.live; stays = h; side = m.back g s; gone = ap stay twin.returns ∙ not-true (stay g) e }

        by_mark : (b : Bool) → stay (m.over g s) ≡ b → not (stay (m.over g s)) ≡ true
        by_mark true h = absurd (not_less (pos 0) (rise m home (m.over g s) p) above (ring (m.over g s) (ring_over h)))
        by_mark false h = rw h refl

    walked : IsWalked m home p (λ g. not (stay g))
    walked = record { f0 = w; live = i; seen = sees; has = rw gone refl; grows = grows }

-- proof of the law `RingHidesRest`
pub ring_hides_rest : RingHidesRest
ring_hides_rest at ids m z stay p s ring f live stays =
    blind_height at m f p (ring_hides m (weighted_at at) (middle_at at z.s z.t z.u z.v) z.whole z.sound stay (weighted p) s.f s.live s.gone
    (seen_rise at m s.f p s.sees) (λ g r. blind_rise at m g p (ring g r)) f live stays)
