-- Points that see a removed facet and no facet of the cone see no facet; points that see no facet see no facet of the cone.
use Rattle.qh_model.proofs.Common.{Bool, In, IsConeUnseen, IsSound, IsWhole, Side, Surface, Weighted, and_parts, arith, by_lt_z, far, inl, inr, pos, refl, rise}
use Rattle.qh_model.proofs.{Common.true, Common.ℕ, Common.◌&&◌, Common.◌<ℤ◌, Common.◌≡◌, Common.◌≤ℤ◌, Common.◌⊎◌, Decisions.holds, Decisions.less_or_not}
use Rattle.qh_model.proofs.{Decisions.told, algebra.Signs.equal_le, algebra.Signs.equal_nonpos, algebra.Signs.not_less, surfaces.Cone.ConeOf}
use Rattle.qh_model.proofs.surfaces.{Cone.KeptOf, Cone.Replaced, Cone.cone_inside, Cone.cone_rise, Cone.kept_rise, ConePlanes.apex_blind, ConePlanes.apex_seen}
use Rattle.qh_model.proofs.surfaces.{Connected.Grown, Connected.cert, Connected.connected, Connected.sees, Determinants.above-third, Facets.corner_rest}

-- THEOREM: q sees no kept facet, if it saw a removed one and sees no facet of the cone
pub dropped_stay_unseen : (m : Surface) (home : ℕ → Weighted) (o : Weighted) → IsWhole m → IsSound m home o
    → (p q : Weighted) (f0 : ℕ) → In f0 m.live → pos 0 <ℤ rise m home f0 p → pos 0 <ℤ rise m home f0 q → IsConeUnseen m home p q
    → (f : ℕ) → In f m.live → rise m home f p ≤ℤ pos 0 → rise m home f q ≤ℤ pos 0
dropped_stay_unseen m home o w z p q f0 i0 sp sq unseen f i blind =
    by_lt_z (pos 0) (rise m home f q) (λ k. absurd (not_less (pos 0) (rise m home f p) (by_p f (connected m home o w z q c grown f i k)) blind)) (λ k. k)
  where
    c : ℕ → Bool
    c g = sees m home p g && sees m home q g

    by_p : (g : ℕ) → c g ≡ true → pos 0 <ℤ rise m home g p
    by_p g e = holds (less_or_not (pos 0) (rise m home g p)) (and_parts (sees m home p g) (sees m home q g) e).0

    joined : (g : ℕ) → pos 0 <ℤ rise m home g p → pos 0 <ℤ rise m home g q → c g ≡ true
    joined g a b = rw (told (less_or_not (pos 0) (rise m home g p)) a, told (less_or_not (pos 0) (rise m home g q)) b) refl

    horizon : (g : ℕ) → In g m.live → (s : Side) → c g ≡ true → pos 0 <ℤ rise m home (m.over g s) q → rise m home (m.over g s) p ≤ℤ pos 0 → ⊥
    horizon g j s e k l =
        let far_blind = cert m home o z.lifted g (m.over g s) j (w g j s).live (far m g s) (corner_rest m (m.over g s) (m.back g s)) in
        let sees_q = holds (less_or_not (pos 0) (rise m home g q)) (and_parts (sees m home p g) (sees m home q g) e).1 in
        not_less _ _ (apex_seen m home w g j s p q (by_p g e) l far_blind sees_q k) (unseen g j s (by_p g e) l)

    grows : (g : ℕ) → In g m.live → (s : Side) → c g ≡ true → sees m home q (m.over g s) ≡ true → c (m.over g s) ≡ true
    grows g j s e k =
        let kq = holds (less_or_not (pos 0) (rise m home (m.over g s) q)) k in
        by_lt_z (pos 0) (rise m home (m.over g s) p) (λ kp. joined (m.over g s) kp kq) (λ kp. absurd (horizon g j s e kq kp))

    grown : Grown m (sees m home q) c
    grown = record { f0 = f0; live = i0; sees_p = told (less_or_not (pos 0) (rise m home f0 q)) sq; has = joined f0 sp sq; grows = grows }

module _ {m m' : Surface} {home : ℕ → Weighted} {p : ℕ} (r : Replaced m m' home p) where
  -- THEOREM: a point that no facet sees stays unseen
  pub settled_kept : (o : Weighted) → IsWhole m → IsSound m home o → (y : Weighted) → ((f : ℕ) → In f m.live → rise m home f y ≤ℤ pos 0)
      → (f' : ℕ) → In f' m'.live → rise m' home f' y ≤ℤ pos 0
  settled_kept o w z y h f' i = from (r.origin f' i)
    where
      from : KeptOf m m' home p f' ⊎ ConeOf m m' home p r.number f' → rise m' home f' y ≤ℤ pos 0
      from (inl k) = equal_nonpos _ _ (kept_rise k home y) (h f' k.live)
      from (inr n) =
          equal_nonpos _ _ (cone_rise n home y) (apex_blind m home w n.f n.live n.s (home p) y n.seen n.blind (cone_inside w z r n).0
          (h n.f n.live) (h (m.over n.f n.s) (w n.f n.live n.s).live))

  -- the apex is on its cone and sees no kept facet
  pub apex_settled : (f' : ℕ) → In f' m'.live → rise m' home f' (home p) ≤ℤ pos 0
  apex_settled = grind (arith, equal_nonpos, kept_rise, equal_le, cone_rise, above-third)
