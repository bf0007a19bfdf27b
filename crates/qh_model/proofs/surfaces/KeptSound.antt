-- The invariant of a surface if a cone replaces the facets that see an id, and the points that see none of the new surface.
use Rattle.qh_model.proofs.Common.{HasDistinctFacets, IsInner, IsSound, IsStrict, perturbed, IsCorner, Side, Surface, HasTwin, IsWhole, end, rise, rest, first}
use Rattle.qh_model.proofs.Common.{second, third, Weighted, In, ◌≡◌, ◌≢◌, ℕ, refl, arith, ap, sym, ◌∙◌, subst, ◌⊎◌, inl, inr, ints, pos, neg_ℤ, ◌≤ℤ◌}
use Rattle.qh_model.specs.contract.Surface.{start}
use Rattle.qh_model.proofs.{algebra.Signs.not_less, surfaces.ConePlanes.Old, surfaces.Determinants.above-swap_last}
use Rattle.qh_model.proofs.surfaces.Cone.{KeptOf, ConeOf, Replaced, p_fresh, kept_corner, corner_kept, inner_kept, lifted_kept}
use Rattle.qh_model.proofs.surfaces.Facets.{side_rise, side_below, corner_start, corner_end, corner_rest, corner_test, ends_differ}

-- all corners of a facet, from those of a side
from_side : (m : Surface) (f : ℕ) (s : Side) (P : ℕ → Type 0) → P (start m f s) → P (end m f s) → P (rest m f s) → (l : ℕ) → IsCorner m f l → P l
from_side = grind arith

-- two facets with the same directed side are equal
pub edge_once : (m : Surface) (home : ℕ → Weighted) (o : Weighted) → IsSound m home o
    → (f g : ℕ) → In f m.live → In g m.live → (s t : Side) → start m f s ≡ start m g t → end m f s ≡ end m g t → f ≡ g
edge_once m home o q f g i j s t e1 e2 = same (corner_test m f (rest m g t)) (corner_test m g (rest m f s))
  where
    at : ℕ → Weighted
    at = perturbed home o q.lifted.h q.lifted.from

    st : IsStrict m at
    st = q.lifted.strict q.lifted.from (omega arith)

    swapped : side_rise m at g t (at (rest m f s)) ≡ neg_ℤ (side_rise m at f s (at (rest m g t)))
    swapped = rw (sym e1, sym e2) (above-swap_last (at (start m f s)) (at (end m f s)) (at (rest m f s)) (at (rest m g t)))

    same : IsCorner m f (rest m g t) ⊎ (¬ (IsCorner m f (rest m g t))) → IsCorner m g (rest m f s) ⊎ (¬ (IsCorner m g (rest m f s))) → f ≡ g
    same (inl a) b =
        sym (q.distinct g f j i (from_side m g t (IsCorner m f) (subst (IsCorner m f) e1 (corner_start m f s)) (subst (IsCorner m f) e2 (corner_end m f s)) a))
    same (inr a) (inl b) =
        q.distinct f g i j (from_side m f s (IsCorner m g)
        (subst (IsCorner m g) (sym e1) (corner_start m g t)) (subst (IsCorner m g) (sym e2) (corner_end m g t)) b)
    same (inr a) (inr b) =
        let low_f = side_below m at f s _ (st f g i j (rest m g t) (corner_rest m g t) a) in
        let low_g = side_below m at g t _ (st g f j i (rest m f s) (corner_rest m f s) b) in
        absurd (omega (arith, ints, low_f, low_g, swapped))

-- a side is determined by its start
pub side_once : (m : Surface) (home : ℕ → Weighted) (o : Weighted) → IsInner m home o → (f : ℕ) → In f m.live → (s t : Side) → start m f s ≡ start m f t → s ≡ t
side_once m home o q f i = once
  where
    apart : (s : Side) → start m f s ≢ end m f s
    apart = ends_differ m home o q f i

    once : (s t : Side) → start m f s ≡ start m f t → s ≡ t
    once first first e = refl
    once first second e = absurd (apart first e)
    once first third e = absurd (apart third (sym e))
    once second first e = absurd (apart first (sym e))
    once second second e = refl
    once second third e = absurd (apart second e)
    once third first e = absurd (apart third e)
    once third second e = absurd (apart second (sym e))
    once third third e = refl

-- three different numbers are not all among two
two_places : (x y z u v : ℕ) → x ≢ y → y ≢ z → z ≢ x → (x ≡ u) ⊎ (x ≡ v) → (y ≡ u) ⊎ (y ≡ v) → (z ≡ u) ⊎ (z ≡ v) → ⊥
two_places = grind arith

module _ {m m' : Surface} {home : ℕ → Weighted} {o : Weighted} {p : ℕ} (w : IsWhole m) (q : IsSound m home o)
    (r : Replaced m m' home p) where
  -- the facets still differ
  distinct_kept : HasDistinctFacets m'
  distinct_kept f' g' i j within = same (r.origin f' i) (r.origin g' j)
    where
      -- an old corner of the cone's facet is an end of its base side
      end_of : (n : ConeOf m m' home p r.number g') (l : ℕ) → Old m l → IsCorner m' g' l → (l ≡ start m n.f n.s) ⊎ (l ≡ end m n.f n.s)
      end_of n l k (inl e) = inl (e ∙ n.i_is)
      end_of n l k (inr (inl e)) = inr (e ∙ n.j_is)
      end_of n l k (inr (inr e)) = absurd (p_fresh w q r (subst (Old m) (e ∙ n.k_is) k))

      kept_cone : KeptOf m m' home p f' → ConeOf m m' home p r.number g' → ⊥
      kept_cone k n =
          let apart = ends_differ m home o q.inner f' k.live in
          two_places (m.i f') (m.j f') (m.k f') (start m n.f n.s) (end m n.f n.s) (apart first) (apart second) (apart third)
          (one (m.i f') (inl refl)) (one (m.j f') (inr (inl refl))) (one (m.k f') (inr (inr refl)))
        where
          one : (l : ℕ) → IsCorner m f' l → (l ≡ start m n.f n.s) ⊎ (l ≡ end m n.f n.s)
          one l c = end_of n l (f', k.live, c) (within l (kept_corner k l c))

      cone_cone : ConeOf m m' home p r.number f' → ConeOf m m' home p r.number g' → f' ≡ g'
      cone_cone a b =
          one_side (ends (start m a.f a.s) (corner_start m a.f a.s) (inl (sym a.i_is))) (ends (end m a.f a.s) (corner_end m a.f a.s) (inr (inl (sym a.j_is))))
        where
          ends : (l : ℕ) → IsCorner m a.f l → IsCorner m' f' l → (l ≡ start m b.f b.s) ⊎ (l ≡ end m b.f b.s)
          ends l c c' = end_of b l (a.f, a.live, c) (within l c')

          apart : start m a.f a.s ≢ end m a.f a.s
          apart = ends_differ m home o q.inner a.f a.live a.s

          t : HasTwin m b.f b.s
          t = w b.f b.live b.s

          one_side : (start m a.f a.s ≡ start m b.f b.s) ⊎ (start m a.f a.s ≡ end m b.f b.s)
              → (end m a.f a.s ≡ start m b.f b.s) ⊎ (end m a.f a.s ≡ end m b.f b.s) → f' ≡ g'
          one_side (inl x) (inr y) =
              let e = edge_once m home o q a.f b.f a.live b.live a.s b.s x y in
              let sides = side_once m home o q.inner b.f b.live a.s b.s (ap (λ f. start m f a.s) (sym e) ∙ x) in
              a.number_is ∙ (λ k. r.number (e k) (sides k)) ∙ sym b.number_is
          one_side (inr x) (inl y) =
              let e = edge_once m home o q a.f (m.over b.f b.s) a.live t.live a.s (m.back b.f b.s) (x ∙ sym t.start_is)
              (y ∙ sym t.end_is) in
              absurd (not_less _ _ a.seen (subst (λ f. rise m home f (home p) ≤ℤ pos 0) (sym e) b.blind))
          one_side (inl x) (inl y) = absurd (apart (x ∙ sym y))
          one_side (inr x) (inr y) = absurd (apart (x ∙ sym y))

      same : KeptOf m m' home p f' ⊎ ConeOf m m' home p r.number f' → KeptOf m m' home p g' ⊎ ConeOf m m' home p r.number g' → f' ≡ g'
      same (inl k) (inl n) = q.distinct f' g' k.live n.live (λ l c. corner_kept n l (within l (kept_corner k l c)))
      same (inl k) (inr n) = absurd (kept_cone k n)
      same (inr n) (inl k) = absurd (p_fresh w q r (g', k.live, corner_kept k p (within p (inr (inr (sym n.k_is))))))
      same (inr a) (inr b) = cone_cone a b

  -- THEOREM: a replacement keeps the invariant
  pub sound_kept : IsSound m' home o
  sound_kept = record { inner = inner_kept w q r; distinct = distinct_kept; lifted = lifted_kept w q r }
