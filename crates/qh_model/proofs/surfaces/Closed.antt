-- The live facets of a sound surface are a closed surface: each directed edge is that of at most one facet, and the reversed edge is that of its twin. The
-- signed volume of the surface is below 0.
use Rattle.qh_model.proofs.Common.{AreInLine, Bool, In, IsClosed, IsInner, IsSound, IsWhole, List, Once, Side, Surface, Triple, Vector, Weighted, [], ap, arith}
use Rattle.qh_model.proofs.Common.{cond, edges, end, false, first, inl, inr, ints, is_edge, length, middle_at, pos, refl, rise, rules, second, signed_volume}
use Rattle.qh_model.proofs.Common.{subst, suc, sym, third, triples_from, triples_of, true, vol, weighted_at, zero, ℕ, ℤ, ◌+ℤ◌, ◌+◌, ◌<ℤ◌, ◌<◌, ◌∙◌, ◌∷◌, ◌≡◌}
use Rattle.qh_model.proofs.{Common.◌≤ℤ◌, Common.◌≤◌, Members.each_more, algebra.Signs.less_le, algebra.VectorIdentities.in_line-vol}
use Rattle.qh_model.proofs.closed_surfaces.{SignedVolume.edge_tests, SignedVolume.volume_is_constant, Sums.count, Sums.count-is}
use Rattle.qh_model.proofs.surfaces.{Determinants.above-together, Facets.ends_differ, KeptSound.edge_once, SurfaceLaws.rise_is_vol}
use Rattle.qh_model.specs.{contract.Surface.start, laws.ClosedSurfaceLaws.SoundHasVolume, laws.ClosedSurfaceLaws.SoundIsClosed}

-- ---- edges as sides
-- a side of one of the facets goes from u to v
record HasSide (m : Surface) (fs : List ℕ) (u v : ℕ) : Type 0 where
  f : ℕ
  s : Side
  there : In f fs
  start_is : start m f s ≡ u
  end_is : end m f s ≡ v

-- the number of times that (u, v) is an edge of the facets
abbrev times : Surface → List ℕ → ℕ → ℕ → ℕ
times m fs u v = count (is_edge (u, v)) (edges (triples_from m fs))

module _ (u v : ℕ) where
  -- equal pairs have equal components
  ends_of : (i j : ℕ) → is_edge (u, v) (i, j) ≡ true → (i ≡ u) × (j ≡ v)
  ends_of i j e = let p = edge_tests.same (u, v) (i, j) e in (sym (ap (λ q. q.0) p), sym (ap (λ q. q.1) p))

  -- pairs with equal components are equal
  edge_of : (i j : ℕ) → i ≡ u → j ≡ v → is_edge (u, v) (i, j) ≡ true
  edge_of i j e f = (λ k. is_edge (u, v) (e k, f k)) ∙ edge_tests.itself (u, v)

module _ (m : Surface) (u v : ℕ) where
  -- an edge that occurs is a side
  side_of : (fs : List ℕ) → 0 < times m fs u v → HasSide m fs u v
  side_of [] h = absurd (omega arith)
  side_of (f ∷ fs) h = found (is_edge (u, v) (m.i f, m.j f)) refl (is_edge (u, v) (m.j f, m.k f)) refl (is_edge (u, v) (m.k f, m.i f)) refl h (side_of fs)
    where
      own : (s : Side) → (start m f s ≡ u) × (end m f s ≡ v) → HasSide m (f ∷ fs) u v
      own s e = record { f = f; s = s; there = inl refl; start_is = e.0; end_is = e.1 }

      more : HasSide m fs u v → HasSide m (f ∷ fs) u v
      more x = record { f = x.f; s = x.s; there = inr x.there; start_is = x.start_is; end_is = x.end_is }

      found : (a : Bool) → is_edge (u, v) (m.i f, m.j f) ≡ a → (b : Bool) → is_edge (u, v) (m.j f, m.k f) ≡ b → (c : Bool) → is_edge (u, v) (m.k f, m.i f) ≡ c
          → 0 < cond a 1 0 + (cond b 1 0 + (cond c 1 0 + times m fs u v)) → (0 < times m fs u v → HasSide m fs u v) → HasSide m (f ∷ fs) u v
      found true e b q c r h low = own first (ends_of u v (m.i f) (m.j f) e)
      found false e true q c r h low = own second (ends_of u v (m.j f) (m.k f) q)
      found false e false q true r h low = own third (ends_of u v (m.k f) (m.i f) r)
      found false e false q false r h low = more (low (omega arith))

  -- a side of a facet occurs as an edge
  side_counts : (fs : List ℕ) (f : ℕ) (s : Side) → In f fs → start m f s ≡ u → end m f s ≡ v → 0 < times m fs u v
  side_counts [] f s i p q = absurd i
  side_counts (g ∷ fs) f s (inr i) p q = let h = side_counts fs f s i p q in omega arith
  side_counts (g ∷ fs) f s (inl e) p q = own s (subst (λ x. start m x s ≡ u) e p) (subst (λ x. end m x s ≡ v) e q)
    where
      own : (s : Side) → start m g s ≡ u → end m g s ≡ v → 0 < times m (g ∷ fs) u v
      own first p q = rw (edge_of u v (m.i g) (m.j g) p q) (omega arith)
      own second p q = rw (edge_of u v (m.j g) (m.k g) p q) (omega arith)
      own third p q = rw (edge_of u v (m.k g) (m.i g) p q) (omega arith)

-- ---- each edge once
-- at most one of three, and no further one if there is one
one_of_three : (a b c : Bool) (n : ℕ) → (a ≡ true → b ≡ true → ⊥) → (b ≡ true → c ≡ true → ⊥) → (c ≡ true → a ≡ true → ⊥)
    → (a ≡ true → n ≡ 0) → (b ≡ true → n ≡ 0) → (c ≡ true → n ≡ 0) → n ≤ 1 → cond a 1 0 + (cond b 1 0 + (cond c 1 0 + n)) ≤ 1
one_of_three = grind arith

module _ (m : Surface) (home : ℕ → Weighted) (o : Weighted) (z : IsSound m home o) where
  -- each directed edge is that of at most one facet
  times_one : (u v : ℕ) (fs : List ℕ) → Once fs → ((f : ℕ) → In f fs → In f m.live) → times m fs u v ≤ 1
  times_one u v [] once sub = omega arith
  times_one u v (f ∷ fs) once sub =
      one_of_three (is_edge (u, v) (m.i f, m.j f)) (is_edge (u, v) (m.j f, m.k f)) (is_edge (u, v) (m.k f, m.i f)) (times m fs u v)
      (λ p q. two first (one_start (m.i f) (m.j f) (m.j f) (m.k f) p q)) (λ p q. two second (one_start (m.j f) (m.k f) (m.k f) (m.i f) p q))
      (λ p q. two third (one_start (m.k f) (m.i f) (m.i f) (m.j f) p q))
      (λ p. alone first (ends_of u v (m.i f) (m.j f) p)) (λ p. alone second (ends_of u v (m.j f) (m.k f) p))
      (λ p. alone third (ends_of u v (m.k f) (m.i f) p)) (times_one u v fs once.1 (λ g i. sub g (inr i)))
    where
      live : In f m.live
      live = sub f (inl refl)

      two : (s : Side) → start m f s ≡ end m f s → ⊥
      two = ends_differ m home o z.inner f live

      -- two sides that both start at u
      one_start : (i j k l : ℕ) → is_edge (u, v) (i, j) ≡ true → is_edge (u, v) (k, l) ≡ true → i ≡ k
      one_start i j k l p q = (ends_of u v i j p).0 ∙ sym (ends_of u v k l q).0

      alone : (s : Side) → (start m f s ≡ u) × (end m f s ≡ v) → times m fs u v ≡ 0
      alone s e = none (times m fs u v) refl
        where
          again : HasSide m fs u v → ⊥
          again x =
              let one = edge_once m home o z x.f f (sub x.f (inr x.there)) live x.s s (x.start_is ∙ sym e.0) (x.end_is ∙ sym e.1) in
              once.0 (subst (λ t. In t fs) one x.there)

          none : (n : ℕ) → times m fs u v ≡ n → times m fs u v ≡ 0
          none zero q = q
          none (suc n) q = absurd (again (side_of m u v fs (omega (arith, q))))

  -- ---- closed
  -- each edge is an edge of a facet as often as the reversed edge is
  closed : IsWhole m → Once m.live → IsClosed (triples_of m)
  closed w once u v =
      sym (count-is (is_edge (u, v)) (edges (triples_of m)))
      ∙ same_bit _ _ (times_one u v m.live once (λ f i. i)) (times_one v u m.live once (λ f i. i)) (turned u v) (turned v u)
      ∙ count-is (is_edge (v, u)) (edges (triples_of m))
    where
      same_bit : (a b : ℕ) → a ≤ 1 → b ≤ 1 → (0 < a → 0 < b) → (0 < b → 0 < a) → a ≡ b
      same_bit zero zero h k f g = refl
      same_bit zero (suc b) h k f g = let x = g (omega arith) in absurd (omega arith)
      same_bit (suc a) zero h k f g = let x = f (omega arith) in absurd (omega arith)
      same_bit (suc a) (suc b) h k f g = omega arith

      -- the twin of a side has the reversed edge
      turned : (u v : ℕ) → 0 < times m m.live u v → 0 < times m m.live v u
      turned u v h =
          let x = side_of m u v m.live h in let t = w x.f x.there x.s in
          side_counts m v u m.live (m.over x.f x.s) (m.back x.f x.s) t.live (t.start_is ∙ x.end_is) (t.end_is ∙ x.start_is)

-- ---- volumes
module _ (at : ℕ → Vector) (m : Surface) (s t u v : ℕ) where
  -- the four volumes of a facet add up to its height above the middle
  four_volumes : (f : ℕ) → let volume : ℕ → ℤ = λ l. vol (at (m.i f)) (at (m.j f)) (at (m.k f)) (at l) in
      rise m (weighted_at at) f (middle_at at s t u v) ≡ volume s +ℤ volume t +ℤ volume u +ℤ volume v
  four_volumes = search (rules, above-together, rise_is_vol)

  -- a facet that the middle is strictly below is a triangle
  pub inner_area : (f : ℕ) → rise m (weighted_at at) f (middle_at at s t u v) <ℤ pos 0 → ¬ (AreInLine (at (m.i f)) (at (m.j f)) (at (m.k f)))
  inner_area = grind (arith, four_volumes, in_line-vol)

  -- the sum of the signed volumes with the four
  abbrev volumes : List ℕ → ℤ
  volumes fs = let volume : ℕ → ℤ = λ l. signed_volume at (triples_from m fs) (at l) in volume s +ℤ volume t +ℤ volume u +ℤ volume v

  -- one more facet
  volumes_more : IsInner m (weighted_at at) (middle_at at s t u v) → (f : ℕ) (fs : List ℕ) → In f m.live → volumes fs ≤ℤ pos 0 → volumes (f ∷ fs) <ℤ pos 0
  volumes_more z f fs i low = omega (arith, ints, four_volumes f, z f i, low)

  -- so the sum is not above 0
  volumes_below : IsInner m (weighted_at at) (middle_at at s t u v) → (fs : List ℕ) → ((f : ℕ) → In f fs → In f m.live) → volumes fs ≤ℤ pos 0
  volumes_below z [] sub = omega (arith, ints)
  volumes_below z (f ∷ fs) sub = less_le _ _ (volumes_more z f fs (sub f (inl refl)) (volumes_below z fs (λ g i. sub g (inr i))))

  -- the sum is below 0 if there is a facet
  volumes_negative : IsInner m (weighted_at at) (middle_at at s t u v) → (f0 : ℕ) (fs : List ℕ) → In f0 fs
      → ((f : ℕ) → In f fs → In f m.live) → volumes fs <ℤ pos 0
  volumes_negative z f0 [] i sub = absurd i
  volumes_negative z f0 (f ∷ fs) i sub = volumes_more z f fs (sub f (inl refl)) (volumes_below z fs (λ g i. sub g (inr i)))

-- ---- the laws
-- a fact about the triple of each facet holds for each triple
pub of_facets : (m : Surface) (P : Triple → Type 0) (fs : List ℕ) → ((f : ℕ) → In f fs → P (record { i = m.i f; j = m.j f; k = m.k f }))
    → (t : Triple) → In t (triples_from m fs) → P t
of_facets m P [] h = λ t i. absurd i
of_facets m P (f ∷ fs) h = each_more P (record { i = m.i f; j = m.j f; k = m.k f }) (triples_from m fs) (h f (inl refl)) (of_facets m P fs (λ g i. h g (inr i)))

-- a list with a member is not empty
some_triples : (m : Surface) (fs : List ℕ) (f : ℕ) → In f fs → 1 ≤ length (triples_from m fs)
some_triples m [] f i = absurd i
some_triples m (g ∷ fs) f i = omega arith

-- proof of the law `SoundIsClosed`
pub sound_is_closed : SoundIsClosed
sound_is_closed at m s t u v f0 i once w z = record {
  some = some_triples m m.live f0 i;
  area = of_facets m (λ x. ¬ (AreInLine (at x.i) (at x.j) (at x.k))) m.live (λ f live. inner_area at m s t u v f (z.inner f live));
  closed = closed m (weighted_at at) (middle_at at s t u v) z w once;
}

-- proof of the law `SoundHasVolume`
pub sound_has_volume : SoundHasVolume
sound_has_volume at m s t u v f0 i once w z p =
    let a = same s in let b = same t in let c = same u in let d = same v in
    let low = volumes_negative at m s t u v z.inner f0 m.live i (λ f k. k) in omega (arith, ints, a, b, c, d, low)
  where
    same : (l : ℕ) → signed_volume at (triples_of m) (at l) ≡ signed_volume at (triples_of m) p
    same l = volume_is_constant at (triples_of m) (sound_is_closed at m s t u v f0 i once w z) (at l) p

-- triangles that p is not strictly below have no volume below 0
pub seen_volume : (at : ℕ → Vector) (p : Vector) (ts : List Triple) → ((t : Triple) → In t ts → pos 0 ≤ℤ vol (at t.i) (at t.j) (at t.k) p)
    → pos 0 ≤ℤ signed_volume at ts p
seen_volume at p [] h = omega (arith, ints)
seen_volume at p (t ∷ ts) h = let a = h t (inl refl) in let b = seen_volume at p ts (λ u i. h u (inr i)) in omega (arith, ints)
