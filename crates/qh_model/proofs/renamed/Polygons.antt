-- The polygons of a set that is renamed in its order.
use Rattle.std.proofs.Common.{◌↔◌, ◌≡◌, ℕ, ◌⊎◌, List, map, refl, sym, ap, subst, ◌∙◌, inl, inr, ⊎_elim, arith}
use Rattle.std.specs.Prelude.{pos, ◌<ℤ◌}
use Rattle.qh_model.specs.headline.{Extreme.Extreme, Polygon.Follows, Polygon.TurnsLeft, Polygon.IsPolygon}
use Rattle.qh_model.specs.headline.Polygons.{IsFacePolygon, AreFaces, PointsForward, IsFlatFace, IsSegmentFace, ArePolygons}
use Rattle.qh_model.specs.headline.{Predicates.vol, Predicates.left, Sets.In, SupportingPlane.IsSupportingTriple, SupportingPlane.OnPlane, Vector.Vector}
use Rattle.qh_model.proofs.{lists.Images.in_map, lists.Images.of_map, lists.Images.once_map, polygons.Neighbours.follows_members}
use Rattle.qh_model.proofs.renamed.{Lists.AreWithin, Lists.of_follows_map, Lists.least_map, Lists.rise_map, Renaming.IsRenaming}
use Rattle.qh_model.proofs.renamed.Renaming.{renaming_apart, renaming_back, part_renamed, normal_renamed, volume_renamed, extreme_renamed, extremes_renamed}

module _ {at at' : ℕ → Vector} {A B : ℕ → Type 0} {f g : ℕ → ℕ} (r : IsRenaming at at' A B f g) where
  -- a list has the members of A, and its image has their names
  pub members_renamed : (q : List ℕ) → ((i : ℕ) → In i q ↔ A i) → (k : ℕ) → In k (map f q) ↔ B k
  members_renamed = grind (arith, of_map, in_map)

  -- the polygon of A
  polygon_renamed : (n m : Vector) (q : List ℕ) → n ≡ m → IsPolygon at A n q → IsPolygon at' B m (map f q)
  polygon_renamed n m q same p = record {
    members = members_renamed q p.members;
    once = once_map f q (λ i j a b. renaming_apart r i j (of i a) (of j b)) p.once;
    round = turns;
    least = least_map A f r.rises q of p.least;
  }
    where
      of : (i : ℕ) → In i q → A i
      of i = (p.members i).0

      place : (i k : ℕ) → k ≡ f i → A i → at i ≡ at' k
      place i k e a = sym (ap at' e ∙ r.point i a)

      turns : (u v : ℕ) → Follows u v (map f q) → TurnsLeft at' m (map f q) u v
      turns u v h w i not_u not_v =
          let (a, b, follows, is_a, is_b) = of_follows_map f u v q h in let (c, has, is_c) = of_map f q w i in
          let ends = follows_members a b q follows in
          subst (λ z. pos 0 <ℤ z) (λ z. left (same z) (place a u is_a (of a ends.0) z) (place b v is_b (of b ends.1) z) (place c w is_c (of c has) z))
          (p.round a b follows c has (λ t. not_u (is_c ∙ ap f t ∙ sym is_a)) (λ t. not_v (is_c ∙ ap f t ∙ sym is_b)))

  -- a supporting triple with renamed ids
  triple_renamed : (i j k : ℕ) → IsSupportingTriple at A i j k → IsSupportingTriple at' B (f i) (f j) (f k)
  triple_renamed = grind arith

module _ {at at' : ℕ → Vector} {A B : ℕ → Type 0} {f g : ℕ → ℕ} (r : IsRenaming at at' A B f g) where
  -- ---- dimension 3
  -- the polygon of a supporting triple
  face_renamed : (i j k : ℕ) (q : List ℕ) → A i → A j → A k → IsFacePolygon at A i j k q → IsFacePolygon at' B (f i) (f j) (f k) (map f q)
  face_renamed i j k q a b c = polygon_renamed plane _ _ q (sym (normal_renamed r i j k a b c))
    where
      plane : IsRenaming at at' (OnPlane at (Extreme at A) i j k) (OnPlane at' (Extreme at' B) (f i) (f j) (f k)) f g
      plane =
          part_renamed r (λ l h. h.0.0) (λ l h. h.0.0)
          (λ l h. (extreme_renamed r l h.0, (λ z. vol (r.point i a z) (r.point j b z) (r.point k c z) (r.point l h.0.0 z)) ∙ h.1))
          (λ l h. (extreme_renamed (renaming_back r) l h.0, sym (volume_renamed r i j k l a b c h.0.0) ∙ h.1))

  -- the polygons
  faces_renamed : (qs : List (List ℕ)) → AreWithin A qs → AreFaces at A qs → AreFaces at' B (map (map f) qs)
  faces_renamed qs within h = record {
    rising = rise_map A f r.rises qs within h.rising;
    each = each;
    only = λ p m. let q = of_map (map f) qs p m in let s = h.only q.0 q.1 in let t = s.3 in (
      f s.0,
      f s.1,
      f s.2,
      triple_renamed r s.0 s.1 s.2 t,
      subst (IsFacePolygon at' B (f s.0) (f s.1) (f s.2)) (sym q.2) (face_renamed s.0 s.1 s.2 q.0 t.has_i t.has_j t.has_k s.4),
    );
  }
    where
      each : (i j k : ℕ) → IsSupportingTriple at' B i j k → (q : List ℕ) × In q (map (map f) qs) × IsFacePolygon at' B i j k q
      each i j k t = (map f s.0, in_map (map f) qs s.0 s.1, subst (λ (n : ℕ × ℕ × ℕ). IsFacePolygon at' B n.0 n.1 n.2 (map f s.0)) names polygon)
        where
          s : (q : List ℕ) × In q qs × IsFacePolygon at A (g i) (g j) (g k) q
          s = h.each (g i) (g j) (g k) (triple_renamed (renaming_back r) i j k t)

          names : ◌≡◌ {A = ℕ × ℕ × ℕ} (f (g i), f (g j), f (g k)) (i, j, k)
          names = λ z. (r.under i t.has_i z, r.under j t.has_j z, r.under k t.has_k z)

          polygon : IsFacePolygon at' B (f (g i)) (f (g j)) (f (g k)) (map f s.0)
          polygon = face_renamed (g i) (g j) (g k) s.0 (r.from i t.has_i) (r.from j t.has_j) (r.from k t.has_k) s.2

  -- ---- lower dimensions
  -- the polygon of a flat set
  flat_renamed : (q : List ℕ) → IsFlatFace at A q → IsFlatFace at' B (map f q)
  flat_renamed q h =
      let normal = sym (normal_renamed r h.i h.j h.k h.has_i h.has_j h.has_k) in
      record {
        i = f h.i;
        j = f h.j;
        k = f h.k;
        has_i = r.to h.i h.has_i;
        has_j = r.to h.j h.has_j;
        has_k = r.to h.k h.has_k;
        forward = subst PointsForward normal h.forward;
        polygon = polygon_renamed (extremes_renamed r) _ _ q normal h.polygon;
      }

  -- the two ends of a segment
  segment_face_renamed : (q : List ℕ) → IsSegmentFace at A q → IsSegmentFace at' B (map f q)
  segment_face_renamed q h = record {
    i = f h.i;
    j = f h.j;
    members = λ l. (named l, ends l);
    lower = r.rises h.i h.j ((h.members h.i).0 (inl refl)).0 ((h.members h.j).0 (inr refl)).0 h.lower;
    is = ap (map f) h.is;
  }
    where
      named : (l : ℕ) → (l ≡ f h.i) ⊎ (l ≡ f h.j) → Extreme at' B l
      named l (inl e) = subst (Extreme at' B) (sym e) (extreme_renamed r h.i ((h.members h.i).0 (inl refl)))
      named l (inr e) = subst (Extreme at' B) (sym e) (extreme_renamed r h.j ((h.members h.j).0 (inr refl)))

      ends : (l : ℕ) → Extreme at' B l → (l ≡ f h.i) ⊎ (l ≡ f h.j)
      ends l e = ⊎_elim (λ d. inl (sym (r.under l e.0) ∙ ap f d))
          (λ d. inr (sym (r.under l e.0) ∙ ap f d)) ((h.members (g l)).1 (extreme_renamed (renaming_back r) l e))

  -- the polygons in every dimension
  pub polygons_renamed : (k : ℕ) (qs : List (List ℕ)) → AreWithin A qs → ArePolygons at A k qs → ArePolygons at' B k (map (map f) qs)
  polygons_renamed k qs within (inl (e, h)) = inl (e, faces_renamed qs within h)
  polygons_renamed k qs within (inr (inl (e, (q, h, s)))) = inr (inl (e, (map f q, flat_renamed q h, ap (map (map f)) s)))
  polygons_renamed k qs within (inr (inr (inl (e, (q, h, s))))) = inr (inr (inl (e, (map f q, segment_face_renamed q h, ap (map (map f)) s))))
  polygons_renamed k qs within (inr (inr (inr (e, (q, h, s))))) =
      inr (inr (inr (e, (map f q, record { i = f h.i; has_i = r.to h.i h.has_i; is = ap (map f) h.is }, ap (map (map f)) s))))
