-- Hulls of mapped points.
use Rattle.qh_lattice.proofs.Images.{positive_nonzero, moved_volume_sign, moved_line, moved_turn, extreme_moved}
use Rattle.qh_lattice.specs.contract.LatticeMaps.{Matrix, determinant, moved}
use Rattle.qh_lattice.specs.laws.MapLaws.{SameSign, at_moved, MovedDimension, MovedFaces, MovedBody}
use Rattle.qh_model.proofs.Common.{◌≡◌, ◌≢◌, ℕ, inl, inr, List, refl, subst, sym, ℤ, pos, ◌<ℤ◌, ◌↔◌, Combination, HasTetrahedron, HasTriangle, IsDimension}
use Rattle.qh_model.proofs.Common.{Extreme, Others, BodyValue, IsBody, IsFacePolygon, AreFaces, IsSegmentFace, ArePolygons, Members, IsSupportingTriple, cross}
use Rattle.qh_model.proofs.{Common.vol, Common.AreInLine, Common.Vector, Common.origin, algebra.Signs.at_most_zero, algebra.Signs.not_less}
use Rattle.qh_model.{proofs.combinations.OtherNames.combination_by_names, proofs.polygons.Neighbours.follows_members, specs.headline.Predicates.left}

-- the properties on which a hull depends are the same if the members have other points
pub record Keeps (at up : ℕ → Vector) (A : ℕ → Type 0) : Type 0 where
  pub volume : (i j k l : ℕ) → A i → A j → A k → A l → SameSign (vol (at i) (at j) (at k) (at l)) (vol (up i) (up j) (up k) (up l))
  pub line : (i j k : ℕ) → A i → A j → A k → AreInLine (up i) (up j) (up k) ↔ AreInLine (at i) (at j) (at k)
  pub turn : (i j k u v w : ℕ) → A i → A j → A k → A u → A v → A w
      → vol (at i) (at j) (at k) (at u) ≡ pos 0 → vol (at i) (at j) (at k) (at v) ≡ pos 0 → vol (at i) (at j) (at k) (at w) ≡ pos 0
      → SameSign (left (cross (at i) (at j) (at k)) (at u) (at v) (at w)) (left (cross (up i) (up j) (up k)) (up u) (up v) (up w))
  pub extreme : (l : ℕ) → Extreme up A l ↔ Extreme at A l

-- having the same sign is symmetric
same_back : (a b : ℤ) → SameSign a b → SameSign b a
same_back a b s = record { above = (s.above.1, s.above.0); level = (s.level.1, s.level.0); below = (s.below.1, s.below.0) }

-- `Keeps` is symmetric
pub back : (at up : ℕ → Vector) (A : ℕ → Type 0) → Keeps at up A → Keeps up at A
back at up A h = record {
  volume = λ i j k l a b c d. same_back (vol (at i) (at j) (at k) (at l)) (vol (up i) (up j) (up k) (up l)) (h.volume i j k l a b c d);
  line = λ i j k a b c. ((h.line i j k a b c).1, (h.line i j k a b c).0);
  turn = λ i j k u v w a b c d e f p q r.
      same_back (left (cross (at i) (at j) (at k)) (at u) (at v) (at w)) (left (cross (up i) (up j) (up k)) (up u) (up v) (up w))
      (h.turn i j k u v w a b c d e f ((h.volume i j k u a b c d).level.1 p) ((h.volume i j k v a b c e).level.1 q) ((h.volume i j k w a b c f).level.1 r));
  extreme = λ l. ((h.extreme l).1, (h.extreme l).0);
}

-- ---- the dimension
-- four points that are not in one plane
tetrahedron : (at up : ℕ → Vector) (A : ℕ → Type 0) → Keeps at up A → HasTetrahedron at A → HasTetrahedron up A
tetrahedron at up A h t = record {
  i = t.i;
  j = t.j;
  k = t.k;
  l = t.l;
  has_i = t.has_i;
  has_j = t.has_j;
  has_k = t.has_k;
  has_l = t.has_l;
  volume = λ e. t.volume ((h.volume t.i t.j t.k t.l t.has_i t.has_j t.has_k t.has_l).level.1 e);
}

-- three that are not in line
triangle : (at up : ℕ → Vector) (A : ℕ → Type 0) → Keeps at up A → HasTriangle at A → HasTriangle up A
triangle at up A h t = record {
  i = t.i;
  j = t.j;
  k = t.k;
  has_i = t.has_i;
  has_j = t.has_j;
  has_k = t.has_k;
  area = λ e. t.area ((h.line t.i t.j t.k t.has_i t.has_j t.has_k).0 e);
}

-- the dimension is the same
pub dimension : (at up : ℕ → Vector) (A : ℕ → Type 0) → Keeps at up A → (k : ℕ) → IsDimension at A k → IsDimension up A k
dimension at up A h k (inl (e, t)) = inl (e, tetrahedron at up A h t)
dimension at up A h k (inr (inl (e, t, n))) = inr (inl (e, triangle at up A h t, λ q. n (tetrahedron up at A (back at up A h) q)))
dimension at up A h k (inr (inr (inl (e, t, n)))) = inr (inr (inl (e, t, λ q. n (triangle up at A (back at up A h) q))))
dimension at up A h k (inr (inr (inr p))) = inr (inr (inr p))

-- ---- faces
-- a supporting triple
pub triple : (at up : ℕ → Vector) (A : ℕ → Type 0) → Keeps at up A → (i j k : ℕ) → IsSupportingTriple at A i j k → IsSupportingTriple up A i j k
triple at up A h i j k t = record {
  has_i = t.has_i;
  has_j = t.has_j;
  has_k = t.has_k;
  area = λ e. t.area ((h.line i j k t.has_i t.has_j t.has_k).0 e);
  supports = λ l a. at_most_zero (vol (up i) (up j) (up k) (up l))
      (λ p. not_less (pos 0) (vol (at i) (at j) (at k) (at l)) ((h.volume i j k l t.has_i t.has_j t.has_k a).above.1 p) (t.supports l a));
}

-- the polygon of this triple
pub face : (at up : ℕ → Vector) (A : ℕ → Type 0) → Keeps at up A → (i j k : ℕ) → A i → A j → A k → (q : List ℕ)
    → IsFacePolygon at A i j k q → IsFacePolygon up A i j k q
face at up A h i j k a b c q p = record {
  members = λ l. (
    λ n. let o = (p.members l).0 n in ((h.extreme l).1 o.0, (h.volume i j k l a b c o.0.0).level.0 o.1),
    λ o. (p.members l).1 ((h.extreme l).0 o.0, (h.volume i j k l a b c o.0.0).level.1 o.1),
  );
  once = p.once;
  round = λ u v f w n d e. let g = follows_members u v q f in let mu = (p.members u).0 g.0 in let mv = (p.members v).0 g.1 in let mw = (p.members w).0 n in
      (h.turn i j k u v w a b c mu.0.0 mv.0.0 mw.0.0 mu.1 mv.1 mw.1).above.0 (p.round u v f w n d e);
  least = p.least;
}

-- all faces
faces : (at up : ℕ → Vector) (A : ℕ → Type 0) → Keeps at up A → (qs : List (List ℕ)) → AreFaces at A qs → AreFaces up A qs
faces at up A h qs f = record {
  rising = f.rising;
  each = λ i j k t. let r = f.each i j k (triple up at A (back at up A h) i j k t) in (r.0, r.1, face at up A h i j k t.has_i t.has_j t.has_k r.0 r.2);
  only = λ q n. let r = f.only q n in let t = r.3 in
      (r.0, r.1, r.2, triple at up A h r.0 r.1 r.2 t, face at up A h r.0 r.1 r.2 t.has_i t.has_j t.has_k q r.4);
}

-- the two ends of a segment
segment : (at up : ℕ → Vector) (A : ℕ → Type 0) → Keeps at up A → (q : List ℕ) → IsSegmentFace at A q → IsSegmentFace up A q
segment at up A h q s = record {
  i = s.i;
  j = s.j;
  members = λ l. (λ m. (h.extreme l).1 ((s.members l).0 m), λ x. (s.members l).1 ((h.extreme l).0 x));
  lower = s.lower;
  is = s.is;
}

-- the polygons, except those of a flat set
polygons : (at up : ℕ → Vector) (A : ℕ → Type 0) → Keeps at up A → (k : ℕ) (qs : List (List ℕ)) → k ≢ 2 → ArePolygons at A k qs → ArePolygons up A k qs
polygons at up A h k qs n (inl (e, f)) = inl (e, faces at up A h qs f)
polygons at up A h k qs n (inr (inl (e, p))) = absurd (n e)
polygons at up A h k qs n (inr (inr (inl (e, (q, s, w))))) = inr (inr (inl (e, (q, segment at up A h q s, w))))
polygons at up A h k qs n (inr (inr (inr p))) = inr (inr (inr p))

-- the hull
pub body : (at up : ℕ → Vector) (A : ℕ → Type 0) → Keeps at up A → (b : BodyValue) → b.dim ≢ 2 → IsBody at A b → IsBody up A b
body at up A h b n d = record {
  dim = dimension at up A h b.dim d.dim;
  extremes = record {
    rising = d.extremes.rising;
    members = λ l. (λ m. (h.extreme l).1 ((d.extremes.members l).0 m), λ x. (d.extremes.members l).1 ((h.extreme l).0 x));
  };
  polygons = polygons at up A h b.dim b.polygons n d.polygons;
  edges = d.edges;
}

-- ---- images
-- the facts above hold for images
pub keeps : (m : Matrix) → pos 0 <ℤ determinant m → (s : Vector) (at up : ℕ → Vector) (A : ℕ → Type 0) → ((i : ℕ) → A i → up i ≡ moved m s (at i))
    → Keeps at up A
keeps m h s at up A same = let n = positive_nonzero (determinant m) h in record {
  volume = λ i j k l a b c d. subst (λ v. SameSign (vol (at i) (at j) (at k) (at l)) v)
      (λ t. vol (sym (same i a) t) (sym (same j b) t) (sym (same k c) t) (sym (same l d) t)) (moved_volume_sign m h s (at i) (at j) (at k) (at l));
  line = λ i j k a b c. subst (λ v. (v ≡ origin) ↔ AreInLine (at i) (at j) (at k)) (λ t. cross (sym (same i a) t) (sym (same j b) t) (sym (same k c) t))
      (moved_line m n s (at i) (at j) (at k));
  turn = λ i j k u v w a b c d e f p q r. subst (λ z. SameSign (left (cross (at i) (at j) (at k)) (at u) (at v) (at w)) z)
      (λ t. left (cross (sym (same i a) t) (sym (same j b) t) (sym (same k c) t)) (sym (same u d) t) (sym (same v e) t) (sym (same w f) t))
      (moved_turn m n s (at i) (at j) (at k) (at u) (at v) (at w) p q r);
  extreme = λ l. (
    λ x. (extreme_moved m n s at A l).0 (named up (at_moved m s at) same l x),
    λ x. named (at_moved m s at) up (λ i a. sym (same i a)) l ((extreme_moved m n s at A l).1 x),
  );
}
  where
    -- members with the same points have the same extreme ids
    named : (one two : ℕ → Vector) → ((i : ℕ) → A i → one i ≡ two i) → (l : ℕ) → Extreme one A l → Extreme two A l
    named one two e l x = (
      x.0,
      λ c. x.1 (subst (λ p. Combination one (Others A l) p) (sym (e l x.0))
          (combination_by_names two one (Others A l) (Others A l) (λ i. i) (λ j o. o) (λ j o. e j o.0) (two l) c)),
    )

-- the facts above for the images of all ids
keeps_moved : (m : Matrix) → pos 0 <ℤ determinant m → (s : Vector) (at : ℕ → Vector) (A : ℕ → Type 0) → Keeps at (at_moved m s at) A
keeps_moved m h s at A = keeps m h s at (at_moved m s at) A (λ i a. refl)

-- ---- the laws
-- the law of dimensions
pub moved_dimension : MovedDimension
moved_dimension m h s at ids k = let up = at_moved m s at in let A = Members ids in let r = keeps_moved m h s at A in
    (dimension up at A (back at up A r) k, dimension at up A r k)

-- the law of faces
pub moved_faces : MovedFaces
moved_faces m h s at ids qs = let up = at_moved m s at in let A = Members ids in let r = keeps_moved m h s at A in
    (faces up at A (back at up A r) qs, faces at up A r qs)

-- the law of hulls
pub moved_body : MovedBody
moved_body m h s at ids b n = let up = at_moved m s at in let A = Members ids in let r = keeps_moved m h s at A in
    (body up at A (back at up A r) b n, body at up A r b n)
