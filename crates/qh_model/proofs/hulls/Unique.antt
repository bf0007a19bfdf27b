-- Each part of a hull is unique: distinct ids, polygons, and the number of edges.
use Rattle.qh_model.proofs.Common.{AreFaces, ArePolygons, BodyValue, Extreme, HasSegment, HasTetrahedron, HullValue, In, IsAlong, IsBody, IsDimension}
use Rattle.qh_model.proofs.Common.{IsEdgeCount, IsFlatFace, IsSegmentFace, List, Members, OnPlane, PointsForward, Vector, [], ap, arith, cross, dite, hull_text}
use Rattle.qh_model.proofs.Common.{inl, inr, length, place, refl, subst, sym, ℕ, ℕ_discrete, ◌<◌, ◌↔◌, ◌∙◌, ◌∷◌, ◌≡◌, ◌⊎◌}
use Rattle.qh_model.proofs.{extremes.Dimensions.one_dimension, extremes.Directions.cross-flip, hulls.FlatSets.flat_normals, hulls.FlatSets.forward_along}
use Rattle.qh_model.proofs.{hulls.FlatSets.forward_not_zero, hulls.FlatSets.one_forward, lists.Lexicographic.rising_unique, lists.OnceEach.once_length}
use Rattle.qh_model.proofs.{lists.Ordered.ordered_rising, lists.Ordered.ordered_unique, polygons.Direction.polygon_as, polygons.Unique.one_polygon}
use Rattle.qh_model.specs.{headline.Polygons.IsPointFace, laws.HullLaws.BodyIsUnique}
use Rattle.qh_model.specs.laws.HullLaws.{DistinctIdsAreUnique, EdgeCountIsUnique, HullIsUnique, PolygonsAreUnique, RisingListIsUnique, TextIsUnique}

-- proof of the law `RisingListIsUnique`
pub rising_list_is_unique : RisingListIsUnique
rising_list_is_unique xs ys f g h = ordered_unique (λ i j. i < j) (λ i j p q. omega arith) xs ys (ordered_rising xs f) (ordered_rising ys g) h

-- proof of the law `DistinctIdsAreUnique`
pub distinct_ids_are_unique : DistinctIdsAreUnique
distinct_ids_are_unique = grind (arith, rising_list_is_unique)

-- proof of the law `EdgeCountIsUnique`
pub edge_count_is_unique : EdgeCountIsUnique
edge_count_is_unique qs m n a b = sym a.count ∙ once_length a.list b.list a.once b.once same ∙ b.count
  where
    same : (e : ℕ × ℕ) → In e a.list ↔ In e b.list
    same (u, v) = (λ i. (b.all u v).1 ((a.all u v).0 i), λ i. (a.all u v).1 ((b.all u v).0 i))

-- ---- polygons, by dimension
-- dimension 3: at most one list of polygons
one_face_list : (at : ℕ → Vector) (A : ℕ → Type 0) (ps qs : List (List ℕ)) → AreFaces at A ps → AreFaces at A qs → ps ≡ qs
one_face_list at A ps qs a b = rising_unique ps qs a.rising b.rising (λ q. (over ps qs a b q, over qs ps b a q))
  where
    over : (ps qs : List (List ℕ)) → AreFaces at A ps → AreFaces at A qs → (q : List ℕ) → In q ps → In q qs
    over ps qs a b q i =
        let (u, v, w, t, p) = a.only q i in let r = b.each u v w t in
        subst (λ s. In s qs) (one_polygon at (OnPlane at (Extreme at A) u v w) (cross (at u) (at v) (at w)) r.0 q r.2 p) r.1

-- dimension 2: at most one polygon
one_flat_face : (at : ℕ → Vector) (A : ℕ → Type 0) → ¬ (HasTetrahedron at A) → (p q : List ℕ) → IsFlatFace at A p → IsFlatFace at A q → p ≡ q
one_flat_face at A n p q a b =
    by_cases (flat_normals at A n a.i a.j a.k b.i b.j b.k a.has_i a.has_j a.has_k b.has_i b.has_j b.has_k
    (forward_not_zero _ a.forward) (forward_not_zero _ b.forward))
  where
    by_cases : IsAlong (cross (at a.i) (at a.j) (at a.k)) (cross (at b.i) (at b.j) (at b.k))
        ⊎ IsAlong (cross (at a.i) (at a.j) (at a.k)) (cross (at b.i) (at b.k) (at b.j)) → p ≡ q
    by_cases (inl h) = one_polygon at (Extreme at A) (cross (at b.i) (at b.j) (at b.k)) p q
        (polygon_as at (Extreme at A) (Extreme at A) (cross (at a.i) (at a.j) (at a.k))
        (cross (at b.i) (at b.j) (at b.k)) p (λ i. (λ e. e, λ e. e)) h a.polygon) b.polygon
    by_cases (inr h) = absurd
        (one_forward (cross (at b.i) (at b.j) (at b.k)) b.forward (subst PointsForward (cross-flip (at b.i) (at b.j) (at b.k)) (forward_along _ _ h a.forward)))

-- dimension 1: at most one pair
one_segment_face : (at : ℕ → Vector) (A : ℕ → Type 0) (p q : List ℕ) → IsSegmentFace at A p → IsSegmentFace at A q → p ≡ q
one_segment_face at A p q a b = a.is ∙ (λ t. ends.0 t ∷ ends.1 t ∷ []) ∙ sym b.is
  where
    in_b : (l : ℕ) → (l ≡ a.i) ⊎ (l ≡ a.j) → (l ≡ b.i) ⊎ (l ≡ b.j)
    in_b l h = (b.members l).1 ((a.members l).0 h)

    ordered : (i j k l : ℕ) → i < j → k < l → (i ≡ k) ⊎ (i ≡ l) → (j ≡ k) ⊎ (j ≡ l) → (i ≡ k) × (j ≡ l)
    ordered i j k l h m (inl e) (inl f) = absurd (omega arith)
    ordered i j k l h m (inl e) (inr f) = (e, f)
    ordered i j k l h m (inr e) (inl f) = absurd (omega arith)
    ordered i j k l h m (inr e) (inr f) = absurd (omega arith)

    ends : (a.i ≡ b.i) × (a.j ≡ b.j)
    ends = ordered a.i a.j b.i b.j a.lower b.lower (in_b a.i (inl refl)) (in_b a.j (inr refl))

-- dimension 0: at most one id
one_point_face : (A : ℕ → Type 0) → ¬ (HasSegment A) → (p q : List ℕ) → IsPointFace A p → IsPointFace A q → p ≡ q
one_point_face A n p q a b =
    let same : a.i ≡ b.i = dite (ℕ_discrete a.i b.i) (λ e. e) (λ d. absurd (n (record { i = a.i; j = b.i; has_i = a.has_i; has_j = b.has_i; differ = d }))) in
    a.is ∙ ap (λ i. i ∷ []) same ∙ sym b.is

-- a list of one polygon is determined by it
one_of_one : (F : List ℕ → Type 0) → ((p q : List ℕ) → F p → F q → p ≡ q) → (ps qs : List (List ℕ))
    → (p : List ℕ) × F p × (ps ≡ p ∷ []) → (q : List ℕ) × F q × (qs ≡ q ∷ []) → ps ≡ qs
one_of_one F u ps qs (p, a, e) (q, b, f) = e ∙ ap (λ r. r ∷ []) (u p q a b) ∙ sym f

-- a set of dimension 2 has no tetrahedron
pub flat_of : (at : ℕ → Vector) (A : ℕ → Type 0) (k : ℕ) → k ≡ 2 → IsDimension at A k → ¬ (HasTetrahedron at A)
flat_of = grind arith

-- a set of dimension 0 has no two members
pub alone_of : (at : ℕ → Vector) (A : ℕ → Type 0) (k : ℕ) → k ≡ 0 → IsDimension at A k → ¬ (HasSegment A)
alone_of = grind arith

-- the cases of two lists of polygons of one dimension
pub one_polygon_list : (at : ℕ → Vector) (A : ℕ → Type 0) (k : ℕ) (ps qs : List (List ℕ)) → IsDimension at A k
    → ArePolygons at A k ps → ArePolygons at A k qs → ps ≡ qs
one_polygon_list at A k ps qs d (inl (e, a)) (inl (f, b)) = one_face_list at A ps qs a b
one_polygon_list at A k ps qs d (inr (inl (e, a))) (inr (inl (f, b))) = one_of_one (IsFlatFace at A) (one_flat_face at A (flat_of at A k e d)) ps qs a b
one_polygon_list at A k ps qs d (inr (inr (inl (e, a)))) (inr (inr (inl (f, b)))) = one_of_one (IsSegmentFace at A) (one_segment_face at A) ps qs a b
one_polygon_list at A k ps qs d (inr (inr (inr (e, a)))) (inr (inr (inr (f, b)))) =
    one_of_one (IsPointFace A) (one_point_face A (alone_of at A k e d)) ps qs a b
one_polygon_list at A k ps qs d (inl (e, a)) (inr (inl (f, b))) = absurd (omega arith)
one_polygon_list at A k ps qs d (inl (e, a)) (inr (inr (inl (f, b)))) = absurd (omega arith)
one_polygon_list at A k ps qs d (inl (e, a)) (inr (inr (inr (f, b)))) = absurd (omega arith)
one_polygon_list at A k ps qs d (inr (inl (e, a))) (inl (f, b)) = absurd (omega arith)
one_polygon_list at A k ps qs d (inr (inl (e, a))) (inr (inr (inl (f, b)))) = absurd (omega arith)
one_polygon_list at A k ps qs d (inr (inl (e, a))) (inr (inr (inr (f, b)))) = absurd (omega arith)
one_polygon_list at A k ps qs d (inr (inr (inl (e, a)))) (inl (f, b)) = absurd (omega arith)
one_polygon_list at A k ps qs d (inr (inr (inl (e, a)))) (inr (inl (f, b))) = absurd (omega arith)
one_polygon_list at A k ps qs d (inr (inr (inl (e, a)))) (inr (inr (inr (f, b)))) = absurd (omega arith)
one_polygon_list at A k ps qs d (inr (inr (inr (e, a)))) (inl (f, b)) = absurd (omega arith)
one_polygon_list at A k ps qs d (inr (inr (inr (e, a)))) (inr (inl (f, b))) = absurd (omega arith)
one_polygon_list at A k ps qs d (inr (inr (inr (e, a)))) (inr (inr (inl (f, b)))) = absurd (omega arith)

-- proof of the law `PolygonsAreUnique`
pub polygons_are_unique : PolygonsAreUnique
polygons_are_unique at ids k ps qs d a b = one_polygon_list at (Members ids) k ps qs d a b

-- ---- whole bodies, hulls and texts
-- a set has at most one body
pub one_body : (at : ℕ → Vector) (A : ℕ → Type 0) (a b : BodyValue) → IsBody at A a → IsBody at A b → a ≡ b
one_body at A a b f g =
    body_path a b dims extremes polygons (edge_count_is_unique a.polygons a.edges b.edges f.edges (subst (λ qs. IsEdgeCount qs b.edges) (sym polygons) g.edges))
  where
    body_path : (a b : BodyValue) → a.dim ≡ b.dim → a.extremes ≡ b.extremes → a.polygons ≡ b.polygons → a.edges ≡ b.edges → a ≡ b
    body_path a b d e p n = λ i. record { dim = d i; extremes = e i; polygons = p i; edges = n i }

    dims : a.dim ≡ b.dim
    dims = one_dimension at A a.dim b.dim f.dim g.dim

    extremes : a.extremes ≡ b.extremes
    extremes = rising_list_is_unique a.extremes b.extremes f.extremes.rising g.extremes.rising
        (λ i. (λ h. (g.extremes.members i).1 ((f.extremes.members i).0 h), λ h. (f.extremes.members i).1 ((g.extremes.members i).0 h)))

    polygons : a.polygons ≡ b.polygons
    polygons = one_polygon_list at A a.dim a.polygons b.polygons f.dim f.polygons (subst (λ k. ArePolygons at A k b.polygons) (sym dims) g.polygons)

-- proof of the law `BodyIsUnique`
pub body_is_unique : BodyIsUnique
body_is_unique at ids a b f g = one_body at (Members ids) a b f g

-- proof of the law `HullIsUnique`
pub hull_is_unique : HullIsUnique
hull_is_unique pts a b f g =
    hull_path a b (f.given ∙ sym g.given) (f.distinct ∙ ap length ids ∙ sym g.distinct) (one_body (place pts) (Members f.ids) a.body b.body f.body
    (subst (λ l. IsBody (place pts) (Members l) b.body) (sym ids) g.body))
  where
    hull_path : (a b : HullValue) → a.given ≡ b.given → a.distinct ≡ b.distinct → a.body ≡ b.body → a ≡ b
    hull_path a b e f g = λ i. record { given = e i; distinct = f i; body = g i }

    ids : f.ids ≡ g.ids
    ids = distinct_ids_are_unique pts f.ids g.ids f.distinct_ids g.distinct_ids

-- proof of the law `TextIsUnique`
pub text_is_unique : TextIsUnique
text_is_unique pts outs s t f g = f.is ∙ ap (λ h. hull_text h pts outs) (hull_is_unique pts f.hull g.hull f.right g.right) ∙ sym g.is
