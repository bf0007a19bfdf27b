-- Fans of triangles: the corners of their triangles are those of the polygons, and the triangles support the set.
use Rattle.qh_model.proofs.Common.{ℕ, ◌≡◌, List, [], ◌∷◌, All, inl, inr, refl, sym, subst, ⊎_elim, pos, ◌<ℤ◌, ◌≤ℤ◌, face_triangles, HasDistinctPoints, arith}
use Rattle.qh_model.proofs.Common.{triangles_along, fan, FollowsAlong, IsFacePolygon, cross, vol, In, Members, IsSupportingTriple, Vector, dot}
use Rattle.qh_model.specs.{headline.Predicates.left, laws.FanLaws.CornersSupport, laws.FanLaws.FansSupport, laws.FanLaws.IsSupportingTriangle}
use Rattle.qh_model.proofs.{Members.All-In, Members.All-of, Members.each_of_three, algebra.Signs.less_differ, extremes.SpanningTriples.planes_of_extremes}
use Rattle.qh_model.proofs.{algebra.Order.cancel-nonpos, algebra.Order.mul-nonneg_nonpos, algebra.Order.positive_le, extremes.Directions.square-positive}
use Rattle.qh_model.proofs.algebra.VectorIdentities.{vol-first, in_line-left, left-turn}
use Rattle.qh_model.proofs.{lists.Joined.of_flat_map, polygons.LeftOfEdge.third, polygons.Neighbours.follows_members, polygons.PlaneTurns.level_volume}

-- proof of the law `CornersSupport`
pub corners_support : CornersSupport
corners_support at ids i j k q t p u v w f m wu wv =
    let n = cross (at i) (at j) (at k) in
    let in_u = (p.members u).0 (follows_members u v q f).0 in
    let in_v = (p.members v).0 (follows_members u v q f).1 in
    let in_w = (p.members w).0 m in
    let turn : pos 0 <ℤ left n (at w) (at u) (at v) = subst (λ x. pos 0 <ℤ x) (sym (left-turn n (at w) (at u) (at v))) (p.round u v f w m wu wv) in
    record {
      has_i = in_w.0.0;
      has_j = in_u.0.0;
      has_k = in_v.0.0;
      area = λ e. less_differ (pos 0) (left n (at w) (at u) (at v)) turn (sym (in_line-left n (at w) (at u) (at v) e));
      supports = λ l a. cancel-nonpos (dot n n) (vol (at w) (at u) (at v) (at l)) (square-positive n t.area)
          (subst (λ x. x ≤ℤ pos 0) (sym (level_volume (at i) (at j) (at k) (at w) (at u) (at v) (at l) in_w.1 in_u.1 in_v.1))
          (mul-nonneg_nonpos (left n (at w) (at u) (at v)) (vol (at i) (at j) (at k) (at l)) (positive_le _ turn) (t.supports l a)));
    }

-- ---- the triangles of a fan
-- a triangle has the first corner and two neighbours on the path from u along the list
record IsTriangleAlong (first u : ℕ) (r t : List ℕ) : Type 0 where
  v : ℕ
  w : ℕ
  is : t ≡ first ∷ v ∷ w ∷ []
  has_v : In v (u ∷ r)
  has_w : In w r
  follows : (e : ℕ) → FollowsAlong v w u r e

-- each triangle of a fan has such corners
triangle_along : (first u : ℕ) (r t : List ℕ) → In t (triangles_along first u r) → IsTriangleAlong first u r t
triangle_along first u [] t m = absurd m
triangle_along first u (x ∷ r) t (inl e) = record { v = u; w = x; is = e; has_v = inl refl; has_w = inl refl; follows = λ e. inl (refl, refl) }
triangle_along first u (x ∷ r) t (inr m) =
    let s = triangle_along first x r t m in
    record { v = s.v; w = s.w; is = s.is; has_v = inr s.has_v; has_w = inr s.has_w; follows = λ e. inr (s.follows e) }

-- the triangles of a face have no other ids than the face
pub triangle_members : (q t : List ℕ) → In t (face_triangles q) → (i : ℕ) → In i t → In i q
triangle_members = grind (arith, triangle_along, each_of_three)

-- a fact about the ids of a face holds for those of its triangles
pub triangles_all : (P : ℕ → Type 0) (q : List ℕ) → All P q → All (All P) (face_triangles q)
triangles_all P q all =
    All-of (All P) (face_triangles q) (λ t m. All-of P t (λ i h. All-In P q i all (triangle_members q t m i h)))

-- the members of a fan have no other ids than the polygon
pub fan_members : (q t : List ℕ) → In t (fan q) → (i : ℕ) → In i t → In i q
fan_members = grind (arith, triangle_members)

-- ---- the fans of faces
module _ (at : ℕ → Vector) (ids : List ℕ) (d : HasDistinctPoints at (Members ids)) (i j k : ℕ) (triple : IsSupportingTriple at (Members ids) i j k) where
  -- a face has at least three corners, so its fan consists of triangles
  pub face_fan : (q t : List ℕ) → IsFacePolygon at (Members ids) i j k q → In t (fan q) → IsSupportingTriangle at (Members ids) t
  face_fan [] t p m =
      let s = planes_of_extremes at ids d i j k triple in
      absurd ((p.members s.u).1 (s.has_u, (s.same s.u).1 (vol-first (at s.u) (at s.v) (at s.w))))
  face_fan (a ∷ []) t p m =
      let x = third at ids d i j k (a ∷ []) a a (record { triple = triple; face = p; follows = (refl, refl) }) in
      absurd (⊎_elim x.not_u (λ n. n) ((p.members x.w).1 x.member))
  face_fan (a ∷ b ∷ []) t p m =
      let x = third at ids d i j k (a ∷ b ∷ []) a b (record { triple = triple; face = p; follows = inl (refl, refl) }) in
      absurd (⊎_elim x.not_u (λ i. ⊎_elim x.not_v (λ n. n) i) ((p.members x.w).1 x.member))
  face_fan (a ∷ b ∷ c ∷ r) t p m = let s = triangle_along a b (c ∷ r) t m in (
    a,
    s.v,
    s.w,
    s.is,
    corners_support at ids i j k (a ∷ b ∷ c ∷ r) triple p s.v s.w a (inr (s.follows a)) (inl refl)
        (λ e. p.once.0 (subst (λ x. In x (b ∷ c ∷ r)) (sym e) s.has_v)) (λ e. p.once.0 (inr (subst (λ x. In x (c ∷ r)) (sym e) s.has_w))),
  )

-- proof of the law `FansSupport`
pub fans_support : FansSupport
fans_support at ids qs d f t m =
    let r = of_flat_map fan qs t m in let p = f.only r.0 r.1 in face_fan at ids d p.0 p.1 p.2 p.3 r.0 t p.4 r.2
