-- The faces of a solid are a surface of its hull, and so are their fans. The polygons of a right body are a surface, too.
use Rattle.qh_check.proofs.FirstCorners.{HasFace, some_corners}
use Rattle.qh_check.specs.contract.{Pieces.BeginsWith, Pieces.IsMetAlong, Pieces.IsPiece, Surfaces.IsFaceSurface, Surfaces.IsHullSurface}
use Rattle.qh_laws_surface.proofs.ConvexLists.{AllTurn, IsTurn, Next, Turn, next_members, next_ordered, polygon_turns, turned}
use Rattle.qh_laws_surface.proofs.FanSteps.{IsEdgeOf, LongEnough, closed_triples, edges_flat, fans_edges, of_edges, once_fan, triples_along, triples_in}
use Rattle.qh_laws_surface.proofs.{FirstFace.first_face, SharedCorners.shared_step}
use Rattle.qh_laws_surface.proofs.StepCounts.{Has, once_firsts, once_flat_map, once_times, pair_ends, step_firsts, step_times, times}
use Rattle.qh_laws_surface.specs.laws.SurfaceLaws.{BodyIsSurface, FansAreSurface}
use Rattle.qh_model.proofs.Common.{AreClosed, AreFaces, ArePolygons, BodyValue, HasDistinctPoints, In, IsBody, IsDimension, IsFace, IsFacePolygon}
use Rattle.qh_model.proofs.Common.{IsSupportingTriple, List, Members, Once, Triple, Vector, [], ap, arith, cross, dite, dot, edges, fan, fans, flat_map, inl}
use Rattle.qh_model.proofs.Common.{inr, length, length-append, map, pos, refl, steps_round, subst, sym, triangles_along, vol, ℕ, ℕ_discrete, ◌++◌, ◌<◌, ◌∙◌}
use Rattle.qh_model.proofs.Common.{◌∷◌, ◌≡◌, ◌≤ℤ◌}
use Rattle.qh_model.proofs.algebra.{Order.cancel-nonpos, Order.mul-nonneg_nonpos, Order.positive_le, Signs.less_differ, VectorIdentities.in_line-left}
use Rattle.qh_model.proofs.extremes.{Dimensions.one_dimension, Directions.square-positive}
use Rattle.qh_model.proofs.{lists.Images.of_map, lists.Joined.of_flat_map, lists.Lexicographic.rising-ordered, polygons.Edges.one_face_a_step}
use Rattle.qh_model.proofs.polygons.{Edges.seen_from, PlaneTurns.level_along, PlaneTurns.level_volume, Steps.faces_close, Steps.on_round, Steps.ordered_once}
use Rattle.qh_model.specs.headline.Predicates.{left}

-- ---- three corners of a face that turn left
module _ (at : ℕ → Vector) (ids : List ℕ) {i j k : ℕ} {F : List ℕ} (plane : IsSupportingTriple at (Members ids) i j k)
    (f : IsFacePolygon at (Members ids) i j k F) (x y z : ℕ) (fx : In x F) (fy : In y F) (fz : In z F)
    (turns : Turn (cross (at i) (at j) (at k)) at x y z) where
  abbrev n : Vector
  n = cross (at i) (at j) (at k)

  on : (l : ℕ) → In l F → vol (at i) (at j) (at k) (at l) ≡ pos 0
  on l m = ((f.members l).0 m).1

  -- these corners are a supporting triple
  pub corner_triple : IsSupportingTriple at (Members ids) x y z
  corner_triple = record {
    has_i = ((f.members x).0 fx).0.0;
    has_j = ((f.members y).0 fy).0.0;
    has_k = ((f.members z).0 fz).0.0;
    area = λ e. less_differ (pos 0) (left n (at x) (at y) (at z)) turns (sym (in_line-left n (at x) (at y) (at z) e));
    supports = λ l a. cancel-nonpos (dot n n) (vol (at x) (at y) (at z) (at l)) (square-positive n plane.area)
        (subst (λ v. v ≤ℤ pos 0) (sym (level_volume (at i) (at j) (at k) (at x) (at y) (at z) (at l) (on x fx) (on y fy) (on z fz)))
        (mul-nonneg_nonpos (left n (at x) (at y) (at z)) (vol (at i) (at j) (at k) (at l)) (positive_le _ turns) (plane.supports l a)));
  }

  -- the polygon of this triple is the face
  pub corner_face : IsFacePolygon at (Members ids) x y z F
  corner_face = seen_from at (Members ids) i j k x y z F f
      (level_along (at i) (at j) (at k) (at x) (at y) (at z) plane.area (on x fx) (on y fy) (on z fz) turns) (on x fx)

-- ---- lists that are met
met_self : (p ys : List ℕ) → IsMetAlong p (p ++ ys)
met_self [] ys = tt
met_self (u ∷ p) ys = inl (refl, met_self p ys)

met_next : (v w : ℕ) (xs ys : List ℕ) → Next v w xs → IsMetAlong (v ∷ w ∷ []) (xs ++ ys)
met_next v w [] ys h = absurd h
met_next v w (x ∷ []) ys h = absurd h
met_next v w (x ∷ y ∷ r) ys (inl h) = inl (sym h.0, inl (sym h.1, tt))
met_next v w (x ∷ y ∷ r) ys (inr h) = inr (met_next v w (y ∷ r) ys h)

-- ---- the triangles of a fan: of its first corner and two consecutive ones
fan_triple : (a u : ℕ) (r : List ℕ) (t : Triple) → In t (triples_along a u r) → (t.i ≡ a) × Next t.j t.k (u ∷ r)
fan_triple a u [] t m = absurd m
fan_triple a u (w ∷ r) t (inl e) = (ap (λ (x : Triple). x.i) e, inl (sym (ap (λ (x : Triple). x.j) e), sym (ap (λ (x : Triple). x.k) e)))
fan_triple a u (w ∷ r) t (inr m) = let s = fan_triple a w r t m in (s.0, inr s.1)

triangles_listed : (a u : ℕ) (r : List ℕ) → triangles_along a u r ≡ map (λ (t : Triple). t.i ∷ t.j ∷ t.k ∷ []) (triples_along a u r)
triangles_listed a u [] = refl
triangles_listed a u (w ∷ r) = ap (λ ts. (a ∷ u ∷ w ∷ []) ∷ ts) (triangles_listed a w r)

module _ (n : Vector) (at : ℕ → Vector) where
  pub corners_in : (q : List ℕ) → AllTurn n at q → (t : Triple) → In t (triples_in q)
      → In t.i q × (In t.j q × (In t.k q × Turn n at t.i t.j t.k))
  corners_in [] o t m = absurd m
  corners_in (a ∷ []) o t m = absurd m
  corners_in (a ∷ u ∷ r) o t m =
      let s = fan_triple a u r t m in let k = next_members t.j t.k (u ∷ r) s.1 in
      (inl s.0, (inr k.0, (inr k.1, subst (λ x. Turn n at x t.j t.k) (sym s.0) (next_ordered (Turn n at a) t.j t.k (u ∷ r) s.1 o.0))))

  -- a step of a fan has a corner to its left
  edge_turn : (q : List ℕ) → AllTurn n at q → (x y : ℕ) → Has x y (edges (triples_in q)) → IsTurn n at q x y
  edge_turn q o x y m = let r = of_edges x y (triples_in q) m in by r.0 (corners_in q o r.0 r.1) r.2
    where
      step : (a b c : ℕ) → In a q → In b q → In c q → Turn n at a b c → ◌≡◌ {A = ℕ × ℕ} (x, y) (a, b) → IsTurn n at q x y
      step a b c ia ib ic t e = let p = pair_ends e in record {
        has_u = subst (λ s. In s q) (sym p.0) ia;
        has_v = subst (λ s. In s q) (sym p.1) ib;
        w = c;
        has_w = ic;
        turns = subst (λ s. Turn n at s y c) (sym p.0) (subst (λ s. Turn n at a s c) (sym p.1) t);
      }

      by : (t : Triple) → In t.i q × (In t.j q × (In t.k q × Turn n at t.i t.j t.k)) → IsEdgeOf x y t → IsTurn n at q x y
      by t c (inl e) = step t.i t.j t.k c.0 c.1.0 c.1.1.0 c.1.1.1 e
      by t c (inr (inl e)) = step t.j t.k t.i c.1.0 c.1.1.0 c.0 (turned n at t.i t.j t.k c.1.1.1) e
      by t c (inr (inr (inl e))) = step t.k t.i t.j c.1.1.0 c.0 c.1.0 (turned n at t.j t.k t.i (turned n at t.i t.j t.k c.1.1.1)) e
      by t c (inr (inr (inr e))) = absurd e

module _ (at : ℕ → Vector) (ids : List ℕ) (d : HasDistinctPoints at (Members ids)) where
  abbrev A : ℕ → Type 0
  A = Members ids

  -- a face has three corners
  long_face : (q : List ℕ) → IsFace at A q → LongEnough q
  long_face q f = by (some_corners at ids d q f)
    where
      by : (i j k : ℕ) × BeginsWith q i j k × HasFace at A q i j k → LongEnough q
      by (i, j, k, (r, e), h) = let l = ap length e in omega (arith, l)

  -- a face is a piece
  pub face_piece : (q : List ℕ) → IsFace at A q → IsPiece at A q
  face_piece [] f = absurd (let l = long_face [] f in omega (arith, l))
  face_piece (u ∷ p) f = by (some_corners at ids d (u ∷ p) f)
    where
      by : (i j k : ℕ) × BeginsWith (u ∷ p) i j k × HasFace at A (u ∷ p) i j k → IsPiece at A (u ∷ p)
      by (i, j, k, b, (t, g)) = (i, j, k, t, (b, (u ∷ p, g, (0, (omega arith, refl, met_self p [])))))

  -- a triangle of the fan of a face is a piece
  fan_piece : (q t : List ℕ) → IsFace at A q → In t (fan q) → IsPiece at A t
  fan_piece [] t f m = absurd (let l = long_face [] f in omega (arith, l))
  fan_piece (a ∷ []) t f m = absurd (let l = long_face (a ∷ []) f in omega (arith, l))
  fan_piece (a ∷ b ∷ []) t f m = absurd (let l = long_face (a ∷ b ∷ []) f in omega (arith, l))
  fan_piece (a ∷ b ∷ c ∷ r) t (i, j, k, plane, g) m = subst (IsPiece at A) (sym s.2) (
    s.0.i,
    s.0.j,
    s.0.k,
    corner_triple at ids plane g s.0.i s.0.j s.0.k o.0 o.1.0 o.1.1.0 o.1.1.1,
    (
      ([], refl),
      (q, corner_face at ids plane g s.0.i s.0.j s.0.k o.0 o.1.0 o.1.1.0 o.1.1.1, (0, (omega arith, sym h.0, met_next s.0.j s.0.k (b ∷ c ∷ r) [] h.1))),
    ),
  )
    where
      q : List ℕ
      q = a ∷ b ∷ c ∷ r

      s : (x : Triple) × In x (triples_along a b (c ∷ r)) × (t ≡ x.i ∷ x.j ∷ x.k ∷ [])
      s = of_map (λ (x : Triple). x.i ∷ x.j ∷ x.k ∷ []) (triples_along a b (c ∷ r)) t (subst (In t) (triangles_listed a b (c ∷ r)) m)

      h : (s.0.i ≡ a) × Next s.0.j s.0.k (b ∷ c ∷ r)
      h = fan_triple a b (c ∷ r) s.0 s.1

      o : In s.0.i q × (In s.0.j q × (In s.0.k q × Turn (cross (at i) (at j) (at k)) at s.0.i s.0.j s.0.k))
      o = corners_in (cross (at i) (at j) (at k)) at q (polygon_turns (cross (at i) (at j) (at k)) at g) s.0 s.1

-- ---- the laws
pub some_member : (qs : List (List ℕ)) (q : List ℕ) → In q qs → 0 < length qs
some_member [] q m = absurd m
some_member (p ∷ ps) q m = omega arith

module _ (at : ℕ → Vector) (ids : List ℕ) (qs : List (List ℕ)) (d : HasDistinctPoints at (Members ids))
    (solid : IsDimension at (Members ids) 3) (faces : AreFaces at (Members ids) qs) where
  some : 0 < length qs
  some = let t = first_face at ids d solid in let f = faces.each t.0 t.1 t.2 t.3 in some_member qs f.0 f.1

  once_each : Once qs
  once_each = ordered_once qs (rising-ordered qs faces.rising)

  faces_surface : IsFaceSurface at (Members ids) qs
  faces_surface = record {
    some = some;
    pieces = λ q m. face_piece at ids d q (faces.only q m);
    closed = faces_close at ids qs d solid faces;
    once = λ u v l. let c = once_times u v (flat_map steps_round qs) once in omega (arith, step_times qs u v, c);
  }
    where
      once : Once (flat_map steps_round qs)
      once = once_flat_map steps_round qs once_each
          (λ q m. once_firsts (steps_round q) (subst Once (sym (step_firsts q)) (faces.only q m).4.once)) apart
        where
          apart : (p q : List ℕ) (e : ℕ × ℕ) → In p qs → In q qs → In e (steps_round p) → In e (steps_round q) → p ≡ q
          apart p q (u, v) i j h k = one_face_a_step at ids qs d faces p q i j u v ((on_round u v p).0 h) ((on_round u v q).0 k)

  -- the steps of the fans
  fan_steps : flat_map steps_round (fans qs) ≡ edges (flat_map triples_in qs)
  fan_steps = fans_edges qs (λ q m. long_face at ids d q (faces.only q m))

  fans_surface : IsFaceSurface at (Members ids) (fans qs)
  fans_surface = record {
    some = some_fans qs some;
    pieces = λ t m. let r = of_flat_map fan qs t m in fan_piece at ids d r.0 t (faces.only r.0 r.1) r.2;
    closed = closed;
    once = λ u v l. let c = once_times u v (flat_map steps_round (fans qs)) once in omega (arith, step_times (fans qs) u v, c);
  }
    where
      some_fan : (q : List ℕ) → 0 < length (fan q)
      some_fan [] = omega arith
      some_fan (a ∷ []) = omega arith
      some_fan (a ∷ b ∷ []) = omega arith
      some_fan (a ∷ b ∷ c ∷ r) = omega arith

      some_fans : (ps : List (List ℕ)) → 0 < length ps → 0 < length (fans ps)
      some_fans [] h = absurd (omega arith)
      some_fans (p ∷ ps) h = let one = some_fan p in omega (arith, length-append (fan p) (fans ps), one)

      closed : AreClosed (fans qs)
      closed u v =
          step_times (fans qs) u v ∙ ap (times u v) fan_steps ∙ closed_triples qs (faces_close at ids qs d solid faces) u v
          ∙ ap (times v u) (sym fan_steps) ∙ sym (step_times (fans qs) v u)

      once : Once (flat_map steps_round (fans qs))
      once = subst Once (sym (fan_steps ∙ edges_flat qs))
          (once_flat_map (λ q. edges (triples_in q)) qs once_each (λ q m. once_fan q (faces.only q m).4.once) apart)
        where
          apart : (p q : List ℕ) (e : ℕ × ℕ) → In p qs → In q qs → In e (edges (triples_in p)) → In e (edges (triples_in q)) → p ≡ q
          apart p q (x, y) h l m o = let (i, j, k, plane, f) = faces.only p h in let (a, b, c, other, g) = faces.only q l in
              shared_step at ids solid d plane other f g (edge_turn (cross (at i) (at j) (at k)) at p (polygon_turns (cross (at i) (at j) (at k)) at f) x y m)
              (edge_turn (cross (at a) (at b) (at c)) at q (polygon_turns (cross (at a) (at b) (at c)) at g) x y o)

-- the faces of a solid body
pub faces_of : (at : ℕ → Vector) (ids : List ℕ) (b : BodyValue) → IsDimension at (Members ids) 3 → IsBody at (Members ids) b
    → AreFaces at (Members ids) b.polygons
faces_of at ids b solid body = go (one_dimension at (Members ids) b.dim 3 body.dim solid) body.polygons
  where
    go : b.dim ≡ 3 → ArePolygons at (Members ids) b.dim b.polygons → AreFaces at (Members ids) b.polygons
    go e (inl p) = p.1
    go e (inr (inl p)) = let f = p.0 in absurd (omega (arith, e, f))
    go e (inr (inr (inl p))) = let f = p.0 in absurd (omega (arith, e, f))
    go e (inr (inr (inr p))) = let f = p.0 in absurd (omega (arith, e, f))

pub body_is_surface : BodyIsSurface
body_is_surface at ids b d body = dite (ℕ_discrete b.dim 3) (λ e. solid (subst (IsDimension at (Members ids)) e body.dim)) (λ n. inr (
  (λ s. n (one_dimension at (Members ids) b.dim 3 body.dim s)),
  (b.dim, body.dim, body.polygons),
))
  where
    solid : IsDimension at (Members ids) 3 → IsHullSurface at (Members ids) b.polygons
    solid s = inl (s, faces_surface at ids b.polygons d s (faces_of at ids b s body))

pub fans_are_surface : FansAreSurface
fans_are_surface at ids b d s body = inl (s, fans_surface at ids b.polygons d s (faces_of at ids b s body))
