-- The pieces of a surface that lie in the plane of a face go round the face once.
use Rattle.qh_model.proofs.Common.{◌≡◌, ◌≢◌, ℕ, ◌+◌, ◌<◌, ◌≤◌, arith, refl, sym, subst, ◌∙◌, inl, inr, ⊎_elim, ◌⊎◌, List, [], ◌∷◌, length, cases_lt}
use Rattle.qh_model.proofs.Common.{cases_order, ints, flat_map, ℤ, pos, ◌≤ℤ◌, ◌<ℤ◌, steps_round, Triple, edges, is_edge, IsClosedSurface, Extreme, Follows}
use Rattle.qh_model.proofs.Common.{IsFacePolygon, cross, In, Members, Vector, IsSupportingTriple, OnPlane}
use Rattle.qh_model.proofs.{Decisions.Decided, Decisions.in_or_not, Decisions.same_id, closed_surfaces.Sums.sum_z, closed_surfaces.Sums.count-is}
use Rattle.qh_model.proofs.{lists.Filters.in_filter, lists.Joined.of_flat_map, polygons.Edges.seen_from}
use Rattle.qh_model.proofs.{closed_surfaces.Supporting.closed_miss_no_plane, polygons.Neighbours.follows_members, polygons.Unique.one_polygon}
use Rattle.qh_check.specs.contract.Surfaces.{IsFaceSurface}
use Rattle.qh_laws_surface.specs.contract.Measures.{lies_in}
use Rattle.qh_laws_surface.proofs.{Chains.AreWays, Chains.all_arrivals, Chains.equally_often, ConvexLists.AllTurn, ConvexLists.turned, ConvexLists.no_back}
use Rattle.qh_laws_surface.proofs.{FanSteps.triples_in, FanSteps.closed_triples, HullSurface.corner_triple, HullSurface.corner_face, HullSurface.corners_in}
use Rattle.qh_laws_surface.proofs.FanAreas.{turns_of, swept, swept-odd, all_swept, area_positive}
use Rattle.qh_laws_surface.proofs.PlanePieces.{PieceOf, in_face, normal, piece_turns, OverFace, parts, es, piece, of_face, in_parts, part_member, part_turns}
use Rattle.qh_laws_surface.proofs.PlanePieces.{follows_apart, step_in, none_back, kept_alike, kept_at_most, diagonal_kept}
use Rattle.qh_laws_surface.proofs.StepCounts.{IsOdd, sum_cancels, sum_same, times, step_times, closed_times, none_there, taken, not_taken, Beside}
use Rattle.qh_laws_surface.proofs.StepCounts.{beside_or_not}

module _ {at : ℕ → Vector} {ids : List ℕ} {qs : List (List ℕ)} {i j k : ℕ} {F : List ℕ} (c : OverFace at ids qs i j k F)
    (surface : IsFaceSurface at (Members ids) qs) where
  abbrev A : ℕ → Type 0
  A = Members ids

  abbrev n : Vector
  n = cross (at i) (at j) (at k)

  -- ---- the number of times that all polygons take a step, and that those of the face do
  all_once : (u v : ℕ) → u ≢ v → times u v (flat_map steps_round qs) ≤ 1
  all_once u v ne = by (cases_order u v)
    where
      by : (u ≡ v) ⊎ ((u < v) ⊎ (v < u)) → times u v (flat_map steps_round qs) ≤ 1
      by (inl e) = absurd (ne e)
      by (inr (inl l)) = let o = surface.once u v l in omega (arith, o, step_times qs u v)
      by (inr (inr l)) = let o = surface.once v u l in omega (arith, o, step_times qs v u, closed_times qs surface.closed u v)

  apart : (u v : ℕ) → ¬ (Beside F u v) → times u v (es c) ≡ times v u (es c)
  apart u v h = by (in_or_not u F) (in_or_not v F)
    where
      outside : (x y : ℕ) → (¬ (In x F)) ⊎ (¬ (In y F)) → times x y (es c) ≡ 0
      outside x y o = none_there x y (es c) (λ m. let s = step_in c x y m in let k = follows_members x y s.0 s.2 in
          ⊎_elim (λ b. b (part_member c s.0 s.1 x k.0)) (λ b. b (part_member c s.0 s.1 y k.1)) o)

      by : Decided (In u F) → Decided (In v F) → times u v (es c) ≡ times v u (es c)
      by (inr x) q = outside u v (inl x) ∙ sym (outside v u (inr x))
      by (inl a) (inr x) = outside u v (inr x) ∙ sym (outside v u (inl x))
      by (inl a) (inl b) =
          kept_alike (lies_in at i j k) u v qs (diagonal_kept c u v h a b) ∙ closed_times qs surface.closed u v
          ∙ sym (kept_alike (lies_in at i j k) v u qs (diagonal_kept c v u (λ s. h (⊎_elim (λ c. inr c) (λ c. inl c) s)) b a))

  -- the steps of the pieces are closed paths over the corners of the face
  face_ways : AreWays F (es c)
  face_ways = record {
    apart = apart;
    one_way = λ u v h. none_there v u (es c) (none_back c u v h);
    once = λ u v h. let o = all_once u v (follows_apart c u v h) in omega (arith, o, kept_at_most (lies_in at i j k) u v qs);
    arrive = λ u. all_arrivals u (parts c);
    one_before = before;
    one_after = after;
  }
    where
      before : (x y u : ℕ) → Follows x u F → Follows y u F → x ≡ y
      before x y u g h = ⊎_elim (λ e. e) (λ ne.
          let one = c.polygon.round x u g y (follows_members y u F h).0 (λ e. ne (sym e)) (follows_apart c y u h) in
          let two = c.polygon.round y u h x (follows_members x u F g).0 ne (follows_apart c x u g) in
          absurd (no_back n at y x u (turned n at u y x (turned n at x u y one)) two)) (same_id x y)

      after : (u x y : ℕ) → Follows u x F → Follows u y F → x ≡ y
      after u x y g h = ⊎_elim (λ e. e) (λ ne.
          let one = c.polygon.round u x g y (follows_members u y F h).1 (λ e. follows_apart c u y h (sym e)) (λ e. ne (sym e)) in
          let two = c.polygon.round u y h x (follows_members u x F g).1 (λ e. follows_apart c u x g (sym e)) ne in
          absurd (no_back n at u x y one two)) (same_id x y)

  -- ---- some piece lies in the plane
  abbrev triangles : List Triple
  triangles = flat_map triples_in qs

  triangle_face : (t : Triple) → In t triangles → (q : List ℕ) × (m : In q qs) × IsSupportingTriple at A t.i t.j t.k
      × IsFacePolygon at A t.i t.j t.k (piece c q m).face
  triangle_face t m =
      let r = of_flat_map triples_in qs t m in
      let p = piece c r.0 r.1 in
      let o = corners_in (normal p) at r.0 (piece_turns p) t r.2 in
      let has = in_face p in (
        r.0,
        r.1,
        corner_triple at ids p.plane p.polygon t.i t.j t.k (has t.i o.0) (has t.j o.1.0) (has t.k o.1.1.0) o.1.1.1,
        corner_face at ids p.plane p.polygon t.i t.j t.k (has t.i o.0) (has t.j o.1.0) (has t.k o.1.1.0) o.1.1.1,
      )

  closed_triangles : IsClosedSurface at triangles
  closed_triangles = record {
    some = there qs surface.some (λ q m. piece c q m);
    area = λ t m. (triangle_face t m).2.area;
    closed = λ u v. sym (count-is (is_edge (u, v)) (edges triangles)) ∙ closed_triples qs surface.closed u v ∙ count-is (is_edge (v, u)) (edges triangles);
  }
    where
      there : (ps : List (List ℕ)) → 0 < length ps → ((q : List ℕ) → In q ps → PieceOf at A q) → 1 ≤ length (flat_map triples_in ps)
      there [] h p = absurd (omega arith)
      there (q ∷ ps) h p = let s = p q (inl refl) in
          subst (λ x. 1 ≤ length (flat_map triples_in (x ∷ ps))) (sym s.is) (omega arith)

  some_part : (q : List ℕ) × In q (parts c)
  some_part =
      let s = closed_miss_no_plane at ids triangles closed_triangles (λ t m. (triangle_face t m).2) i j k c.plane in
      let r = triangle_face s.t s.there in
      let g = seen_from at A s.t.i s.t.j s.t.k i j k (piece c r.0 r.1).face r.3 s.along s.level in
      let same = one_polygon at (OnPlane at (Extreme at A) i j k) n F (piece c r.0 r.1).face c.polygon g in
      (r.0, in_filter (lies_in at i j k) qs r.0 r.1 (of_face c (piece c r.0 r.1) same))

  -- so the areas of the pieces do not add up to 0
  part_area : (q : List ℕ) → In q (parts c) → pos 0 <ℤ turns_of n at q
  part_area q h = by (piece c q (in_parts c q h).0)
    where
      by : PieceOf at A q → pos 0 <ℤ turns_of n at q
      by p = subst (λ x. pos 0 <ℤ turns_of n at x) (sym p.is) (area_positive n at p.i p.j p.k p.rest (subst (AllTurn n at) p.is (part_turns c q h)))

  areas_add : (ps : List (List ℕ)) → ((q : List ℕ) → In q ps → pos 0 <ℤ turns_of n at q) → pos 0 ≤ℤ sum_z (turns_of n at) ps
  areas_add [] h = omega (arith, ints)
  areas_add (q ∷ ps) h = let one = h q (inl refl) in omega (arith, ints, one, areas_add ps (λ x m. h x (inr m)))

  areas_some : (ps : List (List ℕ)) → ((q : List ℕ) → In q ps → pos 0 <ℤ turns_of n at q) → (q : List ℕ) → In q ps → pos 0 <ℤ sum_z (turns_of n at) ps
  areas_some [] h q m = absurd m
  areas_some (x ∷ ps) h q m = let one = h x (inl refl) in omega (arith, ints, one, areas_add ps (λ y o. h y (inr o)))

  not_nothing : ¬ ((u v : ℕ) → Follows u v F → times u v (es c) ≡ 0)
  not_nothing z =
      let area = areas_some (parts c) part_area some_part.0 some_part.1 in
      let swept_all = all_swept n at i (parts c) in
      let none = sum_cancels (swept n at i) (swept-odd n at i) (es c) even in
      omega (arith, ints, area, swept_all, none)
    where
      even : (u v : ℕ) → times u v (es c) ≡ times v u (es c)
      even u v = by (beside_or_not F u v)
        where
          by : Decided (Beside F u v) → times u v (es c) ≡ times v u (es c)
          by (inl (inl h)) = z u v h ∙ sym (face_ways.one_way u v h)
          by (inl (inr h)) = face_ways.one_way v u h ∙ sym (z v u h)
          by (inr x) = apart u v x

  -- each side of the face is taken once
  side_once : (u v : ℕ) → Follows u v F → times u v (es c) ≡ 1
  side_once u v h = by (cases_lt 0 (times u v (es c)))
    where
      by : (0 < times u v (es c)) ⊎ (times u v (es c) ≤ 0) → times u v (es c) ≡ 1
      by (inl l) = let o = face_ways.once u v h in omega (arith, l, o)
      by (inr l) = absurd (not_nothing (λ x y g. let e = equally_often F (es c) face_ways u v x y h g in omega (arith, l, e)))

  -- a function that changes its sign with a step adds up to the same over the steps of the pieces and over those of the face
  pub goes_round_once : (g : (ℕ × ℕ) → ℤ) → IsOdd g → sum_z g (es c) ≡ sum_z g (steps_round F)
  goes_round_once g odd = sum_same g odd (es c) (steps_round F) alike
    where
      one_of : (u v : ℕ) → Follows u v F → ¬ (Follows v u F)
      one_of u v h k = let a = side_once u v h in let b = face_ways.one_way v u k in omega (arith, a, b)

      alike : (u v : ℕ) → times u v (es c) + times v u (steps_round F) ≡ times v u (es c) + times u v (steps_round F)
      alike u v = by (beside_or_not F u v)
        where
          by : Decided (Beside F u v) → times u v (es c) + times v u (steps_round F) ≡ times v u (es c) + times u v (steps_round F)
          by (inl (inl h)) = omega (arith, side_once u v h, face_ways.one_way u v h, taken u v F c.polygon.once h, not_taken v u F (one_of u v h))
          by (inl (inr h)) = omega (arith, side_once v u h, face_ways.one_way v u h, taken v u F c.polygon.once h, not_taken u v F (one_of v u h))
          by (inr x) = omega (arith, apart u v x, not_taken u v F (λ h. x (inl h)), not_taken v u F (λ h. x (inr h)))
