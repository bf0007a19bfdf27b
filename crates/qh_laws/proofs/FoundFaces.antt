-- Each supporting triple has a polygon, and the polygons of all triples have a rising list.
use Rattle.qh_model.proofs.Common.{◌≡◌, ◌∙◌, ℕ, ◌<◌, List, [], ◌∷◌, map, refl, sym, subst, ◌⊎◌, inl, inr, cases_order, flat_map, ℤ, pos, ◌≤ℤ◌, ◌↔◌}
use Rattle.qh_model.proofs.Common.{HasDistinctPoints, Extreme, ComesBefore, RisesFrom, RiseStrictly, IsFacePolygon, AreFaces, cross, vol, AreInLine, In}
use Rattle.qh_model.proofs.Common.{Members, Supports, IsSupportingTriple, OnPlane, Vector, origin}
use Rattle.qh_model.proofs.Decisions.{Decided, both, contrary, decided_as, each_or_not, in_or_not, same_vector, at_most_or_above}
use Rattle.qh_model.proofs.{algebra.Order.zero_or_not, extremes.Directions.along_itself, extremes.Directions.from_plane, extremes.Directions.square-positive}
use Rattle.qh_model.proofs.{extremes.Dimensions.segment_of_triangle, extremes.ExtremeIds.listed_itself, extremes.ExtremeIds.listed_part, lists.Images.in_map}
use Rattle.qh_model.proofs.{extremes.SpanningTriples.own_triangle, extremes.Faces.extremes_of_face, lists.Joined.in_flat_map, polygons.Direction.polygon_as}
use Rattle.qh_polygon.proofs.polygons.Turns.{IsFlat}
use Rattle.qh_laws.proofs.{FoundPolygons.polygon_found, Sorting.Compare, Sorting.Rises, Sorting.InRow, Sorting.Sorted, Sorting.sorted}

-- members of one plane lie flat across its normal
pub flat_plane : (at : ℕ → Vector) (A : ℕ → Type 0) (i j k : ℕ) → ¬ (AreInLine (at i) (at j) (at k))
    → IsFlat (cross (at i) (at j) (at k)) at (OnPlane at A i j k)
flat_plane at A i j k d = record {
  even = λ l m a b. from_plane (at i) (at j) (at k) (at l) (at m) a.1 ∙ b.1;
  some = square-positive (cross (at i) (at j) (at k)) d;
}

-- any two lists compare
compare : (p q : List ℕ) → Compare ComesBefore p q
compare [] [] = inr (inl refl)
compare [] (v ∷ q) = inl tt
compare (u ∷ p) [] = inr (inr tt)
compare (u ∷ p) (v ∷ q) = by_cases (cases_order u v) (compare p q)
  where
    by_cases : (u ≡ v) ⊎ ((u < v) ⊎ (v < u)) → Compare ComesBefore p q → Compare ComesBefore (u ∷ p) (v ∷ q)
    by_cases (inr (inl l)) c = inl (inl l)
    by_cases (inr (inr g)) c = inr (inr (inl g))
    by_cases (inl e) (inl l) = inl (inr (e, l))
    by_cases (inl e) (inr (inl d)) = inr (inl (λ i. e i ∷ d i))
    by_cases (inl e) (inr (inr g)) = inr (inr (inr (sym e, g)))

-- a row of lists rises after its first
rises_from : (q : List ℕ) (qs : List (List ℕ)) → Rises ComesBefore q qs → RisesFrom q qs
rises_from q [] r = tt
rises_from q (p ∷ ps) r = (r.0, rises_from p ps r.1)

-- so a row rises
rises_strictly : (qs : List (List ℕ)) → InRow ComesBefore qs → RiseStrictly qs
rises_strictly [] r = tt
rises_strictly (q ∷ qs) r = rises_from q qs r

module _ (at : ℕ → Vector) (ids : List ℕ) (distinct : HasDistinctPoints at (Members ids)) where
  -- each supporting triple has a polygon
  pub face_polygon : (i j k : ℕ) → IsSupportingTriple at (Members ids) i j k → (q : List ℕ) × IsFacePolygon at (Members ids) i j k q
  face_polygon i j k t = from_witness (listed_part (Members ids) (λ l. volume l ≡ pos 0) (λ l. zero_or_not (volume l)) ids (listed_itself ids))
    where
      volume : ℕ → ℤ
      volume l = vol (at i) (at j) (at k) (at l)

      from_witness : (ys : List ℕ) × ((l : ℕ) → OnPlane at (Members ids) i j k l ↔ In l ys) → (q : List ℕ) × IsFacePolygon at (Members ids) i j k q
      from_witness (ys, l) =
          let F = OnPlane at (Members ids) i j k in
          let n = cross (at i) (at j) (at k) in
          let E = OnPlane at (Extreme at (Members ids)) i j k in
          let flat = flat_plane at (Members ids) i j k t.area in
          let p = polygon_found n at F ys l (λ x y a b e. distinct x y a.0 b.0 e) flat (segment_of_triangle at F (own_triangle at (Members ids) i j k t)) in
          (p.0, polygon_as at (Extreme at F) E n n p.0 (extremes_of_face at ids i j k t.supports) (along_itself n) p.1)

  -- decides whether three ids are a supporting triple
  supporting_or_not : (i j k : ℕ) → Decided (IsSupportingTriple at (Members ids) i j k)
  supporting_or_not i j k =
      decided_as (In i ids × (In j ids × (In k ids × ((¬ (AreInLine (at i) (at j) (at k))) × Supports at (Members ids) i j k))))
      (IsSupportingTriple at (Members ids) i j k) (λ h. record { has_i = h.0; has_j = h.1.0; has_k = h.1.1.0; area = h.1.1.1.0; supports = h.1.1.1.1 })
      (λ t. (t.has_i, (t.has_j, (t.has_k, (t.area, t.supports)))))
      (both (In i ids) _ (in_or_not i ids) (both (In j ids) _ (in_or_not j ids) (both (In k ids) _ (in_or_not k ids)
      (both (¬ (AreInLine (at i) (at j) (at k))) (Supports at (Members ids) i j k)
      (contrary (AreInLine (at i) (at j) (at k)) (same_vector (cross (at i) (at j) (at k)) origin)) (each_or_not (λ l. vol (at i) (at j) (at k) (at l) ≤ℤ pos 0)
      (λ l. at_most_or_above (vol (at i) (at j) (at k) (at l)) (pos 0)) ids)))))

  -- the polygons of the supporting triples among some triples
  record Polygons (ts : List (ℕ × (ℕ × ℕ))) : Type 0 where
    list : List (List ℕ)
    each : (i j k : ℕ) → In (i, (j, k)) ts → IsSupportingTriple at (Members ids) i j k → (q : List ℕ) × In q list × IsFacePolygon at (Members ids) i j k q
    only : (q : List ℕ) → In q list → (i j k : ℕ) × IsSupportingTriple at (Members ids) i j k × IsFacePolygon at (Members ids) i j k q

  -- each list of triples has such polygons
  polygons : (ts : List (ℕ × (ℕ × ℕ))) → Polygons ts
  polygons [] = record { list = []; each = λ i j k m t. absurd m; only = λ q m. absurd m }
  polygons ((a, (b, c)) ∷ ts) = by_decision (supporting_or_not a b c) (polygons ts)
    where
      by_decision : Decided (IsSupportingTriple at (Members ids) a b c) → Polygons ts → Polygons ((a, (b, c)) ∷ ts)
      by_decision (inr n) r = record { list = r.list; each = each; only = r.only }
        where
          each : (i j k : ℕ) → In (i, (j, k)) ((a, (b, c)) ∷ ts) → IsSupportingTriple at (Members ids) i j k
              → (q : List ℕ) × In q r.list × IsFacePolygon at (Members ids) i j k q
          each i j k (inl e) t = absurd (n (subst (λ (v : ℕ × (ℕ × ℕ)). IsSupportingTriple at (Members ids) v.0 v.1.0 v.1.1) e t))
          each i j k (inr m) t = r.each i j k m t
      by_decision (inl s) r = record { list = p.0 ∷ r.list; each = each; only = only }
        where
          p : (q : List ℕ) × IsFacePolygon at (Members ids) a b c q
          p = face_polygon a b c s

          each : (i j k : ℕ) → In (i, (j, k)) ((a, (b, c)) ∷ ts) → IsSupportingTriple at (Members ids) i j k
              → (q : List ℕ) × In q (p.0 ∷ r.list) × IsFacePolygon at (Members ids) i j k q
          each i j k (inl e) t = (p.0, inl refl, subst (λ (v : ℕ × (ℕ × ℕ)). IsFacePolygon at (Members ids) v.0 v.1.0 v.1.1 p.0) (sym e) p.1)
          each i j k (inr m) t = let g = r.each i j k m t in (g.0, inr g.1, g.2)

          only : (q : List ℕ) → In q (p.0 ∷ r.list) → (i j k : ℕ) × IsSupportingTriple at (Members ids) i j k × IsFacePolygon at (Members ids) i j k q
          only q (inl e) = (a, b, c, s, subst (IsFacePolygon at (Members ids) a b c) (sym e) p.1)
          only q (inr m) = r.only q m

  -- all triples of the ids
  triples : List (ℕ × (ℕ × ℕ))
  triples = flat_map (λ i. flat_map (λ j. map (λ k. (i, (j, k))) ids) ids) ids

  -- each triple is in that list
  in_triples : (i j k : ℕ) → In i ids → In j ids → In k ids → In (i, (j, k)) triples
  unfolding triples
  in_triples i j k a b c =
      in_flat_map (λ i. flat_map (λ j. map (λ k. (i, (j, k))) ids) ids) ids i (i, (j, k)) a
      (in_flat_map (λ j. map (λ k. (i, (j, k))) ids) ids j (i, (j, k)) b (in_map (λ k. (i, (j, k))) ids k c))

  -- ids of distinct points have a list of faces
  pub faces_found : (qs : List (List ℕ)) × AreFaces at (Members ids) qs
  faces_found = (row.list, record { rising = rises_strictly row.list row.row; each = each; only = λ q m. found.only q ((row.members q).0 m) })
    where
      found : Polygons triples
      found = polygons triples

      row : Sorted ComesBefore found.list
      row = sorted ComesBefore (λ q. Unit {0}) (λ p q a b. compare p q) found.list (λ q m. tt)

      each : (i j k : ℕ) → IsSupportingTriple at (Members ids) i j k → (q : List ℕ) × In q row.list × IsFacePolygon at (Members ids) i j k q
      each i j k t = let g = found.each i j k (in_triples i j k t.has_i t.has_j t.has_k) t in (g.0, (row.members g.0).1 g.1, g.2)
