-- Pieces that cover each face once are a surface.
use Rattle.qh_model.proofs.Common.{◌≡◌, ◌≢◌, ℕ, ◌<◌, ◌≤◌, arith, refl, sym, subst, ◌∙◌, inl, inr, List, ◌∷◌, true, length, flat_map, count_by, steps_round}
use Rattle.qh_model.proofs.Common.{HasDistinctPoints, IsDimension, Extreme, Follows, AreFaces, IsFacePolygon, cross, In, Members, OnPlane, Vector}
use Rattle.qh_model.proofs.{Decisions.Decided, lists.Joined.of_flat_map, polygons.Steps.on_round}
use Rattle.qh_model.proofs.polygons.{Neighbours.follows_members, Neighbours.next_member, OtherFace.other_face, Unique.one_polygon}
use Rattle.qh_check.specs.contract.{Pieces.IsPiece, Surfaces.IsFaceSurface}
use Rattle.qh_laws_surface.proofs.{ConvexLists.first_two, HullSurface.faces_of, HullSurface.some_member, SegmentCounts.diagonal_alike, SegmentCounts.side_once}
use Rattle.qh_laws_surface.proofs.FirstFace.{first_face}
use Rattle.qh_laws_surface.proofs.PlanePieces.{Begun, begun, PieceOf, piece_of, in_face, normal, side_turn, follows_apart}
use Rattle.qh_laws_surface.proofs.StepCounts.{times, Has, step_times, none_there, is_there, there_or_not, Beside, beside_or_not}
use Rattle.qh_laws_surface.specs.{contract.Covering.Spot, contract.Covering.covers, contract.Covering.IsOffLines, laws.CoverLaws.CoveringIsSurface}

module _ (at : ℕ → Vector) (ids : List ℕ) (d : HasDistinctPoints at (Members ids)) (solid : IsDimension at (Members ids) 3)
    (qs : List (List ℕ)) (are : (q : List ℕ) → In q qs → IsPiece at (Members ids) q) (faces : List (List ℕ)) (fs : AreFaces at (Members ids) faces)
    (once_in : (face : List ℕ) → In face faces → (s : Spot) → covers at s face ≡ true → IsOffLines at s face → count_by (covers at s) qs ≡ 1) where
  abbrev A : ℕ → Type 0
  A = Members ids

  abbrev all : List (ℕ × ℕ)
  all = flat_map steps_round qs

  abbrev AreAlike : ℕ → ℕ → Type 0
  AreAlike u v = (times u v all ≡ times v u all) × (times u v all ≤ 1)

  face_begun : (G : List ℕ) → In G faces → Begun at ids qs G
  face_begun G m = begun at ids qs d solid are G (fs.only G m)

  once : (G : List ℕ) → In G faces → (b : Begun at ids qs G) → (s : Spot) → covers at s (b.i ∷ b.j ∷ b.k ∷ b.r) ≡ true
      → IsOffLines at s (b.i ∷ b.j ∷ b.k ∷ b.r) → count_by (covers at s) qs ≡ 1
  once G m b s c o = once_in G m s (subst (λ x. covers at s x ≡ true) (sym b.is) c) (subst (IsOffLines at s) (sym b.is) o)

  -- each side of a face is taken once
  side_of : (G : List ℕ) → In G faces → (u v : ℕ) → Follows u v G → times u v all ≡ 1
  side_of G m u v h = by (face_begun G m)
    where
      by : Begun at ids qs G → times u v all ≡ 1
      by b =
          let g = subst (Follows u v) b.is h in
          let o = follows_members u v (b.i ∷ b.j ∷ b.k ∷ b.r) g in side_once b.over (once G m b) u v o.0 o.1 (follows_apart b.over u v g) g

  -- a step that some piece takes
  step_alike : (q : List ℕ) → In q qs → (u v : ℕ) → Follows u v q → AreAlike u v
  step_alike q m u v h = by_face (fs.each p.i p.j p.k p.plane)
    where
      p : PieceOf at A q
      p = piece_of at A q (are q m)

      ne : u ≢ v
      ne = let t = side_turn p u v h in first_two (normal p) at u v t.w t.turns

      two_ones : times u v all ≡ 1 → times v u all ≡ 1 → AreAlike u v
      two_ones a b = (a ∙ sym b, omega (arith, a))

      by_face : (G : List ℕ) × In G faces × IsFacePolygon at A p.i p.j p.k G → AreAlike u v
      by_face (G, o, g) = by (beside_or_not G u v)
        where
          same : G ≡ p.face
          same = one_polygon at (OnPlane at (Extreme at A) p.i p.j p.k) (cross (at p.i) (at p.j) (at p.k)) G p.face g p.polygon

          by : Decided (Beside G u v) → AreAlike u v
          by (inl (inl s)) = let w = other_face at ids faces d solid fs G o u v s in two_ones (side_of G o u v s) (side_of w.0 w.1 v u w.2)
          by (inl (inr s)) = let w = other_face at ids faces d solid fs G o v u s in two_ones (side_of w.0 w.1 u v w.2) (side_of G o v u s)
          by (inr x) = across (face_begun G o)
            where
              across : Begun at ids qs G → AreAlike u v
              across b = diagonal_alike b.over (once G o b) u v (member u (follows_members u v q h).0) (member v (follows_members u v q h).1) ne
                  (λ s. x (subst (λ y. Beside y u v) (sym b.is) s))
                where
                  member : (x : ℕ) → In x q → In x (b.i ∷ b.j ∷ b.k ∷ b.r)
                  member x w = subst (In x) b.is (subst (In x) (sym same) (in_face p x w))

  all_same : (u v : ℕ) → AreAlike u v
  all_same u v = by (there_or_not u v all) (there_or_not v u all)
    where
      by : Decided (Has u v all) → Decided (Has v u all) → AreAlike u v
      by (inl m) b = let w = of_flat_map steps_round qs (u, v) m in step_alike w.0 w.1 u v ((on_round u v w.0).0 w.2)
      by (inr x) (inl m) =
          let w = of_flat_map steps_round qs (v, u) m in
          let s = step_alike w.0 w.1 v u ((on_round v u w.0).0 w.2) in (sym s.0, omega (arith, s.0, s.1))
      by (inr x) (inr y) = let a = none_there u v all x in let b = none_there v u all y in (a ∙ sym b, omega (arith, a))

  some_pieces : 0 < length qs
  some_pieces = let t = first_face at ids d solid in let g = fs.each t.0 t.1 t.2 t.3 in by g.0 g.1 (face_begun g.0 g.1)
    where
      by : (G : List ℕ) → In G faces → Begun at ids qs G → 0 < length qs
      by G m b =
          let y = next_member b.i G (subst (In b.i) (sym b.is) (inl refl)) in
          let w = of_flat_map steps_round qs (b.i, y.0) (is_there b.i y.0 all (let s = side_of G m b.i y.0 y.1 in omega (arith, s))) in
          some_member qs w.0 w.1

  covered_surface : IsFaceSurface at A qs
  covered_surface = record {
    some = some_pieces;
    pieces = are;
    closed = λ u v. step_times qs u v ∙ (all_same u v).0 ∙ sym (step_times qs v u);
    once = λ u v l. let o = (all_same u v).1 in omega (arith, o, step_times qs u v);
  }

pub covering_is_surface : CoveringIsSurface
covering_is_surface at ids qs b d solid body are once =
    inl (solid, covered_surface at ids d solid qs are b.polygons (faces_of at ids b solid body) once)
