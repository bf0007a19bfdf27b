-- Ids in one plane: they are flat across their normal, and three of them, so at least two, are not in line.
use Rattle.qh_model.proofs.Common.{◌≡◌, ◌≢◌, ℕ, ◌<◌, List, [], length, arith, ap, sym, ◌∙◌, refl, inl, inr, ⊎_elim, get_or, cases_lt, pos, neg_ℤ}
use Rattle.qh_model.proofs.Common.{HasTriangle, place, cross, In, Members, Vector, origin, minus, dot}
use Rattle.qh_model.proofs.{Members.in_at, extremes.Dimensions.segment_of_triangle, extremes.Directions.square-positive}
use Rattle.qh_model.proofs.algebra.VectorIdentities.{vec, dotE, put, vol-dot}
use Rattle.qh_model.proofs.algebra.{Ring.ring, Ring.Expr.con, Ring.Expr.sub as less, Ring.Expr.neg, Signs.opposite_zero}
use Rattle.qh_polygon.proofs.{LinesAndPlanes.between_eq, LinesAndPlanes.none, polygons.Turns.IsFlat}
use Rattle.qh_polygon.specs.contract.PlanarSets.{IsPlanarSet}

-- the scalar product with the opposite vector
negated : (c v : Vector) → dot (minus origin c) v ≡ neg_ℤ (dot c v)
negated c v = ring (put c (put v []))
    (dotE (record {
      x = less (con (pos 0)) (vec 0).x;
      y = less (con (pos 0)) (vec 0).y;
      z = less (con (pos 0)) (vec 0).z;
    }) (vec 1)) (neg (dotE (vec 0) (vec 1))) refl

-- if three of the ids are not in line, there are at least two
pub two_of_triangle : (at : ℕ → Vector) (ids : List ℕ) → HasTriangle at (Members ids) → 1 < length ids
two_of_triangle at ids t =
    let s = segment_of_triangle at (Members ids) t in let p = in_at ids s.i s.has_i in let q = in_at ids s.j s.has_j in
    elim (cases_lt 1 (length ids)) [
      | inl l ↦ l
      | inr h ↦ (let l = p.1 in let m = q.1 in let same : p.0 ≡ q.0 = omega arith in
          absurd (s.differ (sym p.2 ∙ ap (λ k. get_or ids k 0) same ∙ q.2)))
    ]

module _ (pts : List Vector) (ids : List ℕ) (n : Vector) (p : IsPlanarSet pts ids n) where
  -- the normal of the three
  abbrev c : Vector
  c = cross (place pts p.i) (place pts p.j) (place pts p.k)

  -- the vector from i to a member is across the normal
  across : (l : ℕ) → In l ids → dot n (minus (place pts l) (place pts p.i)) ≡ pos 0
  across l m =
      let v = minus (place pts l) (place pts p.i) in
      let zero_c : dot c v ≡ pos 0 = sym (vol-dot (place pts p.i) (place pts p.j) (place pts p.k) (place pts l)) ∙ p.plane l m in
      ⊎_elim (λ e. ap (λ u. dot u v) e ∙ zero_c) (λ e. ap (λ u. dot u v) e ∙ opposite_zero _ _ (negated c v) zero_c) p.normal

  -- the normal is not zero
  some : n ≢ origin
  some = grind arith

  -- the ids are flat across the normal
  pub flat_of : IsFlat n (place pts) (λ x. In x ids)
  flat_of = record {
    even = λ a b ma mb. none _ _ _ (between_eq n (place pts p.i) (place pts a) (place pts b)) (across b mb) (across a ma);
    some = square-positive n some;
  }

  -- three of them are not in line
  pub planar_triangle : HasTriangle (place pts) (Members ids)
  planar_triangle = record { i = p.i; j = p.j; k = p.k; has_i = p.has_i; has_j = p.has_j; has_k = p.has_k; area = p.area }
