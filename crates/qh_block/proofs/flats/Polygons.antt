-- The hull of a set in one plane is its polygon.
use Rattle.qh_model.proofs.Common.{◌≡◌, ◌≢◌, ◌∙◌, ℕ, [], ◌∷◌, List, length, sym, subst, ◌⊎◌, ⊎_elim, inl, inr, arith, refl, ints, IsIdSet, IsDimension, Extreme}
use Rattle.qh_model.proofs.Common.{BodyValue, IsBody, IsPolygon, IsFlatFace, PointsForward, place, cross, AreInLine, In, Members, Vector, origin, minus}
use Rattle.qh_model.proofs.{Members.In-get_or, Members.in_at, extremes.Dimensions.triangle_of, extremes.Directions.cross-flip, extremes.Directions.in_line-flip}
use Rattle.qh_model.proofs.algebra.VectorIdentities.{vector_path, in_line-twice, opposite, in_line-last}
use Rattle.qh_model.proofs.extremes.ExtremeIds.{listed_itself, combination_of_extremes, combination_within}
use Rattle.qh_polygon.specs.contract.{PlanarSets.IsPlanarSet, Shapes.IsInLine, Shapes.IsInPlane, Shapes.Each, Shapes.IsFirstNot, Shapes.AreFirstTwo}
use Rattle.{qh_bodies.specs.contract.ApartPolygons.HasThree, qh_bodies.specs.contract.ApartPolygons.HasThree.three, qh_block.specs.steps.FlatBodies.IsFlatBody}
use Rattle.{qh_polygon.proofs.ShapeIds.first_two_in, qh_block.proofs.flats.Bodies.flat_is_body, qh_block.proofs.flats.Edges.edges_round}

-- corners that are not in line differ
pub corners_differ : (at : ℕ → Vector) (i j k : ℕ) → ¬ (AreInLine (at i) (at j) (at k)) → (i ≢ j) × (j ≢ k) × (i ≢ k)
corners_differ at i j k area = (
  λ e. area (subst (λ t. AreInLine (at i) (at t) (at k)) e (in_line-twice (at i) (at k))),
  λ e. area (subst (λ t. AreInLine (at i) (at j) (at t)) e (in_line-last (at i) (at j))),
  λ e. area (subst (λ t. AreInLine (at i) (at j) (at t)) e (in_line-flip (at i) (at j) (at i) (in_line-twice (at i) (at j)))),
)

-- a list with a triangle has three members
pub three_members : (at : ℕ → Vector) (q : List ℕ) (i j k : ℕ) → In i q → In j q → In k q → ¬ (AreInLine (at i) (at j) (at k)) → HasThree q
three_members at [] i j k a b c area = absurd a
three_members at (x ∷ []) i j k a b c area = absurd (let d = corners_differ at i j k area in grind (arith, d, a, b))
three_members at (x ∷ y ∷ []) i j k a b c area = absurd (grind (arith, corners_differ at i j k area, a, b, c))
three_members at (x ∷ y ∷ z ∷ xs) i j k a b c area = three x y z xs

-- the opposite of a normal is that of the reversed triangle
opposite_is : (a b c : Vector) → minus origin (cross a b c) ≡ cross a c b
opposite_is a b c = vector_path _ (opposite (cross a b c)) (omega (arith, ints)) (omega (arith, ints)) (omega (arith, ints)) ∙ sym (cross-flip a b c)

-- the set of a shape in one plane
pub planar : (pts : List Vector) (ids : List ℕ) (i j k : ℕ) (n : Vector) → AreFirstTwo ids i j → IsFirstNot (IsInLine pts i j) ids k
    → Each (IsInPlane pts i j k) ids
    → (n ≡ cross (place pts i) (place pts j) (place pts k)) ⊎ (n ≡ minus origin (cross (place pts i) (place pts j) (place pts k)))
    → IsIdSet pts ids → IsPlanarSet pts ids n
planar pts ids i j k n two off plane side set = record {
  set = set;
  i = i;
  j = j;
  k = k;
  has_i = (first_two_in ids i j two).0;
  has_j = (first_two_in ids i j two).1;
  has_k = subst (λ v. In v ids) off.is (In-get_or ids off.at 0 off.within);
  area = off.not;
  plane = λ l m. (let r = in_at ids l m in subst (IsInPlane pts i j k) r.2 (plane r.0 r.1));
  normal = side;
}

module _ (pts : List Vector) (ids : List ℕ) (n : Vector) (s : IsPlanarSet pts ids n) (forward : PointsForward n) (q : List ℕ)
    (p : IsPolygon (place pts) (Extreme (place pts) (Members ids)) n q) where
  abbrev at : ℕ → Vector
  at = place pts

  -- a polygon about its normal is the face
  face : (a b c : ℕ) → In a ids → In b ids → In c ids → n ≡ cross (at a) (at b) (at c) → IsFlatFace at (Members ids) q
  face a b c ma mb mc e = record {
    i = a;
    j = b;
    k = c;
    has_i = ma;
    has_j = mb;
    has_k = mc;
    forward = subst PointsForward e forward;
    polygon = subst (λ v. IsPolygon at (Extreme at (Members ids)) v q) e p;
  }

  flat_face : IsFlatFace at (Members ids) q
  flat_face = ⊎_elim (λ e. face s.i s.j s.k s.has_i s.has_j s.has_k e)
      (λ e. face s.i s.k s.j s.has_i s.has_k s.has_j (e ∙ opposite_is (at s.i) (at s.j) (at s.k))) s.normal

  -- the polygon has at least three members, since each id is a combination of them
  at_least : HasThree q
  at_least =
      let t = triangle_of at (Members ids) (λ l. In l q) (λ a m.
      combination_within at (Extreme at (Members ids)) (λ l. In l q) (at a)
      (combination_of_extremes at (Members ids) ids (listed_itself ids) s.set.distinct a m) (λ l x. (p.members l).1 x))
      (record { i = s.i; j = s.j; k = s.k; has_i = s.has_i; has_j = s.has_j; has_k = s.has_k; area = s.area }) in
      three_members at q t.i t.j t.k t.has_i t.has_j t.has_k t.area

  -- so the polygon is the hull
  pub polygon_is_body : (b : BodyValue) → IsDimension at (Members ids) 2 → IsFlatBody 2 q (length q) b → IsBody at (Members ids) b
  polygon_is_body b d h = flat_is_body pts ids b 2 q (length q) h d p.members (inr (inl (refl, (q, flat_face, refl)))) (edges_round q at_least p.once)
