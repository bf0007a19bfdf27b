-- A plane with no id of the set above it, with the polygon of the ids in it, is a face.
use Rattle.qh_model.proofs.Common.{◌≡◌, ℕ, sym, subst, ◌∙◌, inl, refl, List, pos, ◌≤ℤ◌, ◌↔◌, IsStrictlyIncreasing, HasDistinctPoints}
use Rattle.qh_model.proofs.Common.{Vector, place, cross, vol, AreInLine, In, Members, Extreme, Supports, IsSupportingTriple, OnPlane, IsPolygon, IsFacePolygon}
use Rattle.qh_model.proofs.algebra.VectorIdentities.{vol-first, vol-second, vol-third}
use Rattle.qh_model.proofs.{extremes.Directions.along_itself, extremes.Faces.extremes_of_face, hulls.SameSets.extreme_as, polygons.Direction.polygon_as}
use Rattle.qh_pred.specs.contract.Planes.{PlaneValue, height}
use Rattle.{qh_polygon.specs.contract.PlanarSets.IsPlanarSet, qh_places.specs.contract.Places.AreLevel}

-- the same ids in another order
pub level_as : (pts : List Vector) (ids : List ℕ) (plane : PlaneValue) (found level : List ℕ)
    → AreLevel pts ids plane found → ((l : ℕ) → In l level ↔ In l found) → AreLevel pts ids plane level
level_as pts ids plane found level h same = record {
  below = h.below;
  members = λ l. (λ m. (h.members l).0 ((same l).0 m), λ o. (same l).1 ((h.members l).1 o));
}

module _ (pts : List Vector) (ids : List ℕ) (plane : PlaneValue) (level : List ℕ) (h : AreLevel pts ids plane level)
    (i j k : ℕ) (told : (p : Vector) → height plane p ≡ vol (place pts i) (place pts j) (place pts k) p) where
  abbrev at : ℕ → Vector
  at = place pts

  supports : Supports at (Members ids) i j k
  supports l m = subst (λ v. v ≤ℤ pos 0) (told (at l)) (h.below l m)

  on : (l : ℕ) → Members level l ↔ OnPlane at (Members ids) i j k l
  on l =
      let there : In l level → OnPlane at (Members ids) i j k l = λ m. let o = (h.members l).0 m in (o.0, sym (told (at l)) ∙ o.1) in
      let back : OnPlane at (Members ids) i j k l → In l level = λ o. (h.members l).1 (o.0, told (at l) ∙ o.1) in
      (there, back)

  -- three members of the set are in their plane
  pub three_in : In i ids → In j ids → In k ids → In i level × In j level × In k level
  three_in mi mj mk = (
    (on i).1 (mi, vol-first (at i) (at j) (at k)),
    (on j).1 (mj, vol-second (at i) (at j) (at k)),
    (on k).1 (mk, vol-third (at i) (at j) (at k)),
  )

  module _ (area : ¬ (AreInLine (at i) (at j) (at k))) (mi : In i level) (mj : In j level) (mk : In k level) where
    pub triple : IsSupportingTriple at (Members ids) i j k
    triple = record { has_i = ((on i).0 mi).0; has_j = ((on j).0 mj).0; has_k = ((on k).0 mk).0; area = area; supports = supports }

    abbrev n : Vector
    n = cross (at i) (at j) (at k)

    pub face : IsStrictlyIncreasing level → HasDistinctPoints at (Members ids) → (q : List ℕ)
        → (IsPlanarSet pts level n → IsPolygon at (Extreme at (Members level)) n q) → IsFacePolygon at (Members ids) i j k q
    face rising distinct q polygon =
        polygon_as at (Extreme at (Members level)) (OnPlane at (Extreme at (Members ids)) i j k) n n q extreme (along_itself n) (polygon planar)
      where
        planar : IsPlanarSet pts level n
        planar = record {
          set = record { rising = rising; distinct = λ a b x y e. distinct a b ((on a).0 x).0 ((on b).0 y).0 e };
          i = i;
          j = j;
          k = k;
          has_i = mi;
          has_j = mj;
          has_k = mk;
          area = area;
          plane = λ l m. ((on l).0 m).1;
          normal = inl refl;
        }

        extreme : (l : ℕ) → Extreme at (Members level) l ↔ OnPlane at (Extreme at (Members ids)) i j k l
        extreme l =
            let law = extremes_of_face at ids i j k supports l in
            let alike = extreme_as at (Members level) (OnPlane at (Members ids) i j k) on l in
            (λ x. law.0 (alike.0 x), λ x. alike.1 (law.1 x))
