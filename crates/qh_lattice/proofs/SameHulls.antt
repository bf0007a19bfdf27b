-- The points of a solid and their images have the same ids and the same hulls.
use Rattle.qh_model.proofs.Common.{◌≡◌, ℕ, ◌<◌, List, All, length, sym, ap, subst, ◌∙◌, arith, AreDistinctIds}
use Rattle.qh_model.proofs.Common.{IsDistinctId, BodyValue, HullValue, IsBody, IsHull, place, In, Members, Vector, AreIndices, HasDistinctPoints, IsIdSet}
use Rattle.qh_model.proofs.DistinctIds.{distinct_apart, ids_within}
use Rattle.qh_model.proofs.{extremes.Dimensions.one_dimension, hulls.Unique.distinct_ids_are_unique, Members.All-In}
use Rattle.qh_lattice.specs.contract.LatticeMaps.{IsMapped, IsReduced, determinant, moved}
use Rattle.qh_lattice.proofs.{Images.moved_apart, Images.positive_nonzero, Hulls.Keeps, Hulls.back, Hulls.body, Hulls.dimension, Hulls.keeps}

module _ (pts images : List Vector) (m : IsMapped pts images) where
  -- images are equal if the points are
  image_apart : (i j : ℕ) → i < length pts → j < length pts → place images i ≡ place images j → place pts i ≡ place pts j
  image_apart i j l k e = moved_apart m.matrix (positive_nonzero (determinant m.matrix) m.oriented) m.shift (place pts i) (place pts j)
      (sym (m.each.each i l) ∙ e ∙ m.each.each j k)

  -- a distinct id of the points is a distinct id of the images
  distinct_to : (i : ℕ) → IsDistinctId pts i → IsDistinctId images i
  distinct_to i d = (subst (λ n. i < n) (sym m.each.count) d.0, λ j l e. d.1 j l (image_apart j i (omega (arith, l, d.0)) d.0 e))

  -- the converse
  distinct_back : (i : ℕ) → IsDistinctId images i → IsDistinctId pts i
  distinct_back i d = (
    within,
    λ j l e. d.1 j l (m.each.each j (omega (arith, l, within)) ∙ ap (moved m.matrix m.shift) e ∙ sym (m.each.each i within)),
  )
    where
      within : i < length pts
      within = subst (λ n. i < n) m.each.count d.0

  -- the distinct ids of the points are those of the images
  pub image_distinct : (ids : List ℕ) → AreDistinctIds pts ids → AreDistinctIds images ids
  image_distinct ids d = record {
    rising = d.rising;
    members = λ i. (λ q. distinct_to i ((d.members i).0 q), λ q. (d.members i).1 (distinct_back i q));
  }

  -- indices of the points are indices of the images
  pub image_indices : (ids : List ℕ) → AreIndices pts ids → AreIndices images ids
  image_indices ids h = subst (λ n. All (λ i. i < n) ids) (sym m.each.count) h

  -- ids with distinct points have distinct images
  pub image_set : (ids : List ℕ) → AreIndices pts ids → IsIdSet pts ids → IsIdSet images ids
  image_set ids h d = record { rising = d.rising; distinct = apart }
    where
      apart : HasDistinctPoints (place images) (λ i. In i ids)
      apart i j a b e = d.distinct i j a b (image_apart i j (All-In (λ k. k < length pts) ids i h a) (All-In (λ k. k < length pts) ids j h b) e)

  -- the properties on which a hull depends are the same
  pub image_keeps : (ids : List ℕ) → AreIndices pts ids → Keeps (place pts) (place images) (Members ids)
  image_keeps ids h = keeps m.matrix m.oriented m.shift (place pts) (place images) (Members ids)
      (λ i a. m.each.each i (All-In (λ k. k < length pts) ids i h a))

-- the hull of the images is that of the points
pub image_body : (pts : List Vector) (ids : List ℕ) (images : List Vector) (b : BodyValue) → IsReduced pts ids images → AreIndices pts ids → IsIdSet pts ids
    → IsBody (place images) (Members ids) b → IsBody (place pts) (Members ids) b
image_body pts ids images b r h d is =
    body (place images) (place pts) (Members ids) keep b (λ e. omega (arith, solid, e)) is
  where
    keep : Keeps (place images) (place pts) (Members ids)
    keep = back (place pts) (place images) (Members ids) (image_keeps pts images r.mapped ids h)

    solid : b.dim ≡ 3
    solid = one_dimension (place pts) (Members ids) b.dim 3 (dimension (place images) (place pts) (Members ids) keep b.dim is.dim) (r.solid d)

-- the hull of the list of images is that of the list of points
pub image_hull : (pts : List Vector) (ids : List ℕ) (images : List Vector) (h : HullValue) → IsReduced pts ids images → AreDistinctIds pts ids
    → IsHull images h → IsHull pts h
image_hull pts ids images h r d is = record {
  ids = ids;
  distinct_ids = d;
  given = is.given ∙ r.mapped.each.count;
  distinct = is.distinct ∙ ap length same;
  body = image_body pts ids images h.body r (ids_within pts ids d) (record { rising = d.rising; distinct = distinct_apart pts ids d })
      (subst (λ xs. IsBody (place images) (Members xs) h.body) same is.body);
}
  where
    same : is.ids ≡ ids
    same = distinct_ids_are_unique images is.ids ids is.distinct_ids (image_distinct pts images r.mapped ids d)
