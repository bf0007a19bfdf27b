-- The polygons of a set and those of its hull.
use Rattle.qh_model.proofs.Common.{ℕ, ◌≡◌, ◌≢◌, arith, refl, subst, inl, inr}
use Rattle.qh_model.proofs.Common.{List, ◌↔◌, Bool, true, false, IsTrue, IsIdSet, Vector, place, Members, IsDimension, BodyValue, IsBody, ArePolygons, AreFaces}
use Rattle.{qh_model.proofs.extremes.Dimensions.one_dimension, qh_model.proofs.hulls.Unique.one_polygon_list, qh_check.specs.contract.Claims.ArePolygonsOf}

-- ---- solid sets
module _ (pts : List Vector) (ids : List ℕ) (qs : List (List ℕ)) (set : IsIdSet pts ids)
    (solid : IsDimension (place pts) (Members ids) 3) where
  abbrev at : ℕ → Vector
  at = place pts

  -- the polygons of the set are its faces
  pub faces_of : ArePolygonsOf at (Members ids) qs → AreFaces at (Members ids) qs
  faces_of (dim, is, polygons) = go (one_dimension at (Members ids) dim 3 is solid) polygons
    where
      go : dim ≡ 3 → ArePolygons at (Members ids) dim qs → AreFaces at (Members ids) qs
      go e (inl p) = p.1
      go e (inr (inl p)) = absurd (let f : dim ≡ 2 = p.0 in omega (arith, e, f))
      go e (inr (inr (inl p))) = absurd (let f : dim ≡ 1 = p.0 in omega (arith, e, f))
      go e (inr (inr (inr p))) = absurd (let f : dim ≡ 0 = p.0 in omega (arith, e, f))

-- ---- sets whose hull is computed
module _ (at : ℕ → Vector) (A : ℕ → Type 0) (b : BodyValue) (body : IsBody at A b) (qs : List (List ℕ)) where
  pub same_polygons : b.polygons ≡ qs → ArePolygonsOf at A qs
  same_polygons e = (b.dim, body.dim, subst (ArePolygons at A b.dim) e body.polygons)

  pub other_polygons : b.polygons ≢ qs → ¬ (ArePolygonsOf at A qs)
  other_polygons n (dim, is, polygons) =
      n (one_polygon_list at A b.dim b.polygons qs body.dim body.polygons
      (subst (λ k. ArePolygons at A k qs) (one_dimension at A dim b.dim is body.dim) polygons))

  -- so the claimed polygons are those of the set exactly if they are the same
  pub same_or_others : (b' : Bool) → IsTrue b' ↔ (b.polygons ≡ qs) → IsTrue b' ↔ ArePolygonsOf at A qs
  same_or_others true h = (λ t. same_polygons (h.0 t), λ p. refl)
  same_or_others false h = (λ f. cc, λ p. absurd (other_polygons (λ e. (let f = h.1 e in cc)) p))
