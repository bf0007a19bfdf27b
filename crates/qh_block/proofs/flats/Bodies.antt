-- The hulls of a point and of a segment, from their one polygon.
use Rattle.{qh_polygon.proofs.ShapeDimension.segment, qh_block.specs.steps.FlatBodies.IsFlatBody, qh_block.specs.steps.Segments.IsFirstAlong}
use Rattle.qh_model.proofs.{extremes.ExtremeIds.greatest_is_extreme, Members.In-get_or, Members.in_at}
use Rattle.qh_block.proofs.flats.{Edges.no_edges, Edges.one_edge, Lines.ends_differ, Lines.two_ends}
use Rattle.qh_polygon.specs.contract.Shapes.{IsInLine, Each, AreFirstTwo}
use Rattle.qh_model.proofs.Common.{◌≡◌, ◌∙◌, ℕ, ◌<◌, [], ◌∷◌, List, length, get_or, sym, subst, ◌⊎◌, ⊎_elim, inl, inr, arith}
use Rattle.qh_model.proofs.Common.{refl, ◌↔◌, IsIdSet, IsDimension, Extreme, BodyValue, IsBody, ArePolygons, IsEdgeCount, place, In, Members, Vector, origin}

module _ (pts : List Vector) (ids : List ℕ) (b : BodyValue) where
  abbrev IsExtreme : ℕ → Type 0
  IsExtreme = Extreme (place pts) (Members ids)

  abbrev IsRight : Type 0
  IsRight = IsBody (place pts) (Members ids) b

  -- a body of one polygon is right if its dimension, the polygon, the polygon's members and its edges are right
  pub flat_is_body : (dim : ℕ) (q : List ℕ) (edges : ℕ) → IsFlatBody dim q edges b → IsDimension (place pts) (Members ids) dim
      → ((l : ℕ) → In l q ↔ IsExtreme l) → ArePolygons (place pts) (Members ids) dim (q ∷ []) → IsEdgeCount (q ∷ []) edges → IsRight
  flat_is_body dim q edges h d m p e = subst (IsBody (place pts) (Members ids)) (sym h.is) (record {
    dim = d;
    extremes = record { rising = h.rising; members = λ l. (λ i. (m l).0 ((h.members l).0 i), λ x. (h.members l).1 ((m l).1 x)) };
    polygons = p;
    edges = e;
  })

  -- ---- one id
  module _ (i : ℕ) (one : length ids ≡ 1) (is : get_or ids 0 0 ≡ i) where
    -- the id is a member, and the only one
    member : In i ids
    member = subst (λ v. In v ids) is (In-get_or ids 0 0 (omega (arith, one)))

    alone : (x : ℕ) → In x ids → x ≡ i
    alone x m = let r = in_at ids x m in sym r.2 ∙ rw (let z : r.0 ≡ 0 = omega (arith, r.1, one) in z) is

    -- the hull of one id
    pub point_is_body : IsDimension (place pts) (Members ids) 0 → IsFlatBody 0 (i ∷ []) 0 b → IsRight
    point_is_body d f =
        let extreme : IsExtreme i = greatest_is_extreme (place pts) ids origin i member (λ j o. absurd (o.1 (alone j o.0))) in
        flat_is_body 0 (i ∷ []) 0 f d (λ l. (λ m. ⊎_elim (λ e. rw e extreme) (λ n. absurd n) m, λ x. inl (alone l x.0)))
        (inr (inr (inr (refl, (i ∷ [], record { i = i; has_i = member; is = refl }, refl))))) (no_edges i)

  -- ---- two ids
  -- the hull of two ids, with the lower first
  of_ends : IsDimension (place pts) (Members ids) 1 → (u v : ℕ) → ((l : ℕ) → ((l ≡ u) ⊎ (l ≡ v)) ↔ IsExtreme l) → u < v
      → IsFlatBody 1 (u ∷ v ∷ []) 1 b → IsRight
  of_ends d u v same h f =
      flat_is_body 1 (u ∷ v ∷ []) 1 f d (λ l. (λ m. (same l).0 (grind (arith, m)), λ x. (grind (arith, (same l).1 x))))
      (inr (inr (inl (refl, (u ∷ v ∷ [], record { i = u; j = v; members = same; lower = h; is = refl }, refl))))) (one_edge u v h)

  -- the hull of the two ends, in either order
  pub segment_is_body : (i j e g : ℕ) (q : List ℕ) → AreFirstTwo ids i j → Each (IsInLine pts i j) ids → IsFirstAlong pts ids i j e
      → IsFirstAlong pts ids j i g → IsIdSet pts ids → ((e < g) × (q ≡ e ∷ g ∷ [])) ⊎ (¬ (e < g) × (q ≡ g ∷ e ∷ [])) → IsFlatBody 1 q 1 b → IsRight
  segment_is_body i j e g q two line first last set order f =
      let dim = segment pts ids i j two line set in let members = two_ends pts ids i j e g two line first last set in
      let differ = ends_differ pts ids i j e g two line first last set in
      ⊎_elim (λ h. of_ends dim e g members h.0 (subst (λ q. IsFlatBody 1 q 1 b) h.1 f))
      (λ h. of_ends dim g e (λ l. (λ m. (members l).0 (grind (arith, m)), λ x. (grind (arith, (members l).1 x))))
      (grind (arith, h.0, differ)) (subst (λ q. IsFlatBody 1 q 1 b) h.1 f)) order
