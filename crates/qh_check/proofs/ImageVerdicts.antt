-- The verdict on polygons of images is that on polygons of the points.
use Rattle.qh_check.specs.contract.{Claims.IsFaceFault, Naming.AreNamed, Naming.AreNamedFaces, Pieces.BeginsWith, Pieces.IsOfPlane, Pieces.IsPiece}
use Rattle.qh_check.specs.contract.Surfaces.{IsHullSurface, IsSurfaceReason, IsSurfaceVerdictOf}
use Rattle.qh_check.specs.declared.fault.FaceFault.{FaceFault, TheVariants.NoPlane, TheVariants.Above, TheVariants.OtherFace}
use Rattle.qh_check.specs.declared.verdict.SurfaceVerdict.{SurfaceVerdict, TheVariants.Right, TheVariants.OtherPolygons, TheVariants.NoPiece, TheVariants.Open}
use Rattle.qh_check.specs.{declared.verdict.SurfaceVerdict.TheVariants.Twice, steps.Corners.HaveCornersIn}
use Rattle.qh_lattice.proofs.Hulls.{Keeps, back, dimension, face, triple}
use Rattle.qh_lattice.{proofs.SameHulls.image_keeps, proofs.SameHulls.image_set, specs.contract.LatticeMaps.IsReduced}
use Rattle.qh_model.proofs.Common.{ℕ, ◌≡◌, arith, List, [], ◌∷◌, get_or, inl, inr, refl, sym, subst, ◌∙◌, get_or_default, AreIndices, IsIdSet, IsDimension}
use Rattle.qh_model.proofs.{Common.place, Common.In, Common.Members, Common.Vector, Members.In-get_or, Members.in_at, Members.to_contains}

-- ---- polygons of members
-- the corners of renamed polygons are ids
pub named_corners : (pts : List Vector) (ids : List ℕ) (named : List Vector) (faces qs : List (List ℕ)) → AreNamedFaces pts ids named faces qs
    → HaveCornersIn ids qs
named_corners pts ids named faces qs s q m i n =
    let c = to_contains qs q m in let at : get_or qs c.0 [] ≡ q = get_or_default qs c.0 [] q c.1 ∙ c.2 in
    let same = s.each c.0 (let e = s.count in omega (arith, e, c.1)) in let d = in_at q i n in
    let polygon = subst (λ (p : List ℕ). AreNamed pts ids named (get_or faces c.0 []) p) at same in
    subst (λ (k : ℕ). In k ids) d.2 (polygon.each d.0 (omega (arith, polygon.count, d.1))).1.0

module _ (at up : ℕ → Vector) (ids : List ℕ) (h : Keeps at up (Members ids)) where
  -- a polygon that goes round corners of the face of a plane
  of_plane : (i j k : ℕ) (q : List ℕ) → In i ids → In j ids → In k ids → IsOfPlane at (Members ids) i j k q → IsOfPlane up (Members ids) i j k q
  of_plane i j k q a b c p = let f = p.1 in (p.0, (f.0, face at up (Members ids) h i j k a b c f.0 f.1, f.2))

  -- a piece of a face
  piece : (q : List ℕ) → IsPiece at (Members ids) q → IsPiece up (Members ids) q
  piece q p = let t = p.3 in (p.0, p.1, p.2, triple at up (Members ids) h p.0 p.1 p.2 t, of_plane p.0 p.1 p.2 q t.has_i t.has_j t.has_k p.4)

  -- the surface of a solid
  pub same_surface : (qs : List (List ℕ)) → IsDimension at (Members ids) 3 → IsHullSurface at (Members ids) qs → IsHullSurface up (Members ids) qs
  same_surface qs d (inl (e, s)) = inl (
    dimension at up (Members ids) h 3 d,
    record { some = s.some; pieces = λ q m. piece q (s.pieces q m); closed = s.closed; once = s.once },
  )
  same_surface qs d (inr (n, p)) = absurd (n d)

-- the fault of a polygon of members
same_fault : (at up : ℕ → Vector) (ids : List ℕ) → Keeps at up (Members ids) → (q : List ℕ) → ((i : ℕ) → In i q → In i ids) → (f : FaceFault)
    → IsFaceFault at (Members ids) q f → IsFaceFault up (Members ids) q f
same_fault at up ids h q has NoPlane f = λ i j k b x y z. (h.line i j k x y z).1 (f i j k b x y z)
same_fault at up ids h q has (Above l) f =
    let b = f.3 in
    let same = h.volume f.0 f.1 f.2 l (corner b (inl refl)) (corner b (inr (inl refl))) (corner b (inr (inr (inl refl)))) f.4 in
    (f.0, f.1, f.2, b, f.4, same.above.0 f.5)
  where
    corner : (b : BeginsWith q f.0 f.1 f.2) {i : ℕ} → In i (f.0 ∷ f.1 ∷ f.2 ∷ b.0) → In i ids
    corner b {i} m = has i (subst (λ (p : List ℕ). In i p) (sym b.1) m)
same_fault at up ids h q has OtherFace f = let t = f.4 in (
  f.0,
  f.1,
  f.2,
  f.3,
  triple at up (Members ids) h f.0 f.1 f.2 t,
  λ o. f.5 (of_plane up at ids (back at up (Members ids) h) f.0 f.1 f.2 q t.has_i t.has_j t.has_k o),
)

-- the meaning of a verdict on polygons of members
same_reason : (at up : ℕ → Vector) (ids : List ℕ) → Keeps at up (Members ids) → (qs : List (List ℕ)) → IsDimension at (Members ids) 3
    → HaveCornersIn ids qs → (v : SurfaceVerdict) → IsSurfaceReason at (Members ids) qs v → IsSurfaceReason up (Members ids) qs v
same_reason at up ids h qs d has Right r = same_surface at up ids h qs d r
same_reason at up ids h qs d has OtherPolygons (inl n) = absurd (n d)
same_reason at up ids h qs d has OtherPolygons (inr e) = inr e
same_reason at up ids h qs d has (NoPiece n f) r = (r.0, same_fault at up ids h (get_or qs n []) (has (get_or qs n []) (In-get_or qs n [] r.0)) f r.1)
same_reason at up ids h qs d has (Open u v) r = r
same_reason at up ids h qs d has (Twice u v) r = r

-- the verdict on polygons of images
pub image_verdict : (pts : List Vector) (ids : List ℕ) (images : List Vector) (qs : List (List ℕ)) (v : SurfaceVerdict) → IsReduced pts ids images
    → AreIndices pts ids → HaveCornersIn ids qs → (IsIdSet images ids → IsSurfaceVerdictOf images ids qs v) → IsIdSet pts ids → IsSurfaceVerdictOf pts ids qs v
image_verdict pts ids images qs v r indices has tells set = record {
  right = (λ e. to (verdict.right.0 e), λ s. verdict.right.1 (same_surface (place pts) (place images) ids keep qs (r.solid set) s));
  reason = same_reason (place images) (place pts) ids turned qs solid has v verdict.reason;
}
  where
    keep : Keeps (place pts) (place images) (Members ids)
    keep = image_keeps pts images r.mapped ids indices

    turned : Keeps (place images) (place pts) (Members ids)
    turned = back (place pts) (place images) (Members ids) keep

    solid : IsDimension (place images) (Members ids) 3
    solid = dimension (place pts) (place images) (Members ids) keep 3 (r.solid set)

    verdict : IsSurfaceVerdictOf images ids qs v
    verdict = tells (image_set pts images r.mapped ids indices set)

    to : IsHullSurface (place images) (Members ids) qs → IsHullSurface (place pts) (Members ids) qs
    to s = same_surface (place images) (place pts) ids turned qs solid s
