-- A verdict is `RIGHT` exactly if the faces are the surface of the hull.
use Rattle.qconvex_c.specs.contract.{Checked.AreFacesIn, Checked.AreHullFaces, Checked.IsVerdictOn, Checked.verdict_of, Codes.QCONVEX_RIGHT}
use Rattle.{qconvex_c.specs.declared.verdict.Verdict.Verdict, qh_check.specs.contract.Judging.IsJudgement}
use Rattle.qh_check.specs.contract.{Judging.IsTold, Judging.IsStrangeFace, Naming.AreNamed, Naming.AreNamedFaces, Naming.IsNamed, Surfaces.IsHullSurface}
use Rattle.qh_check.specs.declared.fault.FaceFault.TheVariants.{NoPlane, Above, OtherFace}
use Rattle.qh_check.specs.declared.judgement.Judgement.{Judgement, TheVariants.Told, TheVariants.Stranger}
use Rattle.qh_check.specs.declared.verdict.SurfaceVerdict.TheVariants.{Right, OtherPolygons, NoPiece, Open, Twice}
use Rattle.qh_model.proofs.Common.{◌≡◌, ◌↔◌, ◌∙◌, ℕ, ◌<◌, List, [], length, get_or, arith, refl, ap, sym, subst, HasDistinctPoints, AreDistinctIds, place}
use Rattle.qh_model.proofs.{Common.Members, Common.Vector, DistinctIds.distinct_apart, Members.in_at, hulls.Unique.distinct_ids_are_unique}
use Rattle.std.proofs.lemmas.List.{ext_get_or}

-- the faces in a list of corners are unique
one_cut : (offsets corners : List ℕ) (fs gs : List (List ℕ)) → AreFacesIn offsets corners fs → AreFacesIn offsets corners gs → fs ≡ gs
one_cut offsets corners fs gs a b =
    let count = a.count in
    ext_get_or [] fs gs (a.count ∙ sym b.count) (λ j l. a.each j (omega (arith, l, count)) ∙ sym (b.each j (omega (arith, l, count))))

module _ (pts : List Vector) (ids : List ℕ) (named : List Vector) (apart : HasDistinctPoints (place pts) (Members ids)) where
  -- a number names only one id
  one_id : (number i j : ℕ) → IsNamed pts ids named number i → IsNamed pts ids named number j → i ≡ j
  one_id number i j (l, (m, e)) (l', (n, f)) = apart i j m n (e ∙ sym f)

  -- a face names only one polygon
  one_named : (numbers q r : List ℕ) → AreNamed pts ids named numbers q → AreNamed pts ids named numbers r → q ≡ r
  one_named numbers q r a b =
      ext_get_or 0 q r (a.count ∙ sym b.count) (λ k l. (let below : k < length numbers = omega (arith, l, a.count) in
      one_id (get_or numbers k 0) (get_or q k 0) (get_or r k 0) (a.each k below) (b.each k below)))

  -- faces name only one list of polygons
  pub one_list : (faces qs rs : List (List ℕ)) → AreNamedFaces pts ids named faces qs → AreNamedFaces pts ids named faces rs → qs ≡ rs
  one_list faces qs rs a b =
      ext_get_or [] qs rs (a.count ∙ sym b.count) (λ k l. (let below : k < length faces = omega (arith, l, a.count) in
      one_named (get_or faces k []) (get_or qs k []) (get_or rs k []) (a.each k below) (b.each k below)))

-- faces with a stranger name no polygons
no_stranger : (pts : List Vector) (ids : List ℕ) (named : List Vector) (faces qs : List (List ℕ)) (n : ℕ)
    → AreDistinctIds pts ids → AreNamedFaces pts ids named faces qs → IsStrangeFace pts named faces n → ⊥
no_stranger pts ids named faces qs n d a s =
    let (number, m, strange) = s.stranger in let (k, l, at) = in_at (get_or faces n []) number m in
    let (low, (there, e)) = (a.each n s.there).each k l in
    strange (subst (λ x. x < length named) at low) (get_or (get_or qs n []) k 0)
    (subst (λ xs. Members xs (get_or (get_or qs n []) k 0)) (sym (distinct_ids_are_unique pts s.ids ids s.distinct d)) there) (e ∙ ap (place named) at)

-- only `Right` has the kind `QCONVEX_RIGHT`
right_kind : (j : Judgement) → (verdict_of j).kind ≡ QCONVEX_RIGHT → j ≡ Told Right
right_kind (Told Right) e = refl
right_kind (Told OtherPolygons) e = absurd (omega (arith, e))
right_kind (Told (NoPiece n NoPlane)) e = absurd (omega (arith, e))
right_kind (Told (NoPiece n (Above l))) e = absurd (omega (arith, e))
right_kind (Told (NoPiece n OtherFace)) e = absurd (omega (arith, e))
right_kind (Told (Open u v)) e = absurd (omega (arith, e))
right_kind (Told (Twice u v)) e = absurd (omega (arith, e))
right_kind (Stranger n) e = absurd (omega (arith, e))

module _ (pts : List Vector) (offsets corners : List ℕ) (v : Verdict) (is : IsVerdictOn pts offsets corners v) where
  -- faces that are judged right are the surface
  told_right : IsTold pts pts is.faces Right → AreHullFaces pts offsets corners
  told_right t = record {
    faces = is.faces;
    cut = is.cut;
    ids = t.ids;
    distinct = t.distinct;
    polygons = t.polygons;
    named = t.same;
    surface = t.right.0 refl;
  }

  -- the surface has no other judgement
  right_told : AreHullFaces pts offsets corners → (j : Judgement) → IsJudgement pts pts is.faces j → j ≡ Told Right
  right_told h (Stranger n) s =
      absurd (no_stranger pts h.ids pts is.faces h.polygons n h.distinct
      (subst (λ fs. AreNamedFaces pts h.ids pts fs h.polygons) (one_cut offsets corners h.faces is.faces h.cut is.cut) h.named) s)
  right_told h (Told w) t =
      let ids = distinct_ids_are_unique pts h.ids t.ids h.distinct t.distinct in
      let faces = one_cut offsets corners h.faces is.faces h.cut is.cut in
      let named : AreNamedFaces pts t.ids pts is.faces h.polygons =
      subst (λ xs. AreNamedFaces pts xs pts is.faces h.polygons) ids (subst (λ fs. AreNamedFaces pts h.ids pts fs h.polygons) faces h.named) in
      let polygons = one_list pts t.ids pts (distinct_apart pts t.ids t.distinct) is.faces h.polygons t.polygons named t.same in
      ap Told (t.right.1 (rw polygons at (subst (λ xs. IsHullSurface (place pts) (Members xs) h.polygons) ids h.surface)))

  pub right_verdict : (v.kind ≡ QCONVEX_RIGHT) ↔ AreHullFaces pts offsets corners
  right_verdict = (
    λ e. (let right = right_kind is.judgement (sym (ap (λ w. w.kind) is.said) ∙ e) in
        told_right (subst (λ j. IsJudgement pts pts is.faces j) right is.judged)),
    λ h. ap (λ w. w.kind) is.said ∙ ap (λ j. (verdict_of j).kind) (right_told h is.judgement is.judged),
  )
