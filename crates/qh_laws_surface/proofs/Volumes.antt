-- A surface in pieces encloses the volume of the hull.
use Rattle.qh_model.proofs.Common.{◌≡◌, ℕ, arith, refl, sym, ap, subst, ◌∙◌, inl, inr, List, [], ◌∷◌, Bool, true, false, cond, cases_Bool, ints, filter, ℤ, pos}
use Rattle.qh_model.proofs.Common.{◌+ℤ◌, ◌*ℤ◌, Extreme, In, Once, Members, OnPlane, Vector, dot, cross, vol}
use Rattle.qh_model.specs.headline.Predicates.{left}
use Rattle.qh_model.proofs.{closed_surfaces.Sums.sum_z, polygons.PlaneTurns.level_volume, polygons.Steps.ordered_once, polygons.Unique.one_polygon}
use Rattle.qh_model.proofs.{extremes.Directions.square-positive, lists.Lexicographic.rising-ordered, algebra.Integers.mul_add, algebra.Integers.add_mul}
use Rattle.qh_model.proofs.lists.Filters.{of_filter}
use Rattle.qh_laws.proofs.ScaledPoints.{cancel-both}
use Rattle.qh_check.specs.contract.Surfaces.{IsFaceSurface}
use Rattle.qh_laws_surface.specs.contract.Measures.{lies_in, volume_along, cone_volume, cone_volumes}
use Rattle.qh_laws_surface.specs.laws.MeasureLaws.{VolumesAddUp}
use Rattle.qh_laws_surface.proofs.FanAreas.{turns_along, turns_of, swept, swept-odd, all_swept, round_swept}
use Rattle.qh_laws_surface.proofs.FaceWays.{goes_round_once}
use Rattle.qh_laws_surface.proofs.PlanePieces.{Begun, begun, PieceOf, piece_of, pieces_of, OverFace, on, lies_level, of_face, its_face}

added : {x y s t : ℤ} → x ≡ s → y ≡ t → x +ℤ y ≡ s +ℤ t
added p q = cc

-- ---- polygons of one plane
module _ (at : ℕ → Vector) (i j k : ℕ) (o : Vector) where
  abbrev n : Vector
  n = cross (at i) (at j) (at k)

  abbrev IsLevel : ℕ → Type 0
  IsLevel l = vol (at i) (at j) (at k) (at l) ≡ pos 0

  along_volume : (a u : ℕ) (r : List ℕ) → IsLevel a → ((l : ℕ) → In l (u ∷ r) → IsLevel l)
      → dot n n *ℤ volume_along at o a u r ≡ turns_along n at a u r *ℤ vol (at i) (at j) (at k) o
  along_volume a u [] ha h = omega (arith, ints)
  along_volume a u (w ∷ r) ha h =
      mul_add (dot n n) (vol (at a) (at u) (at w) o) (volume_along at o a w r)
      ∙ added (level_volume (at i) (at j) (at k) (at a) (at u) (at w) o ha (h u (inl refl)) (h w (inr (inl refl)))) (along_volume a w r ha (λ l m. h l (inr m)))
      ∙ sym (add_mul (left n (at a) (at u) (at w)) (turns_along n at a w r) (vol (at i) (at j) (at k) o))

  level_cone : (q : List ℕ) → ((l : ℕ) → In l q → IsLevel l) → dot n n *ℤ cone_volume at o q ≡ turns_of n at q *ℤ vol (at i) (at j) (at k) o
  level_cone [] h = omega (arith, ints)
  level_cone (a ∷ []) h = omega (arith, ints)
  level_cone (a ∷ u ∷ r) h = along_volume a u r (h a (inl refl)) (λ l m. h l (inr m))

  level_cones : (qs : List (List ℕ)) → ((q : List ℕ) → In q qs → (l : ℕ) → In l q → IsLevel l)
      → dot n n *ℤ cone_volumes at o qs ≡ sum_z (turns_of n at) qs *ℤ vol (at i) (at j) (at k) o
  level_cones [] h = omega (arith, ints)
  level_cones (q ∷ qs) h =
      mul_add (dot n n) (cone_volume at o q) (cone_volumes at o qs)
      ∙ added (level_cone q (h q (inl refl))) (level_cones qs (λ x m. h x (inr m)))
      ∙ sym (add_mul (turns_of n at q) (sum_z (turns_of n at) qs) (vol (at i) (at j) (at k) o))

-- ---- a sum over a list by parts
module _ (v : List ℕ → ℤ) (t : List ℕ → List ℕ → Bool) where
  -- the sum over the polygons that pass the test of F
  abbrev part_sum : List (List ℕ) → List ℕ → ℤ
  part_sum qs F = sum_z v (filter (t F) qs)

  abbrev passed : List ℕ → List ℕ → ℤ
  passed q F = cond (t F q) (v q) (pos 0)

  one_more : (q : List ℕ) (qs : List (List ℕ)) (F : List ℕ) → part_sum (q ∷ qs) F ≡ passed q F +ℤ part_sum qs F
  one_more q qs F = elim (cases_Bool (t F q)) [ inl e ↦ rw e refl | inr e ↦ rw e (omega (arith, ints)) ]

  all_more : (q : List ℕ) (qs Fs : List (List ℕ)) → sum_z (part_sum (q ∷ qs)) Fs ≡ sum_z (passed q) Fs +ℤ sum_z (part_sum qs) Fs
  all_more q qs [] = refl
  all_more q qs (F ∷ Fs) = omega (arith, ints, one_more q qs F, all_more q qs Fs)

  none_passes : (q : List ℕ) (Fs : List (List ℕ)) → ((F : List ℕ) → In F Fs → t F q ≡ false) → sum_z (passed q) Fs ≡ pos 0
  none_passes q [] h = refl
  none_passes q (F ∷ Fs) h = rw (h F (inl refl)) (let r = none_passes q Fs (λ x m. h x (inr m)) in omega (arith, ints, r))

  one_passes : (q : List ℕ) (Fs : List (List ℕ)) → Once Fs → (G : List ℕ) → In G Fs → t G q ≡ true → ((F : List ℕ) → In F Fs → t F q ≡ true → F ≡ G)
      → sum_z (passed q) Fs ≡ v q
  one_passes q [] o G m e u = absurd m
  one_passes q (F ∷ Fs) o G (inl g) e u =
      let own : t F q ≡ true = subst (λ x. t x q ≡ true) g e in
      let rest = none_passes q Fs (λ x m. elim (cases_Bool (t x q)) [
        | inl y ↦ absurd (o.0 (subst (λ z. In z Fs) (u x (inr m) y ∙ g) m))
        | inr y ↦ y
      ]) in
      rw own (omega (arith, ints, rest))
  one_passes q (F ∷ Fs) o G (inr m) e u = elim (cases_Bool (t F q)) [
    | inl y ↦ absurd (o.0 (subst (λ z. In z Fs) (sym (u F (inl refl) y)) m))
    | inr y ↦ rw y (let r = one_passes q Fs o.1 G m e (λ x h. u x (inr h)) in omega (arith, ints, r))
  ]

  by_parts : (qs Fs : List (List ℕ)) → Once Fs
      → ((q : List ℕ) → In q qs → (G : List ℕ) × In G Fs × (t G q ≡ true) × ((F : List ℕ) → In F Fs → t F q ≡ true → F ≡ G))
      → sum_z (part_sum qs) Fs ≡ sum_z v qs
  by_parts [] Fs o h = nothing Fs
    where
      nothing : (xs : List (List ℕ)) → sum_z (part_sum []) xs ≡ pos 0
      nothing [] = refl
      nothing (x ∷ xs) = omega (arith, ints, nothing xs)
  by_parts (q ∷ qs) Fs o h =
      let g = h q (inl refl) in
      all_more q qs Fs ∙ omega (arith, ints, one_passes q Fs o g.0 g.1 g.2 g.3, by_parts qs Fs o (λ x m. h x (inr m)))

cones_sum : (at : ℕ → Vector) (o : Vector) (qs : List (List ℕ)) → cone_volumes at o qs ≡ sum_z (cone_volume at o) qs
cones_sum at o [] = refl
cones_sum at o (q ∷ qs) = omega (arith, ints, cones_sum at o qs)

-- true if the polygon lies in the plane of the first three corners of the face
abbrev lies_by : (ℕ → Vector) → List ℕ → List ℕ → Bool
lies_by at (i ∷ j ∷ k ∷ r) q = lies_in at i j k q
lies_by at F q = false

-- ---- the pieces of a face
module _ {at : ℕ → Vector} {ids : List ℕ} {qs : List (List ℕ)} {i j k : ℕ} {F : List ℕ} (c : OverFace at ids qs i j k F)
    (surface : IsFaceSurface at (Members ids) qs) (o : Vector) where
  abbrev m : Vector
  m = cross (at i) (at j) (at k)

  face_turns : sum_z (turns_of m at) (filter (lies_in at i j k) qs) ≡ turns_of m at F
  face_turns =
      sym (all_swept m at i (filter (lies_in at i j k) qs)) ∙ goes_round_once c surface (swept m at i) (swept-odd m at i) ∙ round_swept m at i F

  face_cones : sum_z (cone_volume at o) (filter (lies_in at i j k) qs) ≡ cone_volume at o F
  face_cones =
      sym (cones_sum at o (filter (lies_in at i j k) qs)) ∙ cancel-both (dot m m) _ _ (square-positive m c.plane.area) (
      level_cones at i j k o (filter (lies_in at i j k) qs) (λ q h. lies_level at i j k q (of_filter (lies_in at i j k) qs q h).1)
      ∙ ap (λ z. z *ℤ vol (at i) (at j) (at k) o) face_turns ∙ sym (level_cone at i j k o F (on c)))

-- ---- all pieces
pub volumes_add_up : VolumesAddUp
volumes_add_up at ids qs faces d solid h are o =
    cones_sum at o qs ∙ sym (by_parts (cone_volume at o) (lies_by at) qs faces (ordered_once faces (rising-ordered faces are.rising)) own_face)
    ∙ own_cones faces (λ F m. m)
  where
    A : ℕ → Type 0
    A = Members ids

    surface : IsFaceSurface at A qs
    surface = pieces_of at ids qs solid h

    face_begun : (F : List ℕ) → In F faces → Begun at ids qs F
    face_begun F m = begun at ids qs d solid surface.pieces F (are.only F m)

    own_cones : (Fs : List (List ℕ)) → ((F : List ℕ) → In F Fs → In F faces)
        → sum_z (part_sum (cone_volume at o) (lies_by at) qs) Fs ≡ cone_volumes at o Fs
    own_cones [] h = refl
    own_cones (F ∷ Fs) h =
        let b = face_begun F (h F (inl refl)) in
        let one = ap (λ p. sum_z (cone_volume at o) (filter p qs)) (ap (lies_by at) b.is) ∙ face_cones b.over surface o ∙ ap (cone_volume at o) (sym b.is) in
        omega (arith, ints, one, own_cones Fs (λ x m. h x (inr m)))

    -- each piece lies in the plane of one face
    own_face : (q : List ℕ) → In q qs → (G : List ℕ) × In G faces × (lies_by at G q ≡ true) × ((F : List ℕ) → In F faces → lies_by at F q ≡ true → F ≡ G)
    own_face q m =
        let g = are.each p.i p.j p.k p.plane in
        let same = one_polygon at (OnPlane at (Extreme at A) p.i p.j p.k) (cross (at p.i) (at p.j) (at p.k)) g.0 p.face g.2 p.polygon in
        (g.0, g.1, lies g.0 same (face_begun g.0 g.1), λ F h e. alone F e (face_begun F h) ∙ sym same)
      where
        p : PieceOf at A q
        p = piece_of at A q (surface.pieces q m)

        lies : (G : List ℕ) → G ≡ p.face → Begun at ids qs G → lies_by at G q ≡ true
        lies G e b = ap (λ x. lies_by at x q) b.is ∙ of_face b.over p (sym b.is ∙ e)

        alone : (F : List ℕ) → lies_by at F q ≡ true → Begun at ids qs F → F ≡ p.face
        alone F e b = b.is ∙ its_face b.over p (ap (λ x. lies_by at x q) (sym b.is) ∙ e)
