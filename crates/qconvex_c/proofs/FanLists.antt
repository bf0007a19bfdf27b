-- The lists of fans: made face by face they equal those of all triangles, and each has three numbers for each triangle.
use Rattle.qh_model.proofs.Common.{ℕ, ℤ, ◌≡◌, ◌*◌, ◌/◌, ◌<◌, List, [], ◌∷◌, ◌++◌, length, slice_index_or, take, drop, arith, ap, sym, subst, refl}
use Rattle.qh_model.proofs.Common.{◌∙◌, ◌⊎◌, inl, inr, flat_map-append, append_assoc, length-append, All, flat_map, IsBodyInOrder, face_triangles, AreIndices}
use Rattle.qh_model.proofs.{Common.triangles_along, Common.HullValue, Common.IsHull, Common.place, Common.Vector, Members.All-of, Members.All-In}
use Rattle.qconvex_c.specs.{contract.Flat.corners_of, steps.FaceFans.face_corners, steps.FaceFans.face_normals}
use Rattle.qconvex_c.specs.contract.Triangles.{triangles_of, normal_of, AreFans, NeedsFanRoom}

-- the corners of faces are the faces, one after the other
corners_are : (qs : List (List ℕ)) → corners_of qs ≡ flat_map (λ q. q) qs
corners_are [] = refl
corners_are (q ∷ qs) = ap (λ t. q ++ t) (corners_are qs)

-- the corners of two lists of faces
corners_of-append : (xs ys : List (List ℕ)) → corners_of (xs ++ ys) ≡ corners_of xs ++ corners_of ys
corners_of-append [] ys = refl
corners_of-append (x ∷ xs) ys = ap (λ t. x ++ t) (corners_of-append xs ys) ∙ sym (append_assoc x (corners_of xs) (corners_of ys))

-- the corners of the triangles of all faces
pub corners_by_face : (qs : List (List ℕ)) → flat_map face_corners qs ≡ corners_of (triangles_of qs)
corners_by_face [] = refl
corners_by_face (q ∷ qs) = ap (λ t. face_corners q ++ t) (corners_by_face qs) ∙ sym (corners_of-append (face_triangles q) (triangles_of qs))

-- the normals of the triangles of all faces
pub normals_by_face : (at : ℕ → Vector) (qs : List (List ℕ)) → flat_map (face_normals at) qs ≡ flat_map (normal_of at) (triangles_of qs)
normals_by_face at [] = refl
normals_by_face at (q ∷ qs) = ap (λ t. face_normals at q ++ t) (normals_by_face at qs)
    ∙ sym (flat_map-append (normal_of at) (face_triangles q) (triangles_of qs))

-- a list of length three is the list of its elements
pub three_of : (t : List ℕ) (a b c : ℕ) → length t ≡ 3 → t ≡ slice_index_or t 0 a ∷ slice_index_or t 1 b ∷ slice_index_or t 2 c ∷ []
three_of [] a b c e = absurd (omega arith)
three_of (u ∷ []) a b c e = absurd (omega arith)
three_of (u ∷ v ∷ []) a b c e = absurd (omega arith)
three_of (u ∷ v ∷ w ∷ []) a b c e = refl
three_of (u ∷ v ∷ w ∷ x ∷ r) a b c e = absurd (omega arith)

-- a list with three elements for each triangle is three times as long as that of the triangles
module _ {X : Type 0} (f : List ℕ → List X) (three : (u v w : ℕ) → length (f (u ∷ v ∷ w ∷ [])) ≡ 3) where
  length-along : (first u : ℕ) (r : List ℕ) → length (flat_map f (triangles_along first u r)) ≡ 3 * length (triangles_along first u r)
  length-along first u [] = refl
  length-along first u (v ∷ r) =
      let all = length-append (f (first ∷ u ∷ v ∷ [])) (flat_map f (triangles_along first v r)) in
      omega (arith, all, three first u v, length-along first v r)

  length-face : (q : List ℕ) → length (flat_map f (face_triangles q)) ≡ 3 * length (face_triangles q)
  length-face [] = refl
  length-face (a ∷ []) = refl
  length-face (a ∷ b ∷ r) = length-along a b r

  length-faces : (qs : List (List ℕ)) → length (flat_map f (triangles_of qs)) ≡ 3 * length (triangles_of qs)
  length-faces [] = refl
  length-faces (q ∷ qs) =
      let all = length-append (flat_map f (face_triangles q)) (flat_map f (triangles_of qs)) in let face = length-face q in
      let rest = length-faces qs in
      omega (arith, ap length (flat_map-append f (face_triangles q) (triangles_of qs)), all, length-append (face_triangles q) (triangles_of qs), face, rest)

-- the length of the list of their corners
length-corners : (qs : List (List ℕ)) → length (corners_of (triangles_of qs)) ≡ 3 * length (triangles_of qs)
length-corners qs = ap length (corners_are (triangles_of qs)) ∙ length-faces (λ t. t) (λ u v w. refl) qs

-- the length of the list of their normals
length-normals : (at : ℕ → Vector) (qs : List (List ℕ)) → length (flat_map (normal_of at) (triangles_of qs)) ≡ 3 * length (triangles_of qs)
length-normals at qs = length-faces (normal_of at) (λ u v w. refl) qs

-- a third of three times a number
pub third : (m n k : ℕ) → m ≡ 3 * n → k ≡ m / 3 → k ≡ n
third m n k e f = omega (arith, e, f)

-- faces that name only extreme ids name only indices of points
pub faces_within : (pts : List Vector) (extremes : List ℕ) (qs : List (List ℕ)) → AreIndices pts extremes → IsBodyInOrder extremes qs → All (AreIndices pts) qs
faces_within pts extremes qs within order =
    All-of (AreIndices pts) qs (λ q m. All-of (λ i. i < length pts) q (λ i n. All-In (λ k. k < length pts) extremes i within (order.named q m i n)))

-- the extreme ids of a hull are indices of points
pub extremes_within : (pts : List Vector) (h : HullValue) → IsHull pts h → AreIndices pts h.body.extremes
extremes_within pts h is = All-of (λ i. i < length pts) h.body.extremes (λ i m. ((is.distinct_ids.members i).0 ((is.body.extremes.members i).0 m).0).0)

-- the lists of the faces of a hull
pub fans_made : (pts : List Vector) (h : HullValue) (len : ℕ) (ts : List ℕ) (ns : List ℤ) → IsHull pts h
    → ts ≡ flat_map face_corners h.body.polygons → ns ≡ flat_map (face_normals (place pts)) h.body.polygons → len ≡ length ts → AreFans pts (len / 3) ts ns
fans_made pts h len ts ns is t n e = record {
  hull = h;
  right = is;
  counted = let a = ap length (t ∙ corners_by_face h.body.polygons) in
      third (length ts) (length (triangles_of h.body.polygons)) (len / 3) (omega (arith, a, length-corners h.body.polygons)) (ap (λ k. k / 3) e);
  triangle_corners = t ∙ corners_by_face h.body.polygons;
  triangle_normals = n ∙ normals_by_face (place pts) h.body.polygons;
}

module _ (pts : List Vector) (count : ℕ) (ts : List ℕ) (ns : List ℤ) (f : AreFans pts count ts ns) where
  pub triangles_len : length ts ≡ 3 * count
  triangles_len = omega (arith, ap length f.triangle_corners, length-corners f.hull.body.polygons, f.counted)

  pub normals_len : length ns ≡ 3 * count
  normals_len = omega (arith, ap length f.triangle_normals, length-normals (place pts) f.hull.body.polygons, f.counted)

  -- buffers that begin with the lists
  pub fans_filled : (tb : List ℕ) (nb : List ℤ) → take (length ts) tb ≡ ts → take (length ns) nb ≡ ns
      → AreFans pts count (take (3 * count) tb) (take (3 * count) nb)
  fans_filled tb nb t n = record {
    hull = f.hull;
    right = f.right;
    counted = f.counted;
    triangle_corners = ap (λ k. take k tb) (sym triangles_len) ∙ t ∙ f.triangle_corners;
    triangle_normals = ap (λ k. take k nb) (sym normals_len) ∙ n ∙ f.triangle_normals;
  }

  -- the elements after them
  pub fans_rest : (tb tb' : List ℕ) (nb nb' : List ℤ) → (drop (length ts) tb' ≡ drop (length ts) tb) × (drop (length ns) nb' ≡ drop (length ns) nb)
      → (drop (3 * count) tb' ≡ drop (3 * count) tb) × (drop (3 * count) nb' ≡ drop (3 * count) nb)
  fans_rest tb tb' nb nb' (t, n) = (subst (λ k. drop k tb' ≡ drop k tb) triangles_len t, subst (λ k. drop k nb' ≡ drop k nb) normals_len n)

  -- buffers that are too short
  pub fans_short : (tb : List ℕ) (nb : List ℤ) → (length tb < length ts) ⊎ (length nb < length ns) → NeedsFanRoom pts count tb nb
  fans_short tb nb h = record { all_triangles = ts; all_normals = ns; fans = f; short = short h }
    where
      short : (length tb < length ts) ⊎ (length nb < length ns) → (length tb < 3 * count) ⊎ (length nb < 3 * count)
      short (inl h) = inl (subst (λ k. length tb < k) triangles_len h)
      short (inr h) = inr (subst (λ k. length nb < k) normals_len h)
