-- Pieces of faces: each three of their corners turn left, their steps are steps of their faces, and some lie in the plane of one face.
use Rattle.qh_model.proofs.Common.{◌≡◌, ◌≢◌, ℕ, refl, sym, subst, inl, inr, List, ◌∷◌, ◌≤◌, arith, [], Bool, true, cases_Bool, and_parts, Decides-int_eq}
use Rattle.qh_model.proofs.Common.{flat_map, list_all, int_eq, filter, pos, IsFace, steps_round, HasDistinctPoints, IsDimension, Follows, IsFacePolygon, cross}
use Rattle.qh_model.proofs.Common.{vol, In, Members, IsSupportingTriple, Vector}
use Rattle.qh_model.proofs.{Decisions.Decided, lists.Filters.of_filter, lists.Joined.of_flat_map, polygons.Neighbours.follows_members, polygons.Steps.on_round}
use Rattle.qh_check.specs.contract.{Pieces.BeginsWith, Pieces.IsMetRound, Pieces.IsPiece, Surfaces.IsFaceSurface, Surfaces.IsHullSurface}
use Rattle.qh_check.proofs.{FirstCorners.some_corners, FirstCorners.HasFace, MetBehind.round_has}
use Rattle.qh_laws_surface.specs.contract.Measures.{lies_in}
use Rattle.qh_laws_surface.proofs.{HullSurface.face_piece, StepCounts.times, StepCounts.times-more, StepCounts.Has, StepCounts.Beside, StepCounts.not_taken}
use Rattle.qh_laws_surface.proofs.ConvexLists.{AllTurn, met_turns, side_left, third_corner, IsTurn, turned, no_back, first_two, not_first, not_second}
use Rattle.qh_laws_surface.proofs.SharedCorners.{shared_step, same_face, same_list, neighbours}

-- a piece with its face
pub record PieceOf (at : ℕ → Vector) (A : ℕ → Type 0) (q : List ℕ) : Type 0 where
  pub i : ℕ
  pub j : ℕ
  pub k : ℕ
  pub rest : List ℕ
  pub is : q ≡ i ∷ j ∷ k ∷ rest
  pub plane : IsSupportingTriple at A i j k
  pub face : List ℕ
  pub polygon : IsFacePolygon at A i j k face
  pub met : IsMetRound q face

pub piece_of : (at : ℕ → Vector) (A : ℕ → Type 0) (q : List ℕ) → IsPiece at A q → PieceOf at A q
piece_of at A q (i, j, k, plane, ((rest, e), (face, polygon, met))) =
    record { i = i; j = j; k = k; rest = rest; is = e; plane = plane; face = face; polygon = polygon; met = met }

-- the pieces of a surface of a solid
pub pieces_of : (at : ℕ → Vector) (ids : List ℕ) (qs : List (List ℕ)) → IsDimension at (Members ids) 3 → IsHullSurface at (Members ids) qs
    → IsFaceSurface at (Members ids) qs
pieces_of at ids qs solid (inl h) = h.1
pieces_of at ids qs solid (inr h) = absurd (h.0 solid)

module _ {at : ℕ → Vector} {A : ℕ → Type 0} {q : List ℕ} (p : PieceOf at A q) where
  abbrev pub normal : Vector
  normal = cross (at p.i) (at p.j) (at p.k)

  pub piece_turns : AllTurn normal at q
  piece_turns = met_turns normal at p.polygon q p.met

  pub in_face : (x : ℕ) → In x q → In x p.face
  in_face x m = round_has q p.face p.met x m

  pub has_i : In p.i q
  has_i = subst (In p.i) (sym p.is) (inl refl)

  pub has_j : In p.j q
  has_j = subst (In p.j) (sym p.is) (inr (inl refl))

  pub has_k : In p.k q
  has_k = subst (In p.k) (sym p.is) (inr (inr (inl refl)))

  -- some corner differs from two ids
  pub third : (x y : ℕ) → (w : ℕ) × In w q × (w ≢ x) × (w ≢ y)
  third x y = subst (λ s. (w : ℕ) × In w s × (w ≢ x) × (w ≢ y)) (sym p.is)
      (third_corner normal at p.i p.j p.k p.rest (subst (AllTurn normal at) p.is piece_turns) x y)

  -- a side of the piece is a step of the face
  pub side_turn : (x y : ℕ) → Follows x y q → IsTurn normal at p.face x y
  side_turn x y f = let m = follows_members x y q f in let w = third x y in record {
    has_u = in_face x m.0;
    has_v = in_face y m.1;
    w = w.0;
    has_w = in_face w.0 w.1;
    turns = side_left normal at q piece_turns x y f w.0 w.1 w.2 w.3;
  }

-- ---- lists in which each member passes
pub all_pass : {X : Type 0} (p : X → Bool) (xs : List X) → list_all p xs ≡ true → (x : X) → In x xs → p x ≡ true
all_pass p [] e x m = absurd m
all_pass p (y ∷ ys) e x (inl h) = rw h (and_parts (p y) (list_all p ys) e).0
all_pass p (y ∷ ys) e x (inr m) = all_pass p ys (and_parts (p y) (list_all p ys) e).1 x m

pub pass_all : {X : Type 0} (p : X → Bool) (xs : List X) → ((x : X) → In x xs → p x ≡ true) → list_all p xs ≡ true
pass_all p [] h = refl
pass_all p (y ∷ ys) h = rw (h y (inl refl), pass_all p ys (λ x m. h x (inr m))) refl

pub all_alike : {X : Type 0} (g h : X → Bool) (xs : List X) → ((x : X) → In x xs → g x ≡ h x) → list_all g xs ≡ list_all h xs
all_alike g h [] e = refl
all_alike g h (x ∷ xs) e = rw (e x (inl refl), all_alike g h xs (λ y m. e y (inr m))) refl

pub lies_level : (at : ℕ → Vector) (i j k : ℕ) (q : List ℕ) → lies_in at i j k q ≡ true → (l : ℕ) → In l q → vol (at i) (at j) (at k) (at l) ≡ pos 0
lies_level at i j k q e l m =
    (Decides-int_eq (vol (at i) (at j) (at k) (at l)) (pos 0)).0 (all_pass (λ l. int_eq (vol (at i) (at j) (at k) (at l)) (pos 0)) q e l m)

-- ---- the steps of the polygons that pass
module _ (p : List ℕ → Bool) where
  pub kept_at_most : (u v : ℕ) (qs : List (List ℕ)) → times u v (flat_map steps_round (filter p qs)) ≤ times u v (flat_map steps_round qs)
  kept_at_most u v [] = omega arith
  kept_at_most u v (q ∷ qs) = let r = kept_at_most u v qs in elim (cases_Bool (p q)) [
    | inl t ↦ rw t (omega (arith, r, times-more u v q qs, times-more u v q (filter p qs)))
    | inr f ↦ rw f (omega (arith, r, times-more u v q qs))
  ]

  pub kept_alike : (u v : ℕ) (qs : List (List ℕ)) → ((q : List ℕ) → In q qs → Follows u v q → p q ≡ true)
      → times u v (flat_map steps_round (filter p qs)) ≡ times u v (flat_map steps_round qs)
  kept_alike u v [] h = refl
  kept_alike u v (q ∷ qs) h = let r = kept_alike u v qs (λ x m. h x (inr m)) in elim (cases_Bool (p q)) [
    | inl t ↦ rw t (omega (arith, r, times-more u v q qs, times-more u v q (filter p qs)))
    | inr f ↦ rw f (let z = not_taken u v q (λ g. let t = h q (inl refl) g in cc) in omega (arith, r, z, times-more u v q qs))
  ]

-- ---- pieces of faces of a solid, and one face
pub record OverFace (at : ℕ → Vector) (ids : List ℕ) (qs : List (List ℕ)) (i j k : ℕ) (F : List ℕ) : Type 0 where
  pub distinct : HasDistinctPoints at (Members ids)
  pub solid : IsDimension at (Members ids) 3
  pub are : (q : List ℕ) → In q qs → IsPiece at (Members ids) q
  pub plane : IsSupportingTriple at (Members ids) i j k
  pub polygon : IsFacePolygon at (Members ids) i j k F

-- a face that begins with its first corners
pub record Begun (at : ℕ → Vector) (ids : List ℕ) (qs : List (List ℕ)) (face : List ℕ) : Type 0 where
  pub i : ℕ
  pub j : ℕ
  pub k : ℕ
  pub r : List ℕ
  pub is : face ≡ i ∷ j ∷ k ∷ r
  pub over : OverFace at ids qs i j k (i ∷ j ∷ k ∷ r)

pub begun : (at : ℕ → Vector) (ids : List ℕ) (qs : List (List ℕ)) → HasDistinctPoints at (Members ids) → IsDimension at (Members ids) 3
    → ((q : List ℕ) → In q qs → IsPiece at (Members ids) q) → (face : List ℕ) → IsFace at (Members ids) face → Begun at ids qs face
begun at ids qs d solid are face is = by (some_corners at ids d face is)
  where
    by : (i j k : ℕ) × BeginsWith face i j k × HasFace at (Members ids) face i j k → Begun at ids qs face
    by (i, j, k, (r, e), (plane, f)) =
        let p = subst (IsFacePolygon at (Members ids) i j k) e f in
        let o : OverFace at ids qs i j k (i ∷ j ∷ k ∷ r) = record { distinct = d; solid = solid; are = are; plane = plane; polygon = p } in
        record { i = i; j = j; k = k; r = r; is = e; over = o }

module _ {at : ℕ → Vector} {ids : List ℕ} {qs : List (List ℕ)} {i j k : ℕ} {F : List ℕ} (c : OverFace at ids qs i j k F) where
  abbrev A : ℕ → Type 0
  A = Members ids

  abbrev n : Vector
  n = cross (at i) (at j) (at k)

  abbrev pub parts : List (List ℕ)
  parts = filter (lies_in at i j k) qs

  abbrev pub es : List (ℕ × ℕ)
  es = flat_map steps_round parts

  abbrev pub piece : (q : List ℕ) → In q qs → PieceOf at A q
  piece q m = piece_of at A q (c.are q m)

  pub on : (l : ℕ) → In l F → vol (at i) (at j) (at k) (at l) ≡ pos 0
  on l m = ((c.polygon.members l).0 m).1

  -- a polygon whose corners are corners of the face lies in its plane
  pub of_corners : (q : List ℕ) → ((l : ℕ) → In l q → In l F) → lies_in at i j k q ≡ true
  of_corners q h = pass_all (λ l. int_eq (vol (at i) (at j) (at k) (at l)) (pos 0)) q
      (λ l m. (Decides-int_eq (vol (at i) (at j) (at k) (at l)) (pos 0)).1 (on l (h l m)))

  -- a piece lies in the plane if its face is the face
  pub of_face : {q : List ℕ} (p : PieceOf at A q) → F ≡ p.face → lies_in at i j k q ≡ true
  of_face {q} p e = of_corners q (λ l h. subst (In l) (sym e) (in_face p l h))

  -- a piece lies in the plane only if its face is the face
  pub its_face : {q : List ℕ} (p : PieceOf at A q) → lies_in at i j k q ≡ true → F ≡ p.face
  its_face {q} p e = let lev = lies_level at i j k q e in
      same_face at ids c.solid c.plane p.plane (lev p.i (has_i p)) (lev p.j (has_j p)) (lev p.k (has_k p)) c.polygon p.polygon

  pub in_parts : (q : List ℕ) → In q parts → (m : In q qs) × (F ≡ (piece q m).face)
  in_parts q h = let r = of_filter (lies_in at i j k) qs q h in (r.0, its_face (piece q r.0) r.1)

  pub lies_member : (q : List ℕ) → In q qs → lies_in at i j k q ≡ true → (x : ℕ) → In x q → In x F
  lies_member q m e x o = subst (In x) (sym (its_face (piece q m) e)) (in_face (piece q m) x o)

  pub part_member : (q : List ℕ) → In q parts → (x : ℕ) → In x q → In x F
  part_member q h x m = let r = of_filter (lies_in at i j k) qs q h in lies_member q r.0 r.1 x m

  -- each three corners of the pieces turn left
  pub lies_turns : (q : List ℕ) → In q qs → lies_in at i j k q ≡ true → AllTurn n at q
  lies_turns q m e = met_turns n at c.polygon q (subst (IsMetRound q) (sym (its_face (piece q m) e)) (piece q m).met)

  pub part_turns : (q : List ℕ) → In q parts → AllTurn n at q
  part_turns q h = let r = of_filter (lies_in at i j k) qs q h in lies_turns q r.0 r.1

  -- the face as a piece of itself
  pub own : PieceOf at A F
  own = piece_of at A F (face_piece at ids c.distinct F (i, j, k, c.plane, c.polygon))

  -- neighbours are different
  pub follows_apart : (u v : ℕ) → Follows u v F → u ≢ v
  follows_apart u v h = let t = side_turn own u v h in first_two (normal own) at u v t.w t.turns

  -- steps of the pieces
  pub step_in : (u v : ℕ) → Has u v es → (q : List ℕ) × In q parts × Follows u v q
  step_in u v m = let r = of_flat_map steps_round parts (u, v) m in (r.0, r.1, (on_round u v r.0).0 r.2)

  -- no piece takes a reversed side
  pub none_back : (u v : ℕ) → Follows u v F → ¬ (Has v u es)
  none_back u v h m =
      let s = step_in v u m in
      let r = in_parts s.0 s.1 in
      by s.0 (piece s.0 r.0) (side_turn (piece s.0 r.0) v u s.2) (subst (Follows u v) r.1 h)
    where
      by : (q : List ℕ) (p : PieceOf at A q) → IsTurn (normal p) at p.face v u → Follows u v p.face → ⊥
      by q p t g = no_back (normal p) at u v t.w
          (p.polygon.round u v g t.w t.has_w (not_second (normal p) at v u t.w t.turns) (not_first (normal p) at v u t.w t.turns))
          (turned (normal p) at v u t.w t.turns)

  -- if two corners are not neighbours, all steps between them are those of pieces of the face
  pub diagonal_kept : (u v : ℕ) → ¬ (Beside F u v) → In u F → In v F → (q : List ℕ) → In q qs → Follows u v q → lies_in at i j k q ≡ true
  diagonal_kept u v h fu fv q m g = by (same_list F (piece q m).face)
    where
      t : IsTurn (normal (piece q m)) at (piece q m).face u v
      t = side_turn (piece q m) u v g

      by : Decided (F ≡ (piece q m).face) → lies_in at i j k q ≡ true
      by (inl e) = of_face (piece q m) e
      by (inr x) = absurd (h (neighbours at ids c.solid c.plane (piece q m).plane c.polygon (piece q m).polygon x u v
          (first_two (normal (piece q m)) at u v t.w t.turns) fu fv t.has_u t.has_v))

  -- all steps along a side are those of pieces of the face
  pub side_kept : (u v : ℕ) → Follows u v F → (q : List ℕ) → In q qs → Follows u v q → lies_in at i j k q ≡ true
  side_kept u v h q m g = of_face (piece q m) (shared_step at ids c.solid c.distinct c.plane (piece q m).plane c.polygon (piece q m).polygon
      (by (third own u v)) (side_turn (piece q m) u v g))
    where
      by : (w : ℕ) × In w F × (w ≢ u) × (w ≢ v) → IsTurn n at F u v
      by (w, o, wu, wv) = record {
        has_u = (follows_members u v F h).0;
        has_v = (follows_members u v F h).1;
        w = w;
        has_w = o;
        turns = c.polygon.round u v h w o wu wv;
      }
