-- The text of faces, computed from the points of the extreme ids, is that of the set.
use Rattle.qh_model.proofs.Common.{BodyValue, In, List, Members, Vector, [], ap, ap₂, arith, dite, eq-eqb, face_text, fan, fans, flat_map, inl, inr}
use Rattle.qh_model.proofs.Common.{length-map, map, map-append, ne_eqb, off_text, refl, suc, sym, triangles_along, vertex_number}
use Rattle.qh_model.proofs.{Common.ℕ, Common.ℕ_discrete, Common.◌++◌, Common.◌∙◌, Common.◌∷◌, Common.◌≡◌, renamed.Bodies.renamed_body}
use Rattle.qh_model.proofs.renamed.{Lists.AreWithin, Positions.at_number, Positions.point_at, Positions.points_of, Positions.vertex_numbers}
use Rattle.std.proofs.lemmas.List.Folds.{flat_map-map}

-- joined texts are the same if they are the same for each member
pub flat_map_same : {X : Type 0} (s t : X → List ℕ) (xs : List X) → ((x : X) → In x xs → s x ≡ t x) → flat_map s xs ≡ flat_map t xs
flat_map_same s t [] h = refl
flat_map_same s t (x ∷ xs) h = ap₂ (λ (a b : List ℕ). a ++ b) (h x (inl refl)) (flat_map_same s t xs (λ y m. h y (inr m)))

-- different names of members keep positions
vertex_number-map : (f : ℕ → ℕ) (xs : List ℕ) (i : ℕ) → ((j : ℕ) → In j xs → f j ≡ f i → j ≡ i) → vertex_number (map f xs) (f i) ≡ vertex_number xs i
vertex_number-map f [] i apart = refl
vertex_number-map f (x ∷ xs) i apart = dite (ℕ_discrete x i) (λ e. rw (eq-eqb x i e, eq-eqb (f x) (f i) (ap f e)) refl)
    (λ n. rw (ne_eqb x i n, ne_eqb (f x) (f i) (λ d. n (apart x (inl refl) d))) (ap suc (vertex_number-map f xs i (λ j m. apart j (inr m)))))

-- a position is its own position, since members have different positions
number_again : (xs : List ℕ) (i : ℕ) → In i xs → vertex_number (vertex_numbers xs) (vertex_number xs i) ≡ vertex_number xs i
number_again = grind (arith, vertex_number-map, at_number)

-- a face of members has the same text
face_text_renamed : (xs q : List ℕ) → ((i : ℕ) → In i q → In i xs) → face_text (vertex_numbers xs) (map (vertex_number xs) q) ≡ face_text xs q
face_text_renamed = grind (arith, length-map, vertex_numbers, flat_map-map, flat_map_same, number_again)

-- the text of the points of the extreme ids, by their positions
pub off_text_renamed : (pts : List Vector) (b : BodyValue) → AreWithin (Members b.extremes) b.polygons
    → off_text (renamed_body (vertex_number b.extremes) b) (points_of pts b.extremes) ≡ off_text b pts
off_text_renamed = grind (arith, length-map, points_of, vertex_numbers, flat_map-map, flat_map_same, point_at, face_text_renamed)

-- ---- the same in triangles
-- renamed triangles
triangles_along-map : (f : ℕ → ℕ) (t u : ℕ) (r : List ℕ) → triangles_along (f t) (f u) (map f r) ≡ map (map f) (triangles_along t u r)
triangles_along-map f t u [] = refl
triangles_along-map f t u (v ∷ r) = ap (λ (ts : List (List ℕ)). (f t ∷ f u ∷ f v ∷ []) ∷ ts) (triangles_along-map f t v r)

fan-map : (f : ℕ → ℕ) (q : List ℕ) → fan (map f q) ≡ map (map f) (fan q)
fan-map = grind (arith, triangles_along-map)

pub fans-map : (f : ℕ → ℕ) (qs : List (List ℕ)) → fans (map (map f) qs) ≡ map (map f) (fans qs)
fans-map f [] = refl
fans-map f (q ∷ qs) = ap₂ (λ (a b : List (List ℕ)). a ++ b) (fan-map f q) (fans-map f qs) ∙ sym (map-append (map f) (fan q) (fans qs))
