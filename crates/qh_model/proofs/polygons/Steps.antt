-- The faces of a solid close up: one face takes each step along an edge, and another the step back.
use Rattle.qh_model.proofs.Common.{◌≡◌, ℕ, suc, ◌≤◌, length, refl, sym, ap, subst, ◌∙◌, inl, inr, ⊎_elim, List, [], ◌∷◌, flat_map, ◌↔◌, steps_along, arith}
use Rattle.qh_model.proofs.Common.{steps_round, step_count, is_edge, FollowsAlong, Follows, ComesBefore, In, Once}
use Rattle.std.proofs.Common.{le_antisymm}
use Rattle.qh_model.specs.laws.ClosedFaceLaws.{FacesClose}
use Rattle.qh_model.proofs.{closed_surfaces.SignedVolume.back, closed_surfaces.SignedVolume.is_edge-back, polygons.Neighbours.along_members}
use Rattle.qh_model.proofs.{lists.Counts.count_twins, lists.Lexicographic.before-asymmetric, lists.Lexicographic.rising-ordered, polygons.OtherFace.other_face}
use Rattle.qh_model.proofs.{lists.Joined.once_append, lists.Joined.in_flat_map, lists.Joined.of_flat_map, lists.Ordered.Ordered, polygons.Edges.one_face_a_step}

-- each corner has a step
pub length_steps : (q : List ℕ) → length (steps_round q) ≡ length q
length_steps [] = refl
length_steps (t ∷ r) = along t r t
  where
    along : (t : ℕ) (r : List ℕ) (e : ℕ) → length (steps_along t r e) ≡ suc (length r)
    along t [] e = refl
    along t (w ∷ r) e = ap suc (along w r e)

abbrev Has : ℕ → ℕ → List (ℕ × ℕ) → Type 0
Has u v ps = In {X = ℕ × ℕ} (u, v) ps

pair : {a b c d : ℕ} → a ≡ c → b ≡ d → ◌≡◌ {A = ℕ × ℕ} (a, b) (c, d)
pair e f = cc

-- equal pairs have equal components, from the second
ends : {a b c d : ℕ} → ◌≡◌ {A = ℕ × ℕ} (a, b) (c, d) → (c ≡ a) × (d ≡ b)
ends p = (sym (ap (λ (x : ℕ × ℕ). x.0) p), sym (ap (λ (x : ℕ × ℕ). x.1) p))

-- the steps on a path
on_along : (u v t : ℕ) (r : List ℕ) (e : ℕ) → Has u v (steps_along t r e) ↔ FollowsAlong u v t r e
on_along u v t [] e = (λ m. ⊎_elim (λ p. ends p) (λ n. absurd n) m, λ f. inl (pair (sym f.0) (sym f.1)))
on_along u v t (w ∷ r) e = (
  λ m. ⊎_elim (λ p. inl (ends p)) (λ i. inr ((on_along u v w r e).0 i)) m,
  λ f. ⊎_elim (λ p. inl (pair (sym p.0) (sym p.1))) (λ g. inr ((on_along u v w r e).1 g)) f,
)

-- the steps of a polygon are its neighbours
pub on_round : (u v : ℕ) (q : List ℕ) → Has u v (steps_round q) ↔ Follows u v q
on_round = grind (arith, on_along)

-- each step occurs once
once_along : (t : ℕ) (r : List ℕ) (e : ℕ) → Once (t ∷ r) → Once (steps_along t r e)
once_along t [] e o = ((λ m. m), tt)
once_along t (w ∷ r) e o = ((λ m. o.0 (along_members t w w r e ((on_along t w w r e).0 m)).0), once_along w r e o.1)

once_round : (q : List ℕ) → Once q → Once (steps_round q)
once_round = grind (arith, once_along)

-- if no two polygons take the same step, each step occurs once
all_once : (qs : List (List ℕ)) → Once qs → ((q : List ℕ) → In q qs → Once q)
    → ((p q : List ℕ) → In p qs → In q qs → (u v : ℕ) → Follows u v p → Follows u v q → p ≡ q)
    → Once (flat_map steps_round qs)
all_once [] o each one = tt
all_once (q ∷ qs) o each one =
    once_append (steps_round q) (flat_map steps_round qs) (once_round q (each q (inl refl)))
    (all_once qs o.1 (λ p i. each p (inr i)) (λ p r i j. one p r (inr i) (inr j))) apart
  where
    apart : (x : ℕ × ℕ) → In x (steps_round q) → In x (flat_map steps_round qs) → ⊥
    apart (u, v) i j = let r = of_flat_map steps_round qs (u, v) j in
        o.0 (subst (λ (p : List ℕ). In p qs) (sym (one q r.0 (inl refl) (inr r.1) u v ((on_round u v q).0 i) ((on_round u v r.0).0 r.2))) r.1)

-- each list in an ordered list of lists occurs once
pub ordered_once : (qs : List (List ℕ)) → Ordered ComesBefore qs → Once qs
ordered_once [] o = tt
ordered_once (q ∷ qs) o = (λ i. before-asymmetric q q (o.0 q i) (o.0 q i), ordered_once qs o.1)

-- proof of the law `FacesClose`
pub faces_close : FacesClose
faces_close at ids qs d solid faces u v = le_antisymm (half u v) (half v u)
  where
    once : Once (flat_map steps_round qs)
    once = all_once qs (ordered_once qs (rising-ordered qs faces.rising)) (λ q i. (faces.only q i).4.once) (one_face_a_step at ids qs d faces)

    -- the step back is one of the steps
    turned : (x : ℕ × ℕ) → In x (flat_map steps_round qs) → In (back x) (flat_map steps_round qs)
    turned (u, v) m = let q = of_flat_map steps_round qs (u, v) m in
        let p = other_face at ids qs d solid faces q.0 q.1 u v ((on_round u v q.0).0 q.2) in
        in_flat_map steps_round qs p.0 (v, u) p.1 ((on_round v u p.0).1 p.2)

    half : (u v : ℕ) → step_count qs u v ≤ step_count qs v u
    half u v = count_twins back (is_edge (u, v)) (is_edge (v, u)) (flat_map steps_round qs) once
        (λ x m e. (turned x m, is_edge-back (v, u) x ∙ e, refl))
