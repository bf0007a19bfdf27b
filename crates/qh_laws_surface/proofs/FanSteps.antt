-- The steps round the triangles of fans: those of the polygons, and the diagonals in both directions.
use Rattle.qh_model.proofs.Common.{◌≡◌, ℕ, ◌≤◌, arith, refl, sym, ap, ◌∙◌, inl, inr, ⊎_elim, ◌⊎◌, List, [], ◌∷◌, ◌++◌, length, ints, flat_map-append, flat_map}
use Rattle.qh_model.proofs.Common.{ℤ, ◌+ℤ◌, steps_along, steps_round, AreClosed, Triple, edges, triangles_along, fan, fans, In, Once}
use Rattle.qh_model.proofs.closed_surfaces.Sums.{sum_z}
use Rattle.qh_laws_surface.proofs.StepCounts.{times, Has, closed_times, pair_ends, IsOdd, sum-append, lead, lead-odd, lead_sum}

-- ---- the triangles of a polygon
-- the triangles of a and two neighbours each, beginning with u along the list
abbrev pub triples_along : ℕ → ℕ → List ℕ → List Triple
triples_along a u [] = []
triples_along a u (w ∷ r) = record { i = a; j = u; k = w } ∷ triples_along a w r

abbrev pub triples_in : List ℕ → List Triple
triples_in [] = []
triples_in (a ∷ []) = []
triples_in (a ∷ u ∷ r) = triples_along a u r

edges-append : (xs ys : List Triple) → edges (xs ++ ys) ≡ edges xs ++ edges ys
edges-append [] ys = refl
edges-append (x ∷ xs) ys = ap (λ es. (x.i, x.j) ∷ (x.j, x.k) ∷ (x.k, x.i) ∷ es) (edges-append xs ys)

-- a function that changes its sign with a step adds up to the same over the edges of fans and over the steps of their polygons
module _ (g : (ℕ × ℕ) → ℤ) (odd : IsOdd g) where
  along_sum : (a b : ℕ) (r : List ℕ) → sum_z g (edges (triples_along a b r)) ≡ g (a, b) +ℤ sum_z g (steps_along b r a)
  along_sum a b [] = omega (arith, ints, odd (a, b))
  along_sum a b (w ∷ r) = omega (arith, ints, along_sum a w r, odd (a, w))

  fan_sum : (q : List ℕ) → sum_z g (edges (triples_in q)) ≡ sum_z g (steps_round q)
  fan_sum [] = refl
  fan_sum (a ∷ []) = omega (arith, ints, odd (a, a))
  fan_sum (a ∷ b ∷ r) = along_sum a b r

  fans_sum : (qs : List (List ℕ)) → sum_z g (edges (flat_map triples_in qs)) ≡ sum_z g (flat_map steps_round qs)
  fans_sum [] = refl
  fans_sum (q ∷ qs) =
      ap (sum_z g) (edges-append (triples_in q) (flat_map triples_in qs)) ∙ sum-append g (edges (triples_in q)) (edges (flat_map triples_in qs))
      ∙ omega (arith, ints, fan_sum q, fans_sum qs, sum-append g (steps_round q) (flat_map steps_round qs))

-- so closed polygons have closed fans
pub closed_triples : (qs : List (List ℕ)) → AreClosed qs → (u v : ℕ) → times u v (edges (flat_map triples_in qs)) ≡ times v u (edges (flat_map triples_in qs))
closed_triples qs h u v = omega (
  arith,
  ints,
  fans_sum (lead u v) (lead-odd u v) qs,
  lead_sum u v (edges (flat_map triples_in qs)),
  lead_sum u v (flat_map steps_round qs),
  closed_times qs h u v,
)

-- ---- the same triangles as lists
abbrev pub LongEnough : List ℕ → Type 0
LongEnough q = 3 ≤ length q

along_edges : (a b : ℕ) (r : List ℕ) → flat_map steps_round (triangles_along a b r) ≡ edges (triples_along a b r)
along_edges a b [] = refl
along_edges a b (w ∷ r) = ap (λ es. (a, b) ∷ (b, w) ∷ (w, a) ∷ es) (along_edges a w r)

fan_edges : (q : List ℕ) → LongEnough q → flat_map steps_round (fan q) ≡ edges (triples_in q)
fan_edges [] l = absurd (omega (arith, l))
fan_edges (a ∷ []) l = absurd (omega (arith, l))
fan_edges (a ∷ b ∷ []) l = absurd (omega (arith, l))
fan_edges (a ∷ b ∷ c ∷ r) l = along_edges a b (c ∷ r)

pub fans_edges : (qs : List (List ℕ)) → ((q : List ℕ) → In q qs → LongEnough q) → flat_map steps_round (fans qs) ≡ edges (flat_map triples_in qs)
fans_edges [] l = refl
fans_edges (q ∷ qs) l =
    flat_map-append steps_round (fan q) (fans qs)
    ∙ ap (λ es. es ++ flat_map steps_round (fans qs)) (fan_edges q (l q (inl refl)))
    ∙ ap (λ es. edges (triples_in q) ++ es) (fans_edges qs (λ p i. l p (inr i)))
    ∙ sym (edges-append (triples_in q) (flat_map triples_in qs))

-- the edges of fans, each with its polygon
pub edges_flat : (qs : List (List ℕ)) → edges (flat_map triples_in qs) ≡ flat_map (λ q. edges (triples_in q)) qs
edges_flat [] = refl
edges_flat (q ∷ qs) =
    edges-append (triples_in q) (flat_map triples_in qs) ∙ ap (λ es. edges (triples_in q) ++ es) (edges_flat qs)

-- ---- the edges of a fan
-- the edges from a to the list, along the list, and from the rest of the list to a
abbrev FanStep : ℕ → ℕ → List ℕ → ℕ → ℕ → Type 0
FanStep a u r x y = ((x ≡ a) × In y (u ∷ r)) ⊎ ((In x (u ∷ r) × In y r) ⊎ (In x r × (y ≡ a)))

fan_step : (a u : ℕ) (r : List ℕ) (x y : ℕ) → Has x y (edges (triples_along a u r)) → FanStep a u r x y
fan_step a u [] x y m = absurd m
fan_step a u (w ∷ r) x y (inl e) = let p = pair_ends e in inl (p.0, inl p.1)
fan_step a u (w ∷ r) x y (inr (inl e)) = let p = pair_ends e in inr (inl (inl p.0, inl p.1))
fan_step a u (w ∷ r) x y (inr (inr (inl e))) = let p = pair_ends e in inr (inr (inl p.0, p.1))
fan_step a u (w ∷ r) x y (inr (inr (inr m))) = more (fan_step a w r x y m)
  where
    more : FanStep a w r x y → FanStep a u (w ∷ r) x y
    more (inl h) = inl (h.0, inr h.1)
    more (inr (inl h)) = inr (inl (inr h.0, inr h.1))
    more (inr (inr h)) = inr (inr (inr h.0, h.1))

-- each edge of a fan occurs once
once_fan_along : (a u : ℕ) (r : List ℕ) → Once (a ∷ u ∷ r) → Once (edges (triples_along a u r))
once_fan_along a u [] o = tt
once_fan_along a u (w ∷ r) o = (first, (second, (third, once_fan_along a w r ((λ i. o.0 (inr i)), o.1.1))))
  where
    first : ¬ (Has a u ((u, w) ∷ (w, a) ∷ edges (triples_along a w r)))
    first (inl e) = o.0 (inl (pair_ends e).0)
    first (inr (inl e)) = o.0 (inl (sym (pair_ends e).1))
    first (inr (inr m)) = ⊎_elim (λ h. o.1.0 h.1) (λ k. ⊎_elim (λ h. o.0 (inr h.0)) (λ h. o.0 (inr (inr h.0))) k) (fan_step a w r a u m)

    second : ¬ (Has u w ((w, a) ∷ edges (triples_along a w r)))
    second (inl e) = o.1.0 (inl (pair_ends e).0)
    second (inr m) = ⊎_elim (λ h. o.0 (inl (sym h.0))) (λ k. ⊎_elim (λ h. o.1.0 h.0) (λ h. o.1.0 (inr h.0)) k) (fan_step a w r u w m)

    third : ¬ (Has w a (edges (triples_along a w r)))
    third m = ⊎_elim (λ h. o.0 (inr (inl (sym h.0)))) (λ k. ⊎_elim (λ h. o.0 (inr (inr h.1))) (λ h. o.1.1.0 h.0) k) (fan_step a w r w a m)

pub once_fan : (q : List ℕ) → Once q → Once (edges (triples_in q))
once_fan [] o = tt
once_fan (a ∷ []) o = tt
once_fan (a ∷ u ∷ r) o = once_fan_along a u r o

-- ---- the triangle of a step
abbrev pub IsEdgeOf : ℕ → ℕ → Triple → Type 0
IsEdgeOf x y t = Has x y ((t.i, t.j) ∷ (t.j, t.k) ∷ (t.k, t.i) ∷ [])

pub of_edges : (x y : ℕ) (ts : List Triple) → Has x y (edges ts) → (t : Triple) × In t ts × IsEdgeOf x y t
of_edges x y [] m = absurd m
of_edges x y (t ∷ ts) (inl e) = (t, inl refl, inl e)
of_edges x y (t ∷ ts) (inr (inl e)) = (t, inl refl, inr (inl e))
of_edges x y (t ∷ ts) (inr (inr (inl e))) = (t, inl refl, inr (inr (inl e)))
of_edges x y (t ∷ ts) (inr (inr (inr m))) = let r = of_edges x y ts m in (r.0, inr r.1, r.2)
