-- Areas of polygons, seen along a normal: by fans, and by the area that a corner sweeps along the steps.
use Rattle.qh_laws_surface.proofs.{ConvexLists.AllTurn, ConvexLists.Turn, StepCounts.IsOdd, StepCounts.sum-append}
use Rattle.qh_model.proofs.Common.{List, Vector, [], arith, cross, flat_map, inl, ints, pos, refl, steps_along, steps_round, ℕ, ℤ, ◌+ℤ◌, ◌<ℤ◌, ◌∙◌, ◌∷◌, ◌≡◌}
use Rattle.qh_model.proofs.{Common.◌≤ℤ◌, algebra.Ring.ring, algebra.Ring.Expr.add, algebra.VectorIdentities.left-flip, algebra.VectorIdentities.leftE}
use Rattle.qh_model.proofs.{algebra.VectorIdentities.put, algebra.VectorIdentities.vec, closed_surfaces.Sums.sum_z, lists.Ordered.Ordered}
use Rattle.qh_model.specs.headline.Predicates.{left}

-- the sum of the turns of the triangles of a and two neighbours each
abbrev pub turns_along : (n : Vector) (at : ℕ → Vector) → ℕ → ℕ → List ℕ → ℤ
turns_along n at a u [] = pos 0
turns_along n at a u (w ∷ r) = left n (at a) (at u) (at w) +ℤ turns_along n at a w r

abbrev pub turns_of : (n : Vector) (at : ℕ → Vector) → List ℕ → ℤ
turns_of n at [] = pos 0
turns_of n at (a ∷ []) = pos 0
turns_of n at (a ∷ u ∷ r) = turns_along n at a u r

left-parts : (n c a u w : Vector) → left n a u w ≡ left n c a u +ℤ (left n c u w +ℤ left n c w a)
unfolding left cross
left-parts n c a u w =
    let t = λ (i j k : ℕ). leftE (vec 0) (vec i) (vec j) (vec k) in
    ring (put n (put c (put a (put u (put w []))))) (t 2 3 4) (add (t 1 2 3) (add (t 1 3 4) (t 1 4 2))) refl

module _ (n : Vector) (at : ℕ → Vector) (c : ℕ) where
  -- the turn from c over a step
  abbrev pub swept : (ℕ × ℕ) → ℤ
  swept e = left n (at c) (at e.0) (at e.1)

  pub swept-odd : IsOdd swept
  swept-odd e = left-flip n (at c) (at e.1) (at e.0)

  along_swept : (a u : ℕ) (r : List ℕ) → sum_z swept (steps_along u r a) +ℤ swept (a, u) ≡ turns_along n at a u r
  along_swept a u [] = omega (arith, ints, left-flip n (at c) (at u) (at a))
  along_swept a u (w ∷ r) = omega (arith, ints, along_swept a w r, left-parts n (at c) (at a) (at u) (at w), left-flip n (at c) (at w) (at a))

  pub round_swept : (q : List ℕ) → sum_z swept (steps_round q) ≡ turns_of n at q
  round_swept [] = refl
  round_swept (a ∷ []) = omega (arith, ints, left-flip n (at c) (at a) (at a))
  round_swept (a ∷ u ∷ r) = omega (arith, ints, along_swept a u r)

  pub all_swept : (qs : List (List ℕ)) → sum_z swept (flat_map steps_round qs) ≡ sum_z (turns_of n at) qs
  all_swept [] = refl
  all_swept (q ∷ qs) = sum-append swept (steps_round q) (flat_map steps_round qs) ∙ omega (arith, ints, round_swept q, all_swept qs)

-- ---- the area of a list of which each three corners turn left is above 0
turns_positive : (n : Vector) (at : ℕ → Vector) (a u : ℕ) (r : List ℕ) → Ordered (Turn n at a) (u ∷ r) → pos 0 ≤ℤ turns_along n at a u r
turns_positive n at a u [] o = omega (arith, ints)
turns_positive n at a u (w ∷ r) o = let h = o.0 w (inl refl) in omega (arith, ints, h, turns_positive n at a w r o.1)

pub area_positive : (n : Vector) (at : ℕ → Vector) (i j k : ℕ) (r : List ℕ) → AllTurn n at (i ∷ j ∷ k ∷ r) → pos 0 <ℤ turns_of n at (i ∷ j ∷ k ∷ r)
area_positive n at i j k r t = let first = t.0.0 k (inl refl) in omega (arith, ints, first, turns_positive n at i k r t.0.1)
