-- The number of triangles of a closed surface that are met is the same in every direction.
use Rattle.qh_model.proofs.Common.{◌≡◌, ℕ, ◌+◌, refl, sym, ap, ◌∙◌, arith, List, [], ◌∷◌, Bool, cond, not, inl, inr, ints, ℤ, pos, ◌+ℤ◌, ◌-ℤ◌, neg_ℤ, ◌<ℤ◌}
use Rattle.qh_model.proofs.Common.{Triple, edges, IsClosed, vol, In, Vector}
use Rattle.qh_model.proofs.closed_surfaces.{SignedVolume.back, SignedVolume.edges-cancel, Sums.sum_z, Sums.count}
use Rattle.qh_laws.specs.contract.LocallyConvex.{is_met}
use Rattle.qh_laws.proofs.{Crossings.crosses, Crossings.part, Crossings.parts_add, Rounds.round_fits, Rounds.flip_round, Signs.above, Signs.above-neg}

-- no edge of the triangles is in one plane with z and d
abbrev pub IsOffEdges : (ℕ → Vector) → List Triple → Vector → Vector → Type 0
IsOffEdges at ts z d = (e : ℕ × ℕ) → In e (edges ts) → ¬ (vol z (at e.0) (at e.1) d ≡ pos 0)

module _ (at : ℕ → Vector) (z d x : Vector) where
  abbrev turn : Vector → (ℕ × ℕ) → Bool
  turn y e = above (vol z (at e.0) (at e.1) y)

  abbrev side : ℕ → Bool
  side i = above (vol z (at i) d x)

  -- true if the line from d to x is crossed upwards
  abbrev up : (ℕ × ℕ) → ℤ
  up e = pos (cond (crosses (side e.0) (side e.1) (turn d e) (turn x e)) 1 0)

  -- the number of crossings upwards minus the number of crossings downwards
  abbrev crossing : (ℕ × ℕ) → ℤ
  crossing e = up e -ℤ up (back e)

  -- the reversed edge is crossed in the opposite direction
  crossing-back : (e : ℕ × ℕ) → crossing (back e) ≡ neg_ℤ (crossing e)
  crossing-back e = plain (up e) (up (back e))
    where
      plain : (a b : ℤ) → b -ℤ a ≡ neg_ℤ (a -ℤ b)
      plain a b = omega (arith, ints)

  -- e is in no plane with z and d, or with z and x, and its first corner is in no plane with z, d and x
  record IsClear (e : ℕ × ℕ) : Type 0 where
    first : ¬ (vol z (at e.0) (at e.1) d ≡ pos 0)
    second : ¬ (vol z (at e.0) (at e.1) x ≡ pos 0)
    start : ¬ (vol z (at e.0) d x ≡ pos 0)

  -- off these planes the signs of the edge in one direction determine the crossing
  crossing-part : (e : ℕ × ℕ) → IsClear e → crossing e ≡ part (side e.0) (side e.1) (turn d e) (turn x e)
  crossing-part e c =
      ap (λ b. up e -ℤ pos (cond (crosses (side e.1) (side e.0) b (turn x (back e))) 1 0)) (flip d c.first)
      ∙ ap (λ b. up e -ℤ pos (cond (crosses (side e.1) (side e.0) (not (turn d e)) b) 1 0)) (flip x c.second)
    where
      flip : (y : Vector) → ¬ (vol z (at e.0) (at e.1) y ≡ pos 0) → turn y (back e) ≡ not (turn y e)
      flip y n = ap above (flip_round z (at e.0) (at e.1) y) ∙ above-neg (vol z (at e.0) (at e.1) y) n

  -- the crossings of one triangle
  triangle_crossings : (t : Triple) → vol (at t.i) (at t.j) (at t.k) z <ℤ pos 0 → IsClear (t.i, t.j) → IsClear (t.j, t.k) → IsClear (t.k, t.i)
      → crossing (t.i, t.j) +ℤ (crossing (t.j, t.k) +ℤ crossing (t.k, t.i)) ≡ pos (cond (is_met at z d t) 1 0) -ℤ pos (cond (is_met at z x t) 1 0)
  triangle_crossings t h p q r =
      plain _ _ _ _ _ _ (crossing-part (t.i, t.j) p) (crossing-part (t.j, t.k) q) (crossing-part (t.k, t.i) r)
      ∙ parts_add (side t.i) (side t.j) (side t.k) (turn d (t.i, t.j)) (turn d (t.j, t.k)) (turn d (t.k, t.i))
      (turn x (t.i, t.j)) (turn x (t.j, t.k)) (turn x (t.k, t.i))
      (round_fits z (at t.i) (at t.j) (at t.k) d x h p.first q.first r.first p.second q.second r.second p.start q.start r.start)
    where
      plain : (a b c i j k : ℤ) → a ≡ i → b ≡ j → c ≡ k → a +ℤ (b +ℤ c) ≡ i +ℤ (j +ℤ k)
      plain a b c i j k e f g = rw (e, f, g) refl

  -- all triangles
  crossings_add : (ts : List Triple) → ((t : Triple) → In t ts → vol (at t.i) (at t.j) (at t.k) z <ℤ pos 0) → ((e : ℕ × ℕ) → In e (edges ts) → IsClear e)
      → sum_z crossing (edges ts) ≡ pos (count (is_met at z d) ts) -ℤ pos (count (is_met at z x) ts)
  crossings_add [] h c = refl
  crossings_add (t ∷ ts) h c =
      plain (crossing (t.i, t.j)) (crossing (t.j, t.k)) (crossing (t.k, t.i)) (sum_z crossing (edges ts))
      (cond (is_met at z d t) 1 0) (cond (is_met at z x t) 1 0) (count (is_met at z d) ts) (count (is_met at z x) ts)
      (triangle_crossings t (h t (inl refl)) (c (t.i, t.j) (inl refl)) (c (t.j, t.k) (inr (inl refl))) (c (t.k, t.i) (inr (inr (inl refl)))))
      (crossings_add ts (λ s i. h s (inr i)) (λ e i. c e (inr (inr (inr i)))))
    where
      plain : (a b c s : ℤ) (m n k l : ℕ) → a +ℤ (b +ℤ c) ≡ pos m -ℤ pos n → s ≡ pos k -ℤ pos l → a +ℤ (b +ℤ (c +ℤ s)) ≡ pos (m + k) -ℤ pos (n + l)
      plain a b c s m n k l e f = omega (arith, ints)

  -- the same number is met in both directions
  pub met_alike : (ts : List Triple) → IsClosed ts → ((t : Triple) → In t ts → vol (at t.i) (at t.j) (at t.k) z <ℤ pos 0)
      → IsOffEdges at ts z d → IsOffEdges at ts z x → ((e : ℕ × ℕ) → In e (edges ts) → ¬ (vol z (at e.0) d x ≡ pos 0))
      → count (is_met at z d) ts ≡ count (is_met at z x) ts
  met_alike ts closed inside first second start =
      plain (count (is_met at z d) ts) (count (is_met at z x) ts)
      (sym (crossings_add ts inside (λ e i. record { first = first e i; second = second e i; start = start e i }))
      ∙ edges-cancel crossing crossing-back ts closed)
    where
      plain : (m n : ℕ) → pos m -ℤ pos n ≡ pos 0 → m ≡ n
      plain m n e = omega (arith, ints)
