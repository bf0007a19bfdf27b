-- A triangle with its neighbours strictly below it is a face: a polygon of three sides.
use Rattle.qh_model.proofs.Common.{◌≡◌, ◌≢◌, ℕ, ◌<◌, ◌≤◌, refl, sym, ap, subst, ◌∙◌, arith, List, [], ◌∷◌, inl, inr, ints, pos, ◌<ℤ◌, Triple, Follows}
use Rattle.qh_model.proofs.Common.{TurnsLeft, cross, AreInLine, In, Vector}
use Rattle.qh_model.specs.headline.Predicates.{left}
use Rattle.qh_model.proofs.algebra.VectorIdentities.{left-turn, left-dot, in_line-vol, in_line-last, vol-first}
use Rattle.qh_model.proofs.extremes.Directions.{square-positive}
use Rattle.qh_laws.specs.contract.LocallyConvex.{IsRound, HasLowNeighbour, IsSharpAround, IsSharpEdge, IsSharpPolygon}
use Rattle.qh_laws.specs.laws.ConvexLaws.{SharpIsFace}
use Rattle.qh_laws.proofs.{Highest.rise, Highest.rise_round, Highest.round_next, PolygonFaces.face}

module _ (at : ℕ → Vector) (ts : List Triple) (z : Vector) (t : Triple) (i : In t ts) (inside : rise at t z <ℤ pos 0) (sharp : IsSharpAround at ts t) where
  -- a neighbour with its third corner strictly below t
  abbrev Steep : ℕ → ℕ → Type 0
  Steep u v = (n : HasLowNeighbour at ts t u v) × (rise at t (at n.third) <ℤ pos 0)

  steep_round : (u v w : ℕ) → IsRound t u v w → Steep u v
  steep_round u v w (inl (p, q, r)) = subst (λ a. Steep a v) p (subst (λ b. Steep t.i b) q (sharp.around.over_ij, sharp.over_ij))
  steep_round u v w (inr (inl (p, q, r))) = subst (λ a. Steep a v) p (subst (λ b. Steep t.j b) q (sharp.around.over_jk, sharp.over_jk))
  steep_round u v w (inr (inr (p, q, r))) = subst (λ a. Steep a v) p (subst (λ b. Steep t.k b) q (sharp.around.over_ki, sharp.over_ki))

  -- the normal
  abbrev normal : Vector
  normal = cross (at t.i) (at t.j) (at t.k)

  -- the triangle turns left at each corner
  turns : (u v w : ℕ) → IsRound t u v w → pos 0 <ℤ left normal (at u) (at v) (at w)
  turns u v w r = go r
    where
      own : pos 0 <ℤ left normal (at t.i) (at t.j) (at t.k)
      own =
          subst (λ k. pos 0 <ℤ k) (sym (left-dot normal (at t.i) (at t.j) (at t.k)))
          (square-positive normal (λ f. omega (arith, ints, inside, in_line-vol (at t.i) (at t.j) (at t.k) z f)))

      same : (i j k u v w : ℕ) → i ≡ u → j ≡ v → k ≡ w → left normal (at i) (at j) (at k) ≡ left normal (at u) (at v) (at w)
      same i j k u v w p q s = rw (p, q, s) refl

      second : pos 0 <ℤ left normal (at t.j) (at t.k) (at t.i)
      second = omega (arith, ints, left-turn normal (at t.i) (at t.j) (at t.k), own)

      go : IsRound t u v w → pos 0 <ℤ left normal (at u) (at v) (at w)
      go (inl (p, q, s)) = omega (arith, ints, same t.i t.j t.k u v w p q s, own)
      go (inr (inl (p, q, s))) = omega (arith, ints, same t.j t.k t.i u v w p q s, second)
      go (inr (inr (p, q, s))) = omega (arith, ints, left-turn normal (at t.j) (at t.k) (at t.i) ∙ same t.k t.i t.j u v w p q s, second)

  -- a corner is in the plane
  level : (u v w : ℕ) → IsRound t u v w → rise at t (at u) ≡ pos 0
  level u v w r = rise_round at t u v w r (at u) ∙ vol-first (at u) (at v) (at w)

  -- the polygon
  polygon : (u v w : ℕ) → IsRound t u v w → u < v → u < w → IsSharpPolygon at ts t (u ∷ v ∷ w ∷ [])
  polygon u v w r uv uw = record {
    three = omega arith;
    once = (λ m. first m, (λ m. second m, (λ m. m, tt)));
    least = least;
    level = corner;
    round = round;
    edges = edges;
  }
    where
      r₂ : IsRound t v w u
      r₂ = round_next t u v w r

      r₃ : IsRound t w u v
      r₃ = round_next t v w u r₂

      corner : (l : ℕ) → In l (u ∷ v ∷ w ∷ []) → rise at t (at l) ≡ pos 0
      corner l (inl e) = ap (λ x. rise at t (at x)) e ∙ level u v w r
      corner l (inr (inl e)) = ap (λ x. rise at t (at x)) e ∙ level v w u r₂
      corner l (inr (inr (inl e))) = ap (λ x. rise at t (at x)) e ∙ level w u v r₃
      corner l (inr (inr (inr x))) = absurd x

      apart : v ≢ w
      apart e =
          let line = subst (λ x. AreInLine (at u) (at v) (at x)) e (in_line-last (at u) (at v)) in
          omega (arith, ints, inside, rise_round at t u v w r z ∙ in_line-vol (at u) (at v) (at w) z line)

      first : In u (v ∷ w ∷ []) → ⊥
      first (inl e) = omega arith
      first (inr (inl e)) = omega arith
      first (inr (inr x)) = x

      second : In v (w ∷ []) → ⊥
      second (inl e) = apart e
      second (inr x) = x

      least : (a : ℕ) → In a (v ∷ w ∷ []) → u ≤ a
      least a (inl e) = omega arith
      least a (inr (inl e)) = omega arith
      least a (inr (inr x)) = absurd x

      -- across the side from a to b, where o is the third corner
      over : (a b o : ℕ) → pos 0 <ℤ left normal (at a) (at b) (at o) → ((l : ℕ) → In l (u ∷ v ∷ w ∷ []) → l ≢ a → l ≢ b → l ≡ o)
          → (p q : ℕ) → a ≡ p → b ≡ q → TurnsLeft at normal (u ∷ v ∷ w ∷ []) p q
      over a b o h only p q e f l m np nq =
          subst (λ x. pos 0 <ℤ left normal (at x) (at q) (at l)) e (subst (λ y. pos 0 <ℤ left normal (at a) (at y) (at l)) f
          (subst (λ s. pos 0 <ℤ left normal (at a) (at b) (at s)) (sym (only l m (λ k. np (k ∙ e)) (λ k. nq (k ∙ f)))) h))

      third_w : (l : ℕ) → In l (u ∷ v ∷ w ∷ []) → l ≢ u → l ≢ v → l ≡ w
      third_w l (inl e) m n = absurd (m e)
      third_w l (inr (inl e)) m n = absurd (n e)
      third_w l (inr (inr (inl e))) m n = e
      third_w l (inr (inr (inr x))) m n = absurd x

      third_u : (l : ℕ) → In l (u ∷ v ∷ w ∷ []) → l ≢ v → l ≢ w → l ≡ u
      third_u l (inl e) m n = e
      third_u l (inr (inl e)) m n = absurd (m e)
      third_u l (inr (inr (inl e))) m n = absurd (n e)
      third_u l (inr (inr (inr x))) m n = absurd x

      third_v : (l : ℕ) → In l (u ∷ v ∷ w ∷ []) → l ≢ w → l ≢ u → l ≡ v
      third_v l (inl e) m n = absurd (n e)
      third_v l (inr (inl e)) m n = e
      third_v l (inr (inr (inl e))) m n = absurd (m e)
      third_v l (inr (inr (inr x))) m n = absurd x

      round : (p q : ℕ) → Follows p q (u ∷ v ∷ w ∷ []) → TurnsLeft at normal (u ∷ v ∷ w ∷ []) p q
      round p q (inl (e, f)) = over u v w (turns u v w r) third_w p q e f
      round p q (inr (inl (e, f))) = over v w u (turns v w u r₂) third_u p q e f
      round p q (inr (inr (e, f))) = over w u v (turns w u v r₃) third_v p q e f

      side : (a b o : ℕ) → IsRound t a b o → IsSharpEdge at ts t a b
      side a b o s = let n = steep_round a b o s in
          record { side = t; there = i; third = o; round = s; level = level o a b (round_next t b o a (round_next t a b o s)); over = n.0; below = n.1 }

      edges : (p q : ℕ) → Follows p q (u ∷ v ∷ w ∷ []) → IsSharpEdge at ts t p q
      edges p q (inl (e, f)) = subst (λ a. IsSharpEdge at ts t a q) e (subst (λ b. IsSharpEdge at ts t u b) f (side u v w r))
      edges p q (inr (inl (e, f))) = subst (λ a. IsSharpEdge at ts t a q) e (subst (λ b. IsSharpEdge at ts t v b) f (side v w u r₂))
      edges p q (inr (inr (e, f))) = subst (λ a. IsSharpEdge at ts t a q) e (subst (λ b. IsSharpEdge at ts t w b) f (side w u v r₃))

-- proof of the law `SharpIsFace`
pub sharp_is_face : SharpIsFace
sharp_is_face at ids ts z d c all distinct t i sharp u v w r uv uw =
    face at ids ts z d c all distinct t i (u ∷ v ∷ w ∷ []) (polygon at ts z t i (c.inside t i) sharp u v w r uv uw)
