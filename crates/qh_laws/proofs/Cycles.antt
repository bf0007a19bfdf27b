-- A point that is beyond all corners of a convex polygon along a direction is past one of its sides, seen from a place below.
use Rattle.qh_laws.proofs.Greatest.{IsGreatest, greatest, ratio-trans}
use Rattle.qh_laws.proofs.{OffPoints.plus, OffPoints.vol-plus, Rounds.flip_round, Rounds.vol-round}
use Rattle.qh_model.proofs.Common.{AreInLine, Follows, FollowsAlong, In, List, Once, Vector, [], ap, arith, cross, cross_product, dite, dot, inl, inr, ints}
use Rattle.qh_model.proofs.Common.{length, minus, neg_ℤ, pos, refl, subst, sym, vol, ℕ, ℕ_discrete, ℤ, ◌*ℤ◌, ◌-ℤ◌, ◌<ℤ◌, ◌∙◌, ◌∷◌, ◌≡◌, ◌≢◌, ◌≤ℤ◌, ◌≤◌, ◌⊎◌}
use Rattle.qh_model.proofs.algebra.{Integers.mul_comm, Integers.zero_mul, Order.cancel-nonpos, Order.mul-neg_neg, Order.mul-pos, Order.product_zero, Ring.ring}
use Rattle.qh_model.proofs.algebra.{Ring.Expr.mul, Ring.Expr.sub as less, Ring.Expr.var, Signs.gap_positive}
use Rattle.qh_model.proofs.algebra.VectorIdentities.{crossE, dotE, edge_product, in_line-vol, put, vec, vol-swap_last}
use Rattle.qh_model.proofs.{extremes.Directions.square-positive, polygons.Neighbours.follows_members, polygons.Neighbours.next_member}

-- ---- members of a cycle
-- membership of an id in a list is decided
pub in_or_not : (l : ℕ) (q : List ℕ) → In l q ⊎ (¬ (In l q))
in_or_not l [] = inr (λ i. i)
in_or_not l (m ∷ q) = dite (ℕ_discrete l m) (λ e. inl (inl e)) (λ n. pick n (in_or_not l q))
  where
    pick : ¬ (l ≡ m) → In l q ⊎ (¬ (In l q)) → In l (m ∷ q) ⊎ (¬ (In l (m ∷ q)))
    pick n (inl i) = inl (inr i)
    pick n (inr o) = inr none
      where
        none : In l (m ∷ q) → ⊥
        none (inl e) = n e
        none (inr i) = o i

-- each id on a path has a predecessor
before_along : (v t : ℕ) (r : List ℕ) (e : ℕ) → (v ≡ e) ⊎ In v r → (p : ℕ) × FollowsAlong p v t r e
before_along v t [] e (inl h) = (t, (refl, sym h))
before_along v t [] e (inr h) = absurd h
before_along v t (w ∷ r) e (inl h) = let g = before_along v w r e (inl h) in (g.0, inr g.1)
before_along v t (w ∷ r) e (inr (inl h)) = (t, inl (refl, sym h))
before_along v t (w ∷ r) e (inr (inr h)) = let g = before_along v w r e (inr h) in (g.0, inr g.1)

-- each member of a cycle has a predecessor
pub before_member : (v : ℕ) (q : List ℕ) → In v q → (p : ℕ) × Follows p v q
before_member v [] i = absurd i
before_member v (t ∷ r) i = before_along v t r t i

-- a third member
pub third_member : (q : List ℕ) → 3 ≤ length q → Once q → (p v : ℕ) → (w : ℕ) × In w q × (w ≢ p) × (w ≢ v)
third_member [] h o p v = absurd (omega arith)
third_member (a ∷ []) h o p v = absurd (omega arith)
third_member (a ∷ b ∷ []) h o p v = absurd (omega arith)
third_member (a ∷ b ∷ c ∷ r) h o p v = dite (ℕ_discrete a p)
    (λ e. dite (ℕ_discrete b v) (λ k. (c, inr (inr (inl refl)), (λ m. ac (e ∙ sym m)), λ m. bc (k ∙ sym m)))
    (λ k. (b, inr (inl refl), (λ m. ab (e ∙ sym m)), k))) (λ e. dite (ℕ_discrete a v) (λ k. dite (ℕ_discrete b p)
    (λ m. (c, inr (inr (inl refl)), (λ n. bc (m ∙ sym n)), λ n. ac (k ∙ sym n))) (λ m. (b, inr (inl refl), m, λ n. ab (k ∙ sym n)))) (λ k. (a, inl refl, e, k)))
  where
    ab : a ≢ b
    ab e = o.0 (inl e)

    ac : a ≢ c
    ac e = o.0 (inr (inl e))

    bc : b ≢ c
    bc e = o.1.0 (inl e)

-- ---- directions in the plane
-- the volume of two points of a plane and the direction in the plane that is at right angles to w
square_volume : (z l m w n : Vector) → dot (cross z l m) (cross_product w n)
    ≡ dot w (minus l z) *ℤ dot n (minus m z) -ℤ dot n (minus l z) *ℤ dot w (minus m z)
unfolding cross
square_volume z l m w n =
    ring (put (minus l z) (put (minus m z) (put w (put n [])))) (dotE (crossE (vec 0) (vec 1)) (crossE (vec 2) (vec 3)))
    (less (mul (dotE (vec 2) (vec 0)) (dotE (vec 3) (vec 1))) (mul (dotE (vec 3) (vec 0)) (dotE (vec 2) (vec 1)))) refl

-- the volume is positive if l is beyond m along w, and both are at the same distance from z along n
pub beyond_volume : (z l m w n : Vector) → pos 0 <ℤ dot n (minus l z) → dot n (minus m z) ≡ dot n (minus l z) → dot w (minus m z) <ℤ dot w (minus l z)
    → pos 0 <ℤ vol z l m (plus z (cross_product w n))
beyond_volume z l m w n h e far =
    subst (λ k. pos 0 <ℤ k) (sym (vol-plus z l m (cross_product w n) ∙ square_volume z l m w n
    ∙ plain (dot n (minus l z)) (dot n (minus m z)) (dot w (minus l z)) (dot w (minus m z)) e))
    (mul-pos (dot n (minus l z)) (dot w (minus l z) -ℤ dot w (minus m z)) h (gap_positive (dot w (minus m z)) (dot w (minus l z)) far))
  where
    split : (h a b : ℤ) → a *ℤ h -ℤ h *ℤ b ≡ h *ℤ (a -ℤ b)
    split h a b = ring (h ∷ a ∷ b ∷ []) (less (mul (var 1) (var 0)) (mul (var 0) (var 2))) (mul (var 0) (less (var 1) (var 2))) refl

    plain : (h k a b : ℤ) → k ≡ h → a *ℤ k -ℤ h *ℤ b ≡ h *ℤ (a -ℤ b)
    plain h k a b e = ap (λ m. a *ℤ m -ℤ h *ℤ b) e ∙ split h a b

-- ---- round the cycle
module _ (at : ℕ → Vector) (z l : Vector) (q : List ℕ) (sides : (u v : ℕ) → Follows u v q → pos 0 ≤ℤ vol z (at u) (at v) l)
    (turns : (u v x : ℕ) → Follows u v q → Follows v x q → pos 0 <ℤ vol z (at u) (at v) (at x)) where
  module _ (e : Vector) (ahead : (m : ℕ) → In m q → pos 0 <ℤ vol z l (at m) e) where
    -- a second direction, to the left of the first
    abbrev f : Vector
    f = plus z (cross z l e)

    abbrev num : ℕ → ℤ
    num m = vol z l (at m) f

    abbrev den : ℕ → ℤ
    den m = vol z l (at m) e

    -- the second direction is to the left
    left_of : (m : ℕ) → In m q → pos 0 <ℤ vol z l e f
    left_of m i = subst (λ k. pos 0 <ℤ k) (sym (vol-plus z l e (cross z l e))) (square-positive (cross z l e) (λ h. level h))
      where
        zero : (a b : ℤ) → a ≡ neg_ℤ b → b ≡ pos 0 → pos 0 <ℤ a → ⊥
        zero a b e f h = omega (arith, ints)

        level : AreInLine z l e → ⊥
        level h = zero (vol z l (at m) e) (vol z l e (at m)) (vol-swap_last z l (at m) e) (in_line-vol z l e (at m) h) (ahead m i)

    -- the difference of the fractions of a side's ends, up to a factor, is the volume of the side and l
    step : (u v : ℕ) → num v *ℤ den u -ℤ num u *ℤ den v ≡ vol z l (at u) (at v) *ℤ vol z l e f
    step u v = turned (num v) (den u) (num u) (den v) ∙ edge_product z l (at u) (at v) e f
      where
        turned : (a b c d : ℤ) → a *ℤ b -ℤ c *ℤ d ≡ b *ℤ a -ℤ c *ℤ d
        turned a b c d = omega (arith, ints)

    -- if the fraction of u is greatest, l is level with the side from u to v, and the fraction of v is greatest, too
    none_left : (u : ℕ) → In u q → IsGreatest num den u q → (v : ℕ) → Follows u v q → (vol z l (at u) (at v) ≡ pos 0) × IsGreatest num den v q
    none_left u i g v k = (zero, next)
      where
        j : In v q
        j = (follows_members u v q k).1

        positive : pos 0 <ℤ vol z l e f
        positive = left_of u i

        seen : pos 0 ≤ℤ vol z l (at u) (at v)
        seen = subst (λ s. pos 0 ≤ℤ s) (sym (vol-round z l (at u) (at v))) (sides u v k)

        zero : vol z l (at u) (at v) ≡ pos 0
        zero =
            let product = subst (λ s. s ≤ℤ pos 0) (mul_comm (vol z l (at u) (at v)) (vol z l e f)) (omega (arith, ints, step u v, g v j)) in
            omega (arith, ints, seen, cancel-nonpos (vol z l e f) (vol z l (at u) (at v)) positive product)

        next : IsGreatest num den v q
        next s m =
            ratio-trans (num s) (num u) (num v) (den s) (den u) (den v) (ahead s m) (ahead u i) (ahead v j) (g s m)
            (omega (arith, ints, step u v, ap (λ k. k *ℤ vol z l e f) zero ∙ zero_mul (vol z l e f)))

    -- so there is no direction of this kind
    pub none_ahead : (m : ℕ) → In m q → ⊥
    none_ahead m i = start (greatest_of q m i ahead)
      where
        greatest_of : (xs : List ℕ) (m : ℕ) → In m xs → ((x : ℕ) → In x xs → pos 0 <ℤ den x) → (u : ℕ) × In u xs × IsGreatest num den u xs
        greatest_of [] m i h = absurd i
        greatest_of (x ∷ xs) m i h = greatest num den x xs h

        start : (u : ℕ) × In u q × IsGreatest num den u q → ⊥
        start (u, j, g) = second (next_member u q j)
          where
            second : (v : ℕ) × Follows u v q → ⊥
            second (v, k) = let r = none_left u j g v k in last r.0 r.1 (next_member v q (follows_members u v q k).1)
              where
                last : vol z l (at u) (at v) ≡ pos 0 → IsGreatest num den v q → (x : ℕ) × Follows v x q → ⊥
                last zero h (x, n) =
                    clash (vol z (at v) (at u) l) (vol z (at v) (at x) e) (vol z (at v) (at u) e) (vol z (at v) (at x) l)
                    (vol z (at v) (at u) (at x)) (vol z (at v) l e) (edge_product z (at v) (at u) (at x) l e)
                    (flip_round z (at u) (at v) l ∙ ap neg_ℤ (sym (vol-round z l (at u) (at v)) ∙ zero))
                    (sym (vol-round z l (at v) (at x)) ∙ (none_left v (follows_members u v q k).1 h x n).0)
                    (negative (vol z (at u) (at v) (at x)) (vol z (at v) (at u) (at x)) (flip_round z (at u) (at v) (at x)) (turns u v x k n))
                    (negative (vol z l (at v) e) (vol z (at v) l e) (flip_round z l (at v) e) (ahead v (follows_members u v q k).1))
                  where
                    negative : (a b : ℤ) → b ≡ neg_ℤ a → pos 0 <ℤ a → b <ℤ pos 0
                    negative a b e h = omega (arith, ints)

                    clash : (a b c d k m : ℤ) → a *ℤ b -ℤ c *ℤ d ≡ k *ℤ m → a ≡ pos 0 → d ≡ pos 0 → k <ℤ pos 0 → m <ℤ pos 0 → ⊥
                    clash a b c d k m e f g h n = omega (arith, ints, ap (λ s. s *ℤ b) f ∙ zero_mul b, product_zero c d g, mul-neg_neg k m h n)
