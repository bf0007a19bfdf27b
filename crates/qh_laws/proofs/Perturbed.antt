-- A point moved slightly, at a scale of whole numbers, so that finitely many scalar products are positive or not 0.
use Rattle.qh_model.proofs.Common.{In, List, Vector, [], arith, by_lt_z, dot, inl, inr, ints, neg_ℤ, origin, pos, refl, subst, sym, ℕ, ℤ, ◌*ℤ◌, ◌+ℤ◌, ◌<ℤ◌, ◌∷◌}
use Rattle.qh_model.proofs.{Common.◌≡◌, Common.◌≤ℤ◌, Common.◌⊎◌, algebra.Order.le_less, algebra.Order.mul-le, algebra.Order.mul-nonneg}
use Rattle.qh_model.proofs.algebra.{Order.zero_or_not, Ring.Expr, Ring.ring, Ring.Expr.add, Ring.Expr.mul, Ring.Expr.var, Signs.negated_positive}
use Rattle.qh_model.proofs.algebra.VectorIdentities.{VE, dot-opposite, dotE, opposite, put, vec}
use Rattle.qh_model.proofs.{closed_surfaces.Supporting.ceiling, extremes.Directions.square-positive}

-- n x + v
abbrev pub along : ℤ → Vector → Vector → Vector
along n x v = record { x = n *ℤ x.x +ℤ v.x; y = n *ℤ x.y +ℤ v.y; z = n *ℤ x.z +ℤ v.z }

-- the same for expressions
abbrev alongE : Expr → VE → VE → VE
alongE n x v = record { x = add (mul n x.x) v.x; y = add (mul n x.y) v.y; z = add (mul n x.z) v.z }

-- the scalar products of n x + v
pub dot-along : (p : Vector) (n : ℤ) (x v : Vector) → dot p (along n x v) ≡ n *ℤ dot p x +ℤ dot p v
dot-along p n x v =
    ring (put p (put x (put v (n ∷ [])))) (dotE (vec 0) (alongE (var 9) (vec 1) (vec 2))) (add (mul (var 9) (dotE (vec 0) (vec 1))) (dotE (vec 0) (vec 2))) refl

-- p is positive at x, or it is not below 0 and positive along v
abbrev pub Rises : Vector → Vector → Vector → Type 0
Rises p x v = (pos 0 <ℤ dot p x) ⊎ ((pos 0 ≤ℤ dot p x) × (pos 0 <ℤ dot p v))

-- all forms are positive at x
abbrev pub AllUp : List Vector → Vector → Type 0
AllUp ps x = (p : Vector) → In p ps → pos 0 <ℤ dot p x

-- a number plus a large multiple of a positive number
big_sum : (n : ℕ) (a b s : ℤ) → s ≡ pos n *ℤ a +ℤ b → pos 0 <ℤ a → neg_ℤ b <ℤ pos n → pos 0 <ℤ s
big_sum n a b s e h l = plain (pos n) (pos n *ℤ pos 1) (pos n *ℤ a) b s e one l (mul-le (pos n) (pos 1) a (omega (arith, ints)) (omega (arith, ints)))
  where
    one : pos n *ℤ pos 1 ≡ pos n
    one = omega (arith, ints)

    plain : (n m p b s : ℤ) → s ≡ p +ℤ b → m ≡ n → neg_ℤ b <ℤ n → m ≤ℤ p → pos 0 <ℤ s
    plain n m p b s e f l k = omega (arith, ints)

-- a positive number plus a multiple of a number not below 0
small_sum : (n : ℕ) (a b s : ℤ) → s ≡ pos n *ℤ a +ℤ b → pos 0 ≤ℤ a → pos 0 <ℤ b → pos 0 <ℤ s
small_sum n a b s e h l = plain (pos n *ℤ a) b s e (mul-nonneg (pos n) a (omega (arith, ints)) h) l
  where
    plain : (p b s : ℤ) → s ≡ p +ℤ b → pos 0 ≤ℤ p → pos 0 <ℤ b → pos 0 <ℤ s
    plain p b s e h l = omega (arith, ints)

-- a move along v from a large multiple of x
pub risen : (ps : List Vector) (x v : Vector) → ((p : Vector) → In p ps → Rises p x v) → (y : Vector) × AllUp ps y
risen ps x v h = go (ceiling (λ p. neg_ℤ (dot p v)) ps)
  where
    go : (c : ℕ) × ((p : Vector) → In p ps → neg_ℤ (dot p v) <ℤ pos c) → (y : Vector) × AllUp ps y
    go (c, f) = (along (pos c) x v, λ p i. pick p (f p i) (h p i))
      where
        pick : (p : Vector) → neg_ℤ (dot p v) <ℤ pos c → Rises p x v → pos 0 <ℤ dot p (along (pos c) x v)
        pick p l (inl k) = big_sum c (dot p x) (dot p v) (dot p (along (pos c) x v)) (dot-along p (pos c) x v) k l
        pick p l (inr k) = small_sum c (dot p x) (dot p v) (dot p (along (pos c) x v)) (dot-along p (pos c) x v) k.0 k.1

-- no scalar product is 0
abbrev pub AllOff : List Vector → Vector → Type 0
AllOff ls x = (l : Vector) → In l ls → ¬ (dot l x ≡ pos 0)

-- positive products stay positive, and no other product is 0
abbrev pub Perturbed : List Vector → List Vector → Type 0
Perturbed ls ps = (y : Vector) × AllUp ps y × AllOff ls y

-- one more product becomes positive
more_up : (l : Vector) (ps : List Vector) (x : Vector) → pos 0 <ℤ dot l x → AllUp ps x → AllUp (l ∷ ps) x
more_up l ps x h f p (inl e) = subst (λ q. pos 0 <ℤ dot q x) (sym e) h
more_up l ps x h f p (inr i) = f p i

-- one more product is not 0, since it is positive for l or for the opposite of l
more_off : (l : Vector) (ls ps : List Vector) → Perturbed ls (l ∷ ps) ⊎ Perturbed ls (opposite l ∷ ps) → Perturbed (l ∷ ls) ps
more_off l ls ps (inl (y, up, off)) = (y, λ p i. up p (inr i), each)
  where
    each : AllOff (l ∷ ls) y
    each k (inl e) = subst (λ q. ¬ (dot q y ≡ pos 0)) (sym e) (omega (arith, ints, up l (inl refl)))
    each k (inr i) = off k i
more_off l ls ps (inr (y, up, off)) = (y, λ p i. up p (inr i), each)
  where
    turned : (v w : ℤ) → w ≡ neg_ℤ v → pos 0 <ℤ w → ¬ (v ≡ pos 0)
    turned v w e h f = omega (arith, ints)

    each : AllOff (l ∷ ls) y
    each k (inl e) = subst (λ q. ¬ (dot q y ≡ pos 0)) (sym e) (turned (dot l y) (dot (opposite l) y) (dot-opposite l y) (up (opposite l) (inl refl)))
    each k (inr i) = off k i

pub perturbed : (ls ps : List Vector) (x : Vector) → ((l : Vector) → In l ls → ¬ (l ≡ origin)) → AllUp ps x → Perturbed ls ps
perturbed [] ps x n h = (x, h, λ l i. absurd i)
perturbed (l ∷ ls) ps x n h = start (λ qs w k. perturbed ls qs w (λ m i. n m (inr i)) k) (zero_or_not (dot l x))
  where
    settled : ((qs : List Vector) (w : Vector) → AllUp qs w → Perturbed ls qs) → (w : Vector) → AllUp ps w → ¬ (dot l w ≡ pos 0) → Perturbed (l ∷ ls) ps
    settled step w k o =
        by_lt_z (pos 0) (dot l w) (λ q. more_off l ls ps (inl (step (l ∷ ps) w (more_up l ps w q k)))) (λ q. more_off l ls ps (inr (step (opposite l ∷ ps) w
        (more_up (opposite l) ps w (negated_positive (dot (opposite l) w) (dot l w) (dot-opposite l w) (le_less (dot l w) (pos 0) q o)) k))))

    start : ((qs : List Vector) (w : Vector) → AllUp qs w → Perturbed ls qs) → (dot l x ≡ pos 0) ⊎ (¬ (dot l x ≡ pos 0)) → Perturbed (l ∷ ls) ps
    start step (inr o) = settled step x h o
    start step (inl o) = let (y, up) = risen (l ∷ ps) x l rises in settled step y (λ p i. up p (inr i)) (omega (arith, ints, up l (inl refl)))
      where
        rises : (p : Vector) → In p (l ∷ ps) → Rises p x l
        rises p (inl e) = subst (λ q. Rises q x l) (sym e) (inr (omega (arith, ints), square-positive l (n l (inl refl))))
        rises p (inr i) = inl (h p i)
