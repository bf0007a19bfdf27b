-- Corners perturbed slightly towards an inner point, each by its own share: level corners are then strictly below.
use Rattle.qh_model.proofs.Common.{IsInner, perturbed, towards, Surface, rise, Weighted, above, In, ◌≡◌, ℕ, zero, suc, ◌+◌, ◌≤◌, refl, List, [], ◌∷◌, arith}
use Rattle.qh_model.proofs.Common.{sym, subst, ints, ℤ, pos, negsuc, ◌+ℤ◌, ◌*ℤ◌, neg_ℤ, ◌≤ℤ◌, ◌<ℤ◌}
use Rattle.qh_model.proofs.{Members.each_more, algebra.Order.mul-nonneg_nonpos, algebra.Order.mul-pos, algebra.Order.mul-pos_neg}
use Rattle.qh_model.proofs.surfaces.Determinants.{above_of, quad, QE, aboveE, put4}
use Rattle.qh_model.proofs.algebra.Ring.{Expr, ring, Expr.var, Expr.add, Expr.mul}

-- the contribution of the shares
abbrev pub tilt : (o a b c p : Weighted) (h i j k : ℤ) → ℤ
tilt o a b c p h i j k = h *ℤ above o b c p +ℤ i *ℤ above a o c p +ℤ j *ℤ above a b o p +ℤ k *ℤ above a b c o

-- the same for expressions
abbrev pub towardsE : QE → Expr → QE → Expr → QE
towardsE o n p k = record { w = add (mul n p.w) (mul k o.w); x = add (mul n p.x) (mul k o.x); y = add (mul n p.y) (mul k o.y); z = add (mul n p.z) (mul k o.z) }

-- four points perturbed, each by its share
pub above-perturbed_all : (o a b c p : Weighted) (n h i j k : ℤ) → above (towards o n a h) (towards o n b i) (towards o n c j) (towards o n p k)
    ≡ n *ℤ n *ℤ n *ℤ (n *ℤ above a b c p +ℤ tilt o a b c p h i j k)
unfolding above
above-perturbed_all o a b c p n h i j k =
    let N = var 20 in let perturbed : ℕ → ℕ → QE = λ point by. towardsE (quad 0) N (quad point) (var by) in
    let tilted = add (add (add (mul (var 21) (above_of 0 2 3 4)) (mul (var 22) (above_of 1 0 3 4))) (mul (var 23) (above_of 1 2 0 4)))
    (mul (var 24) (above_of 1 2 3 0)) in
    ring (put4 o (put4 a (put4 b (put4 c (put4 p (n ∷ h ∷ i ∷ j ∷ k ∷ []))))))
    (aboveE (perturbed 1 21) (perturbed 2 22) (perturbed 3 23) (perturbed 4 24)) (mul (mul (mul N N) N) (add (mul N (above_of 1 2 3 4)) tilted)) refl

-- ---- finitely many numbers have a bound
pub size : ℤ → ℕ
size (pos n) = n
size (negsuc n) = suc n

-- this number is a bound
pub size_le : (x : ℤ) → (x ≤ℤ pos (size x)) × (neg_ℤ x ≤ℤ pos (size x))
unfolding size
size_le = grind arith

-- a bound for all members
abbrev Bounded : {X : Type 0} → (X → ℤ) → List X → Type 0
Bounded {X} r xs = (m : ℕ) × ((f : X) → In f xs → (r f <ℤ pos m) × (neg_ℤ (r f) <ℤ pos m))

-- there is a bound for all members
pub bound : {X : Type 0} (r : X → ℤ) (xs : List X) → Bounded r xs
bound r [] = (zero, λ f i. absurd i)
bound r (x ∷ xs) =
    let low = bound r xs in let own = size_le (r x) in let m : ℕ = suc (size (r x)) + low.0 in (
      m,
      each_more (λ f. (r f <ℤ pos m) × (neg_ℤ (r f) <ℤ pos m)) x xs (omega (arith, ints, own.0), omega (arith, ints, own.1))
          (λ f i. let h = low.1 f i in (omega (arith, ints, h.0), omega (arith, ints, h.1))),
    )

-- a large enough share
pub share : (b x : ℤ) (k : ℕ) → b <ℤ pos k → x <ℤ pos 0 → (b +ℤ pos k *ℤ x) <ℤ pos 0
share = grind arith

-- a large enough scale
pub scale : (e x : ℤ) (m n : ℕ) → neg_ℤ e <ℤ pos m → suc m ≤ n → pos 0 <ℤ x → pos 0 <ℤ (pos n *ℤ x +ℤ e)
scale = grind arith

-- a multiple of a number not above 0 plus a negative number is below 0
scale_down : (e x : ℤ) (n : ℕ) → e <ℤ pos 0 → x ≤ℤ pos 0 → (pos n *ℤ x +ℤ e) <ℤ pos 0
scale_down e x n h q = let s = mul-nonneg_nonpos (pos n) x (omega (arith, ints)) q in omega (arith, ints, h, s)

-- a product of three positive scales
pub cube : (m n : ℕ) → suc m ≤ n → pos 0 <ℤ (pos n *ℤ pos n *ℤ pos n)
cube m n h = let p : pos 0 <ℤ pos n = omega (arith, ints) in mul-pos (pos n *ℤ pos n) (pos n) (mul-pos (pos n) (pos n) p p) p

-- ---- a share for a new point
pub record Choice (m : Surface) (home : ℕ → Weighted) (o : Weighted) (h : ℕ → ℕ) (p : Weighted) : Type 0 where
  pub k : ℕ
  pub from : ℕ
  pub up : (n : ℕ) → from ≤ n → (f : ℕ) → In f m.live → pos 0 <ℤ rise m home f p → pos 0 <ℤ rise m (perturbed home o h n) f (towards o (pos n) p (pos k))
  pub down : (n : ℕ) → from ≤ n → (f : ℕ) → In f m.live → rise m home f p ≤ℤ pos 0 → rise m (perturbed home o h n) f (towards o (pos n) p (pos k)) <ℤ pos 0

-- there is a share for a new point
pub choose : (m : Surface) (home : ℕ → Weighted) (o : Weighted) → IsInner m home o → (h : ℕ → ℕ) (p : Weighted) → Choice m home o h p
choose m home o inner h p = record { k = k; from = suc scale_to; up = up; down = down }
  where
    base : ℕ → ℤ
    base f =
        let a = home (m.i f) in let b = home (m.j f) in let c = home (m.k f) in
        pos (h (m.i f)) *ℤ above o b c p +ℤ pos (h (m.j f)) *ℤ above a o c p +ℤ pos (h (m.k f)) *ℤ above a b o p

    k : ℕ
    k = (bound base m.live).0

    added : ℕ → ℤ
    added f = base f +ℤ pos k *ℤ rise m home f o

    scale_to : ℕ
    scale_to = (bound added m.live).0

    added_neg : (f : ℕ) → In f m.live → added f <ℤ pos 0
    added_neg f i = share (base f) (rise m home f o) k ((bound base m.live).1 f i).0 (inner f i)

    top : ℕ → Weighted
    top n = towards o (pos n) p (pos k)

    value : (n f : ℕ) → pos n *ℤ pos n *ℤ pos n *ℤ (pos n *ℤ rise m home f p +ℤ added f) ≡ rise m (perturbed home o h n) f (top n)
    value n f =
        let by : ℕ → ℤ = λ l. pos (h l) in
        sym (above-perturbed_all o (home (m.i f)) (home (m.j f)) (home (m.k f)) p (pos n) (by (m.i f)) (by (m.j f)) (by (m.k f)) (pos k))

    up : (n : ℕ) → suc scale_to ≤ n → (f : ℕ) → In f m.live → pos 0 <ℤ rise m home f p → pos 0 <ℤ rise m (perturbed home o h n) f (top n)
    up n q f i s =
        subst (λ v. pos 0 <ℤ v) (value n f) (mul-pos (pos n *ℤ pos n *ℤ pos n) (pos n *ℤ rise m home f p +ℤ added f) (cube scale_to n q)
        (scale (added f) (rise m home f p) scale_to n ((bound added m.live).1 f i).1 q s))

    down : (n : ℕ) → suc scale_to ≤ n → (f : ℕ) → In f m.live → rise m home f p ≤ℤ pos 0 → rise m (perturbed home o h n) f (top n) <ℤ pos 0
    down n q f i s =
        subst (λ v. v <ℤ pos 0) (value n f) (mul-pos_neg (pos n *ℤ pos n *ℤ pos n) (pos n *ℤ rise m home f p +ℤ added f) (cube scale_to n q)
        (scale_down (added f) (rise m home f p) n (added_neg f i) s))
