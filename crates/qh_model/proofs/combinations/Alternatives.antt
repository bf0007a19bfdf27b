-- The theorem of alternatives for points of space.
use Rattle.qh_model.proofs.Common.{◌≡◌, ℕ, ◌+◌, ◌<◌, ◌≤◌, arith, sym, ap, ◌∙◌, List, [], ◌∷◌, mul-le-mul_left, ints, ℤ, pos, ◌+ℤ◌, ◌-ℤ◌, ◌*ℤ◌}
use Rattle.qh_model.proofs.Common.{◌<ℤ◌, IsBalanced, Combination, In, Members, Vector, dot, Separator}
use borrow.Author.Differences.{lt_out}
use Rattle.qh_model.proofs.{Members.every_at, algebra.Integers.ring_rules, algebra.Integers.add_mul, combinations.Vectors.V, combinations.Vectors.dot as vdot}
use Rattle.qh_model.proofs.combinations.WeightedTerms.{total, weight, count, Among, Balanced, Separated, alternative}
use Rattle.qh_model.specs.laws.CombinationLaws.{CombinationOrSeparator, NeverBoth}

-- ---- four terms
-- four weighted members with the weight and the totals of a list
record Four {A : Type 0} (xs : List A) (ts : List (ℕ × A)) : Type 0 where
  p : ℕ × A
  q : ℕ × A
  r : ℕ × A
  s : ℕ × A
  has_p : In p.1 xs
  has_q : In q.1 xs
  has_r : In r.1 xs
  has_s : In s.1 xs
  weighs : weight ts ≡ p.0 + q.0 + r.0 + s.0
  sums : (g : A → ℤ) → total g ts ≡ pos p.0 *ℤ g p.1 +ℤ pos q.0 *ℤ g q.1 +ℤ pos r.0 *ℤ g r.1 +ℤ pos s.0 *ℤ g s.1

-- the terms of the list
four_of : {A : Type 0} {xs : List A} {ts : List (ℕ × A)} (p q r s : ℕ × A) → In p.1 xs → In q.1 xs → In r.1 xs → In s.1 xs
    → weight ts ≡ p.0 + q.0 + r.0 + s.0
    → ((g : A → ℤ) → total g ts ≡ pos p.0 *ℤ g p.1 +ℤ pos q.0 *ℤ g q.1 +ℤ pos r.0 *ℤ g r.1 +ℤ pos s.0 *ℤ g s.1) → Four xs ts
four_of p q r s a b c d e f = record { p = p; q = q; r = r; s = s; has_p = a; has_q = b; has_r = c; has_s = d; weighs = e; sums = f }

-- at most four terms are exactly four, with weights 0 for the missing ones
four : {A : Type 0} (xs : List A) (ts : List (ℕ × A)) → Among xs ts → count ts ≤ 4 → 0 < weight ts → Four xs ts
four xs [] m c h = absurd (omega arith)
four xs (p ∷ []) m c h = four_of p (0, p.1) (0, p.1) (0, p.1) m.0 m.0 m.0 m.0 (omega arith) (λ g. omega (arith, ints))
four xs (p ∷ q ∷ []) m c h = four_of p q (0, p.1) (0, p.1) m.0 m.1.0 m.0 m.0 (omega arith) (λ g. omega (arith, ints))
four xs (p ∷ q ∷ r ∷ []) m c h = four_of p q r (0, p.1) m.0 m.1.0 m.1.1.0 m.0 (omega arith) (λ g. omega (arith, ints))
four xs (p ∷ q ∷ r ∷ s ∷ []) m c h = four_of p q r s m.0 m.1.0 m.1.1.0 m.1.1.1.0 (omega arith) (λ g. omega (arith, ints))
four xs (p ∷ q ∷ r ∷ s ∷ t ∷ ts) m c h = absurd (omega arith)

-- ---- differences from p
abbrev toward : (ℕ → Vector) → Vector → ℕ → V 3
toward at p i = ((at i).x -ℤ p.x, ((at i).y -ℤ p.y, ((at i).z -ℤ p.z, tt)))

-- the total of differences from P
total_from : {A : Type 0} (d g : A → ℤ) (P : ℤ) → ((a : A) → d a ≡ g a -ℤ P) → (ts : List (ℕ × A)) → total d ts +ℤ pos (weight ts) *ℤ P ≡ total g ts
total_from d g P e [] = omega (arith, ints)
total_from d g P e (t ∷ ts) =
    ap (λ s. (pos t.0 *ℤ s +ℤ total d ts) +ℤ pos (t.0 + weight ts) *ℤ P) (e t.1)
    ∙ ap (λ s. (pos t.0 *ℤ (g t.1 -ℤ P) +ℤ total d ts) +ℤ s) (add_mul (pos t.0) (pos (weight ts)) P)
    ∙ (let rest = total_from d g P e ts in simp ring_rules (omega (arith, ints, rest)))

-- balanced differences are a convex combination
combination_of : (at : ℕ → Vector) (ids : List ℕ) (p : Vector) → Balanced ℕ 3 (toward at p) ids → Combination at (Members ids) p
combination_of at ids p m = record {
  a = q.p.1;
  b = q.q.1;
  c = q.r.1;
  d = q.s.1;
  has_a = q.has_p;
  has_b = q.has_q;
  has_c = q.has_r;
  has_d = q.has_s;
  w1 = q.p.0;
  w2 = q.q.0;
  w3 = q.r.0;
  w4 = q.s.0;
  some_weight = omega (arith, q.weighs, m.heavy);
  x = along (pos 1, (pos 0, (pos 0, tt))) p.x (λ i. (at i).x) (λ i. omega (arith, ints));
  y = along (pos 0, (pos 1, (pos 0, tt))) p.y (λ i. (at i).y) (λ i. omega (arith, ints));
  z = along (pos 0, (pos 0, (pos 1, tt))) p.z (λ i. (at i).z) (λ i. omega (arith, ints));
}
  where
    q : Four ids m.terms
    q = four ids m.terms m.among m.few m.heavy

    along : (u : V 3) (P : ℤ) (g : ℕ → ℤ) → ((i : ℕ) → vdot 3 u (toward at p i) ≡ g i -ℤ P)
        → IsBalanced q.p.0 q.q.0 q.r.0 q.s.0 P (g q.p.1) (g q.q.1) (g q.r.1) (g q.s.1)
    along u P g e = ap (λ t. pos t *ℤ P) (sym q.weighs) ∙ (omega (arith, ints, total_from (λ i. vdot 3 u (toward at p i)) g P e m.terms, m.sums u)) ∙ q.sums g

-- a negative scalar product of the difference is an order of scalar products
past_from : (u v w ax ay az px py pz : ℤ) → (u *ℤ (ax -ℤ px) +ℤ (v *ℤ (ay -ℤ py) +ℤ (w *ℤ (az -ℤ pz) +ℤ pos 0))) <ℤ pos 0
    → (u *ℤ ax +ℤ v *ℤ ay +ℤ w *ℤ az) <ℤ (u *ℤ px +ℤ v *ℤ py +ℤ w *ℤ pz)
past_from u v w ax ay az px py pz h = let k = simp ring_rules at h in omega (arith, ints, k)

-- separated differences are a separator
separator_of : (at : ℕ → Vector) (ids : List ℕ) (p : Vector) → Separated ℕ 3 (toward at p) ids → Separator at (Members ids) p
separator_of at ids p s = record {
  w = record { x = s.w.0; y = s.w.1.0; z = s.w.1.1.0 };
  past = λ a m. past_from s.w.0 s.w.1.0 s.w.1.1.0 (at a).x (at a).y (at a).z p.x p.y p.z (every_at (λ i. vdot 3 s.w (toward at p i) <ℤ pos 0) ids a s.below m);
}

-- proof of the law `CombinationOrSeparator`
pub combination_or_separator : CombinationOrSeparator
combination_or_separator = grind (arith, combination_of, separator_of, alternative)

-- ---- not both
-- numbers below P do not balance to P
lower_weights : (k l m n : ℕ) (P A B C D : ℤ) → pos (k + l + m + n) *ℤ P ≡ pos k *ℤ A +ℤ pos l *ℤ B +ℤ pos m *ℤ C +ℤ pos n *ℤ D → 0 < k + l + m + n → A <ℤ P
    → B <ℤ P → C <ℤ P → D <ℤ P → ⊥
lower_weights k l m n P A B C D e h a b c d =
    omega (arith, ints, mul-le-mul_left k (lt_out A P a), mul-le-mul_left l (lt_out B P b), mul-le-mul_left m (lt_out C P c), mul-le-mul_left n (lt_out D P d))

-- w does not put all members of a convex combination below it
pub all_lower : (at : ℕ → Vector) (A : ℕ → Type 0) (p w : Vector) (m : Combination at A p)
    → dot w (at m.a) <ℤ dot w p → dot w (at m.b) <ℤ dot w p → dot w (at m.c) <ℤ dot w p → dot w (at m.d) <ℤ dot w p → ⊥
all_lower at A p w m = lower_weights m.w1 m.w2 m.w3 m.w4 (dot w p) (dot w (at m.a)) (dot w (at m.b)) (dot w (at m.c)) (dot w (at m.d))
    ((simp ring_rules (omega (arith, ints)))
    ∙ ap (λ t. w.x *ℤ t +ℤ w.y *ℤ (W *ℤ p.y) +ℤ w.z *ℤ (W *ℤ p.z)) m.x
    ∙ ap (λ t. w.x *ℤ side (λ q. q.x) +ℤ w.y *ℤ t +ℤ w.z *ℤ (W *ℤ p.z)) m.y
    ∙ ap (λ t. w.x *ℤ side (λ q. q.x) +ℤ w.y *ℤ side (λ q. q.y) +ℤ w.z *ℤ t) m.z
    ∙ simp ring_rules (omega (arith, ints)))
    m.some_weight
  where
    W : ℤ
    W = pos (m.w1 + m.w2 + m.w3 + m.w4)

    side : (Vector → ℤ) → ℤ
    side g = pos m.w1 *ℤ g (at m.a) +ℤ pos m.w2 *ℤ g (at m.b) +ℤ pos m.w3 *ℤ g (at m.c) +ℤ pos m.w4 *ℤ g (at m.d)

-- proof of the law `NeverBoth`
pub never_both : NeverBoth
never_both at ids p m s = all_lower at (Members ids) p s.w m (s.past m.a m.has_a) (s.past m.b m.has_b) (s.past m.c m.has_c) (s.past m.d m.has_d)
