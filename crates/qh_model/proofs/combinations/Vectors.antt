-- Vectors of any dimension, and the projection along one of them.
use Rattle.qh_model.proofs.Common.{◌≡◌, ℕ, zero, suc, ◌+◌, ◌*◌, arith, refl, sym, ap, ◌∙◌, ◌⊎◌, inl, inr, ⊎_elim, ints, ℤ, pos, negsuc, ◌+ℤ◌, ◌*ℤ◌, neg_ℤ, ◌<ℤ◌}
use Rattle.qh_model.proofs.Common.{◌≤ℤ◌, *ℤ-zero, +ℤ_idr}
use lib.IntN.{*ℤ_comm, zero-*ℤ, +ℤ_idl}
use Rattle.qh_model.proofs.algebra.{Integers.ring_rules, Integers.mul_add, Order.square-nonneg}

-- vectors of n numbers
abbrev pub V : ℕ → Type 0
V zero = Unit {0}
V (suc n) = ℤ × V n

-- the scalar product
abbrev pub dot : (n : ℕ) → V n → V n → ℤ
dot zero u x = pos 0
dot (suc n) u x = u.0 *ℤ x.0 +ℤ dot n u.1 x.1

-- a u + b v
abbrev pub lin : (n : ℕ) → ℤ → V n → ℤ → V n → V n
lin zero a u b v = tt
lin (suc n) a u b v = (a *ℤ u.0 +ℤ b *ℤ v.0, lin n a u.1 b v.1)

-- the vector of zeros
abbrev pub nil : (n : ℕ) → V n
nil zero = tt
nil (suc n) = (pos 0, nil n)

-- scalar products are linear
pub dot_lin : (n : ℕ) (a b : ℤ) (u v x : V n) → dot n (lin n a u b v) x ≡ a *ℤ dot n u x +ℤ b *ℤ dot n v x
dot_lin zero a b u v x = omega (arith, ints)
dot_lin (suc n) a b u v x = ap (λ t. (a *ℤ u.0 +ℤ b *ℤ v.0) *ℤ x.0 +ℤ t) (dot_lin n a b u.1 v.1 x.1) ∙ simp ring_rules

-- scalar products commute
pub dot_comm : (n : ℕ) (u x : V n) → dot n u x ≡ dot n x u
dot_comm zero u x = refl
dot_comm (suc n) u x = rw (dot_comm n u.1 x.1, *ℤ_comm u.0 x.0)

-- scalar products are linear on the right
pub dot_lin_right : (n : ℕ) (a b : ℤ) (x u v : V n) → dot n x (lin n a u b v) ≡ a *ℤ dot n x u +ℤ b *ℤ dot n x v
dot_lin_right n a b x u v = dot_comm n x (lin n a u b v) ∙ dot_lin n a b u v x ∙ rw (dot_comm n u x, dot_comm n v x)

-- the scalar products of the zero vector are 0
pub dot_nil : (n : ℕ) (x : V n) → dot n (nil n) x ≡ pos 0
dot_nil zero x = refl
dot_nil (suc n) x = rw (dot_nil n x.1, zero-*ℤ x.0)

-- a vector's square is not below 0
pub dot_self : (n : ℕ) (x : V n) → pos 0 ≤ℤ dot n x x
dot_self zero x = omega (arith, ints)
dot_self (suc n) x = omega (arith, ints, square-nonneg x.0, dot_self n x.1)

-- the space one dimension lower, along d
pub record Cut (n : ℕ) (d : V (suc n)) : Type 0 where
  pub project : V (suc n) → V n
  pub lift : V n → V (suc n)
  pub lifts : (u : V n) (x : V (suc n)) → dot (suc n) (lift u) x ≡ dot n u (project x)
  pub kills : (u : V n) → dot (suc n) (lift u) d ≡ pos 0
  pub grows : pos 0 <ℤ dot (suc n) d d
  pub scale : ℕ
  pub along : V (suc n)
  pub rest : V (suc n) → V n
  pub splits : (u x : V (suc n)) → pos (suc scale) *ℤ dot (suc n) u x ≡ dot (suc n) u d *ℤ dot (suc n) along x +ℤ dot n (rest u) (project x)

-- the projection along a vector whose head is not 0
by_head : (n k : ℕ) (h : ℤ) (t : V n) → pos (suc k) ≡ h *ℤ h → Cut n (h, t)
by_head n k h t e = record {
  project = λ x. lin n h x.1 (neg_ℤ x.0) t;
  lift = λ u. (neg_ℤ (dot n u t), lin n h u (pos 0) u);
  lifts = λ u x. ap (λ s. neg_ℤ (dot n u t) *ℤ x.0 +ℤ s) (dot_lin n h (pos 0) u u x.1)
      ∙ (simp ring_rules (omega (arith, ints))) ∙ sym (dot_lin_right n h (neg_ℤ x.0) u x.1 t);
  kills = λ u. ap (λ s. neg_ℤ (dot n u t) *ℤ h +ℤ s) (dot_lin n h (pos 0) u u t) ∙ simp ring_rules (omega (arith, ints));
  grows = rw (← e) (omega (arith, ints, dot_self n t));
  scale = k;
  along = (h, nil n);
  rest = λ u. lin n h u.1 (pos 0) u.1;
  splits = λ u x. ap (λ s. s *ℤ (u.0 *ℤ x.0 +ℤ dot n u.1 x.1)) e
      ∙ (simp ring_rules (omega (arith, ints)))
      ∙ ap (λ s. (u.0 *ℤ h +ℤ dot n u.1 t) *ℤ s +ℤ h *ℤ (h *ℤ dot n u.1 x.1 +ℤ neg_ℤ x.0 *ℤ dot n u.1 t))
      (sym (ap (λ s. h *ℤ x.0 +ℤ s) (dot_nil n x.1) ∙ +ℤ_idr (h *ℤ x.0)))
      ∙ ap (λ s. (u.0 *ℤ h +ℤ dot n u.1 t) *ℤ (h *ℤ x.0 +ℤ dot n (nil n) x.1) +ℤ s)
      (sym (dot_lin n h (pos 0) u.1 u.1 (lin n h x.1 (neg_ℤ x.0) t) ∙ (omega (arith, ints)) ∙ ap (λ s. h *ℤ s) (dot_lin_right n h (neg_ℤ x.0) u.1 x.1 t)));
}

-- a head 0 contributes nothing
flat_head : (u D : ℤ) → D ≡ pos 0 → u *ℤ pos 0 +ℤ D ≡ pos 0
flat_head u D e = rw (e, *ℤ-zero u)

-- splitting is by the tail
split_tail : (a u x D Q E R : ℤ) → a *ℤ D ≡ E *ℤ Q +ℤ R → a *ℤ (u *ℤ x +ℤ D) ≡ (u *ℤ pos 0 +ℤ E) *ℤ (pos 0 *ℤ x +ℤ Q) +ℤ ((a *ℤ u) *ℤ x +ℤ R)
split_tail a u x D Q E R e = rw (*ℤ-zero u, zero-*ℤ x, +ℤ_idl E, +ℤ_idl Q, mul_add a (u *ℤ x) D, e) (simp ring_rules)

-- the projection along a vector whose head is 0, by that along its tail
by_tail : (n : ℕ) (t : V (suc n)) → Cut n t → Cut (suc n) (pos 0, t)
by_tail n t c = record {
  project = λ x. (x.0, c.project x.1);
  lift = λ u. (u.0, c.lift u.1);
  lifts = λ u x. ap (λ s. u.0 *ℤ x.0 +ℤ s) (c.lifts u.1 x.1);
  kills = λ u. flat_head u.0 _ (c.kills u.1);
  grows = omega (arith, ints, c.grows);
  scale = c.scale;
  along = (pos 0, c.along);
  rest = λ u. (pos (suc c.scale) *ℤ u.0, c.rest u.1);
  splits = λ u x. split_tail (pos (suc c.scale)) u.0 x.0 (dot (suc n) u.1 x.1) _ _ _ (c.splits u.1 x.1);
}

-- d is 0
abbrev pub Flat : (n : ℕ) → V n → Type 0
Flat n d = (u : V n) → dot n u d ≡ pos 0

-- a vector of head 0 and tail 0 is 0
flat_tail : (n : ℕ) (t : V n) → Flat n t → Flat (suc n) (pos 0, t)
flat_tail n t f u = flat_head u.0 _ (f u.1)

-- a vector is zero, or there is a projection along it
pub cut : (n : ℕ) (d : V (suc n)) → Flat (suc n) d ⊎ Cut n d
cut zero (pos zero, t) = inl (flat_tail zero t (λ u. refl))
cut (suc n) (pos zero, t) = ⊎_elim (λ f. inl (flat_tail (suc n) t f)) (λ c. inr (by_tail n t c)) (cut n t)
cut n (pos (suc k), t) = inr (by_head n (k * k + k + k) (pos (suc k)) t (omega (arith, ints)))
cut n (negsuc k, t) = inr (by_head n (k * k + k + k) (negsuc k) t (omega (arith, ints)))
