-- A convex combination of points is a convex combination of the same points under other names, and of a set with more points.
use Rattle.qh_model.proofs.Common.{◌≡◌, ℕ, ap, ℤ, Combination, IsBalanced, Vector}

-- f names the members, with the same points
pub combination_by_names : (at at' : ℕ → Vector) (A B : ℕ → Type 0) (f : ℕ → ℕ) → ((j : ℕ) → A j → B (f j)) → ((j : ℕ) → A j → at' (f j) ≡ at j)
    → (p : Vector) → Combination at A p → Combination at' B p
combination_by_names at at' A B f named same p m = record {
  a = f m.a;
  b = f m.b;
  c = f m.c;
  d = f m.d;
  has_a = named m.a m.has_a;
  has_b = named m.b m.has_b;
  has_c = named m.c m.has_c;
  has_d = named m.d m.has_d;
  w1 = m.w1;
  w2 = m.w2;
  w3 = m.w3;
  w4 = m.w4;
  some_weight = m.some_weight;
  x = along (λ v. v.x) p.x m.x;
  y = along (λ v. v.y) p.y m.y;
  z = along (λ v. v.z) p.z m.z;
}
  where
    along : (h : Vector → ℤ) (n : ℤ) → IsBalanced m.w1 m.w2 m.w3 m.w4 n (h (at m.a)) (h (at m.b)) (h (at m.c)) (h (at m.d))
        → IsBalanced m.w1 m.w2 m.w3 m.w4 n (h (at' (f m.a))) (h (at' (f m.b))) (h (at' (f m.c))) (h (at' (f m.d)))
    along h n e = cc (e, ap h (same m.a m.has_a), ap h (same m.b m.has_b), ap h (same m.c m.has_c), ap h (same m.d m.has_d))
