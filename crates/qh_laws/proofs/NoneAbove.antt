-- No corner of a locally convex surface is above a triangle of it: otherwise a direction over the corner would meet two triangles, one at the corner and one
-- that is highest there.
use Rattle.qh_model.proofs.Common.{◌≡◌, ℕ, ◌≤◌, refl, sym, ap, subst, ◌∙◌, arith, List, [], ◌∷◌, true, inl, inr, and_from, ints, by_lt_z, ℤ, pos, ◌+ℤ◌, ◌-ℤ◌}
use Rattle.qh_model.proofs.Common.{◌*ℤ◌, neg_ℤ, ◌≤ℤ◌, ◌<ℤ◌, Triple, IsClosed, cross, vol, In, Vector, minus, dot, IsCornerOf}
use Rattle.qh_model.proofs.algebra.{Order.mul-pos, Ring.ring, Ring.Expr.var, Ring.Expr.add, Ring.Expr.sub as less, Ring.Expr.mul, Ring.Expr.neg}
use Rattle.qh_model.proofs.{algebra.Signs.equal_positive, algebra.Signs.negated_positive, algebra.Signs.not_less, closed_surfaces.Sums.count}
use Rattle.qh_model.proofs.algebra.VectorIdentities.{VE, vec, put, subE, crossE, dotE, detE, vol-dot, vol-first, vol-second, vol-third}
use Rattle.qh_laws.specs.contract.LocallyConvex.{is_met}
use Rattle.qh_laws.proofs.{Directions.IsOffEdges, Directions.met_alike, Rounds.vol-round, Rounds.vol-outwards}
use Rattle.qh_laws.proofs.{Greatest.only_one, OffPoints.plus, OffPoints.minus-plus, OffPoints.edge_above, OffPoints.PointOff, OffPoints.off_all}
use Rattle.qh_laws.proofs.{Highest.rise, Highest.depth, Highest.height, Highest.HighestMet, Perturbed.AllUp, Perturbed.Rises, Perturbed.risen}

-- ---- forms of directions from z
-- the sum of three points, seen from z
abbrev pub middle : (z a b c : Vector) → Vector
middle z a b c = plus (plus (minus a z) (minus b z)) (minus c z)

-- the same for expressions
abbrev pub plusE : VE → VE → VE
plusE p q = record { x = add p.x q.x; y = add p.y q.y; z = add p.z q.z }

-- the sum is inside the first edge
pub middle-first : (z a b c : Vector) → dot (cross z a b) (middle z a b c) ≡ vol z a b c
unfolding vol cross
middle-first z a b c =
    ring (put (minus a z) (put (minus b z) (put (minus c z) [])))
    (dotE (crossE (vec 0) (vec 1)) (plusE (plusE (vec 0) (vec 1)) (vec 2))) (detE (vec 0) (vec 1) (vec 2)) refl

-- the sum is inside the second edge
pub middle-second : (z a b c : Vector) → dot (cross z b c) (middle z a b c) ≡ vol z a b c
unfolding vol cross
middle-second z a b c =
    ring (put (minus a z) (put (minus b z) (put (minus c z) [])))
    (dotE (crossE (vec 1) (vec 2)) (plusE (plusE (vec 0) (vec 1)) (vec 2))) (detE (vec 0) (vec 1) (vec 2)) refl

-- the sum is inside the third edge
pub middle-third : (z a b c : Vector) → dot (cross z c a) (middle z a b c) ≡ vol z a b c
unfolding vol cross
middle-third z a b c =
    ring (put (minus a z) (put (minus b z) (put (minus c z) [])))
    (dotE (crossE (vec 2) (vec 0)) (plusE (plusE (vec 0) (vec 1)) (vec 2))) (detE (vec 0) (vec 1) (vec 2)) refl

-- p n - q m
abbrev balance : ℤ → Vector → ℤ → Vector → Vector
balance p n q m = record { x = p *ℤ n.x -ℤ q *ℤ m.x; y = p *ℤ n.y -ℤ q *ℤ m.y; z = p *ℤ n.z -ℤ q *ℤ m.z }

-- the scalar products of this vector
dot-balance : (p : ℤ) (n : Vector) (q : ℤ) (m y : Vector) → dot (balance p n q m) y ≡ p *ℤ dot n y -ℤ q *ℤ dot m y
dot-balance p n q m y =
    ring (put n (put m (put y (p ∷ q ∷ []))))
    (dotE (record {
      x = less (mul (var 9) (var 0)) (mul (var 10) (var 3));
      y = less (mul (var 9) (var 1)) (mul (var 10) (var 4));
      z = less (mul (var 9) (var 2)) (mul (var 10) (var 5));
    }) (vec 2))
    (less (mul (var 9) (dotE (vec 0) (vec 2))) (mul (var 10) (dotE (vec 1) (vec 2)))) refl

-- the volume with a point, from its direction from z
pub vol-from : (a b c z q : Vector) → vol a b c q ≡ dot (cross a b c) (minus q z) +ℤ vol a b c z
vol-from a b c z q = vol-dot a b c q ∙ linear (cross a b c) ∙ ap (λ v. dot (cross a b c) (minus q z) +ℤ v) (sym (vol-dot a b c z))
  where
    linear : (n : Vector) → dot n (minus q a) ≡ dot n (minus q z) +ℤ dot n (minus z a)
    linear n =
        ring (put n (put q (put z (put a [])))) (dotE (vec 0) (subE (vec 1) (vec 3)))
        (add (dotE (vec 0) (subE (vec 1) (vec 2))) (dotE (vec 0) (subE (vec 2) (vec 3)))) refl

module _ (at : ℕ → Vector) (z : Vector) (ts : List Triple) (inside : (t : Triple) → In t ts → rise at t z <ℤ pos 0) where
  -- the normal of a triangle
  abbrev normal : Triple → Vector
  normal t = cross (at t.i) (at t.j) (at t.k)

  -- the distance of z below the triangle
  abbrev sunk : Triple → ℤ
  sunk t = neg_ℤ (rise at t z)

  -- positive if a direction rises more over t than over s, relative to their depths
  abbrev over : Triple → Triple → Vector
  over s t = balance (sunk s) (normal t) (sunk t) (normal s)

  -- the forms that are positive inside s and where t is higher
  abbrev forms : Triple → Triple → List Vector
  forms s t = cross z (at s.i) (at s.j) ∷ cross z (at s.j) (at s.k) ∷ cross z (at s.k) (at s.i) ∷ over s t ∷ []

  -- a direction to a point where they are positive meets s
  met_there : (s t : Triple) (y : Vector) → AllUp (forms s t) y → is_met at z (plus z y) s ≡ true
  met_there s t y up =
      and_from _ _ (edge_above z y (at s.i) (at s.j) (up (cross z (at s.i) (at s.j)) (inl refl)))
      (and_from _ _ (edge_above z y (at s.j) (at s.k) (up (cross z (at s.j) (at s.k)) (inr (inl refl))))
      (edge_above z y (at s.k) (at s.i) (up (cross z (at s.k) (at s.i)) (inr (inr (inl refl))))))

  -- t is higher there
  higher_there : (s t : Triple) (y : Vector) → AllUp (forms s t) y
      → (height at z (plus z y) ts s *ℤ depth at z (plus z y) ts t) <ℤ (height at z (plus z y) ts t *ℤ depth at z (plus z y) ts s)
  higher_there s t y up =
      plain (dot (over s t) y) (rise at s z) (rise at t z) (rise at s (plus z y)) (rise at t (plus z y)) (dot (normal s) y) (dot (normal t) y)
      (dot-balance (sunk s) (normal t) (sunk t) (normal s) y) (risen_from s) (risen_from t) (up (over s t) (inr (inr (inr (inl refl)))))
    where
      risen_from : (r : Triple) → rise at r (plus z y) ≡ dot (normal r) y +ℤ rise at r z
      risen_from r = vol-from (at r.i) (at r.j) (at r.k) z (plus z y) ∙ ap (λ v. dot (normal r) v +ℤ rise at r z) (minus-plus z y)

      same : (a b p q : ℤ) → (q +ℤ b) *ℤ neg_ℤ a -ℤ (p +ℤ a) *ℤ neg_ℤ b ≡ neg_ℤ a *ℤ q -ℤ neg_ℤ b *ℤ p
      same a b p q =
          ring (a ∷ b ∷ p ∷ q ∷ []) (less (mul (add (var 3) (var 1)) (neg (var 0))) (mul (add (var 2) (var 0)) (neg (var 1))))
          (less (mul (neg (var 0)) (var 3)) (mul (neg (var 1)) (var 2))) refl

      plain : (g a b hs ht p q : ℤ) → g ≡ neg_ℤ a *ℤ q -ℤ neg_ℤ b *ℤ p → hs ≡ p +ℤ a → ht ≡ q +ℤ b → pos 0 <ℤ g → (hs *ℤ neg_ℤ b) <ℤ (ht *ℤ neg_ℤ a)
      plain g a b hs ht p q e f k h = rw (f, k) (omega (arith, ints, same a b p q ∙ sym e))

  -- a corner of s is not outside s
  record IsIn (s : Triple) (l : Vector) : Type 0 where
    first : pos 0 ≤ℤ vol z (at s.i) (at s.j) l
    second : pos 0 ≤ℤ vol z (at s.j) (at s.k) l
    third : pos 0 ≤ℤ vol z (at s.k) (at s.i) l
    level : rise at s l ≡ pos 0

  -- z is behind s
  pub outwards : (s : Triple) → In s ts → pos 0 <ℤ vol z (at s.i) (at s.j) (at s.k)
  outwards s i = negated_positive (vol z (at s.i) (at s.j) (at s.k)) (rise at s z) (vol-outwards z (at s.i) (at s.j) (at s.k)) (inside s i)

  corner_in : (s : Triple) → In s ts → (l : ℕ) → In l (s.i ∷ s.j ∷ s.k ∷ []) → IsIn s (at l)
  corner_in s i l m = pick m
    where
      zero : (v : ℤ) → v ≡ pos 0 → pos 0 ≤ℤ v
      zero v e = omega (arith, ints)

      pick : In l (s.i ∷ s.j ∷ s.k ∷ []) → IsIn s (at l)
      pick (inl e) = subst (λ n. IsIn s (at n)) (sym e) (record {
        first = zero _ (vol-second z (at s.i) (at s.j));
        second = omega (arith, ints, vol-round z (at s.i) (at s.j) (at s.k), outwards s i);
        third = zero _ (vol-third z (at s.k) (at s.i));
        level = vol-first (at s.i) (at s.j) (at s.k);
      })
      pick (inr (inl e)) = subst (λ n. IsIn s (at n)) (sym e) (record {
        first = zero _ (vol-third z (at s.i) (at s.j));
        second = zero _ (vol-second z (at s.j) (at s.k));
        third = omega (arith, ints, vol-round z (at s.i) (at s.j) (at s.k) ∙ vol-round z (at s.j) (at s.k) (at s.i), outwards s i);
        level = vol-second (at s.i) (at s.j) (at s.k);
      })
      pick (inr (inr (inl e))) = subst (λ n. IsIn s (at n)) (sym e) (record {
        first = omega (arith, ints, outwards s i);
        second = zero _ (vol-third z (at s.j) (at s.k));
        third = zero _ (vol-second z (at s.k) (at s.i));
        level = vol-third (at s.i) (at s.j) (at s.k);
      })
      pick (inr (inr (inr x))) = absurd x

  -- if a corner of s is above t, the forms are positive somewhere
  forms_up : (s t : Triple) → In s ts → In t ts → (l : Vector) → IsIn s l → pos 0 <ℤ rise at t l → (y : Vector) × AllUp (forms s t) y
  forms_up s t i j l m h = risen (forms s t) (minus l z) (middle z (at s.i) (at s.j) (at s.k)) each
    where
      edge : (a b : Vector) → pos 0 ≤ℤ vol z a b l → dot (cross z a b) (middle z (at s.i) (at s.j) (at s.k)) ≡ vol z (at s.i) (at s.j) (at s.k)
          → Rises (cross z a b) (minus l z) (middle z (at s.i) (at s.j) (at s.k))
      edge a b k e = inr (omega (arith, ints, vol-dot z a b l), equal_positive _ _ (sym e) (outwards s i))

      same : (g a b p q hs ht : ℤ) → g ≡ neg_ℤ a *ℤ q -ℤ neg_ℤ b *ℤ p → hs ≡ p +ℤ a → ht ≡ q +ℤ b → hs ≡ pos 0 → neg_ℤ a *ℤ ht ≡ g
      same g a b p q hs ht e f k n = finish (sym e) (solve p a hs f n) k
        where
          solve : (p a hs : ℤ) → hs ≡ p +ℤ a → hs ≡ pos 0 → p ≡ neg_ℤ a
          solve p a hs f n = omega (arith, ints)

          grown : (a b q : ℤ) → neg_ℤ a *ℤ (q +ℤ b) ≡ neg_ℤ a *ℤ q -ℤ neg_ℤ b *ℤ neg_ℤ a
          grown a b q =
              ring (a ∷ b ∷ q ∷ []) (mul (neg (var 0)) (add (var 2) (var 1))) (less (mul (neg (var 0)) (var 2)) (mul (neg (var 1)) (neg (var 0)))) refl

          finish : neg_ℤ a *ℤ q -ℤ neg_ℤ b *ℤ p ≡ g → p ≡ neg_ℤ a → ht ≡ q +ℤ b → neg_ℤ a *ℤ ht ≡ g
          finish e r k = ap (λ v. neg_ℤ a *ℤ v) k ∙ grown a b q ∙ ap (λ v. neg_ℤ a *ℤ q -ℤ neg_ℤ b *ℤ v) (sym r) ∙ e

      rises : Rises (over s t) (minus l z) (middle z (at s.i) (at s.j) (at s.k))
      rises =
          inl (subst (λ v. pos 0 <ℤ v)
          (same (dot (over s t) (minus l z)) (rise at s z) (rise at t z) (dot (normal s) (minus l z)) (dot (normal t) (minus l z)) (rise at s l) (rise at t l)
          (dot-balance (sunk s) (normal t) (sunk t) (normal s) (minus l z)) (vol-from (at s.i) (at s.j) (at s.k) z l)
          (vol-from (at t.i) (at t.j) (at t.k) z l) m.level) (mul-pos (neg_ℤ (rise at s z)) (rise at t l) (omega (arith, ints, inside s i)) h))

      each : (p : Vector) → In p (forms s t) → Rises p (minus l z) (middle z (at s.i) (at s.j) (at s.k))
      each p (inl e) =
          subst (λ q. Rises q (minus l z) (middle z (at s.i) (at s.j) (at s.k))) (sym e)
          (edge (at s.i) (at s.j) m.first (middle-first z (at s.i) (at s.j) (at s.k)))
      each p (inr (inl e)) =
          subst (λ q. Rises q (minus l z) (middle z (at s.i) (at s.j) (at s.k))) (sym e)
          (edge (at s.j) (at s.k) m.second (middle-second z (at s.i) (at s.j) (at s.k)))
      each p (inr (inr (inl e))) =
          subst (λ q. Rises q (minus l z) (middle z (at s.i) (at s.j) (at s.k))) (sym e)
          (edge (at s.k) (at s.i) m.third (middle-third z (at s.i) (at s.j) (at s.k)))
      each p (inr (inr (inr (inl e)))) = subst (λ q. Rises q (minus l z) (middle z (at s.i) (at s.j) (at s.k))) (sym e) rises
      each p (inr (inr (inr (inr x)))) = absurd x

  -- so no corner is above a triangle
  pub none_above : IsClosed ts → (d : Vector) → IsOffEdges at ts z d → count (is_met at z d) ts ≤ 1
      → ((x : Vector) → IsOffEdges at ts z x → HighestMet at z x ts)
      → (l : ℕ) → IsCornerOf ts l → (t : Triple) → In t ts → rise at t (at l) ≤ℤ pos 0
  none_above closed d apart once highest l (s, i, m) t j = by_lt_z (pos 0) (rise at t (at l)) (λ h. absurd (start h)) (λ h. h)
    where
      -- two triangles are met in one direction
      two : (y : Vector) → AllUp (forms s t) y → count (is_met at z (plus z y)) ts ≤ 1 → HighestMet at z (plus z y) ts → ⊥
      two y up one (g, there, top, met) =
          not_less (height at z (plus z y) ts s *ℤ depth at z (plus z y) ts t) (height at z (plus z y) ts t *ℤ depth at z (plus z y) ts s)
          (higher_there s t y up)
          (subst (λ r. (height at z (plus z y) ts t *ℤ depth at z (plus z y) ts r) ≤ℤ (height at z (plus z y) ts r *ℤ depth at z (plus z y) ts t))
          (only_one (is_met at z (plus z y)) ts g s one there i met (met_there s t y up)) (top t j))

      off : PointOff at z ts inside d (forms s t) → ⊥
      off (y, up, edge, corner) = two y up (subst (λ n. n ≤ 1) (met_alike at z d (plus z y) ts closed inside apart edge corner) once) (highest (plus z y) edge)

      start : pos 0 <ℤ rise at t (at l) → ⊥
      start h = let f = forms_up s t i j (at l) (corner_in s i l m) h in off (off_all at z ts inside d apart (forms s t) f.0 f.1)
