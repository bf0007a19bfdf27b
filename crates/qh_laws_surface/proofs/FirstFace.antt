-- A solid has a face: a plane at an extreme id is turned until it has an edge, and then until it has a triangle.
use Rattle.qh_model.proofs.Common.{◌≡◌, ◌≢◌, ℕ, arith, refl, sym, ap, subst, ◌∙◌, inl, inr, ⊎_elim, ◌⊎◌, List, [], ◌∷◌, Bool, true, ints, by_lt_z, ℤ, pos, ◌+ℤ◌}
use Rattle.qh_model.proofs.Common.{◌-ℤ◌, ◌*ℤ◌, neg_ℤ, ◌≤ℤ◌, ◌<ℤ◌, HasDistinctPoints, IsAlong, Separator, IsDimension, HasTetrahedron, Extreme, Others, cross}
use Rattle.qh_model.proofs.Common.{AreInLine, In, Members, IsSupportingTriple, Vector, minus, origin, dot, cross_product}
use Rattle.qh_model.proofs.{polygons.PlaneTurns.parallel_dot, algebra.Ring.ring, extremes.ExtremeIds.separated, extremes.ExtremeIds.members_are_combinations}
use Rattle.qh_model.proofs.{surfaces.VisibleFacets.Least, surfaces.VisibleFacets.least, algebra.Integers.zero_mul}
use Rattle.qh_model.proofs.Decisions.{Decided, test, told, holds, same_id, same_number, same_vector, contrary, less_or_not, some_or_none, both}
use Rattle.qh_model.proofs.algebra.Order.{cancel-zero, product_zero, mul-pos, le_antisym, zero_or_not}
use Rattle.qh_model.proofs.algebra.VectorIdentities.{vec, put, dotE, crossE, vector_path, dot_comm, dot-minus, dot-origin, vol-dot}
use Rattle.qh_model.proofs.extremes.Directions.{square-positive, parallel_normal, normal_along, dot_along, at_most_along, in_line-flip}
use Rattle.qh_model.proofs.algebra.{Ring.Expr.var, Ring.Expr.add, Ring.Expr.mul, Ring.Expr.neg, Ring.Expr.con, Ring.Expr.sub as less, Signs.less_differ}
use Rattle.qh_laws_surface.proofs.SharedCorners.{tetrahedron}

-- a u + b w
abbrev mix : ℤ → Vector → ℤ → Vector → Vector
mix a u b w = record { x = a *ℤ u.x +ℤ b *ℤ w.x; y = a *ℤ u.y +ℤ b *ℤ w.y; z = a *ℤ u.z +ℤ b *ℤ w.z }

dot-mix : (a b : ℤ) (u w v : Vector) → dot (mix a u b w) v ≡ a *ℤ dot u v +ℤ b *ℤ dot w v
dot-mix a b u w v =
    let U = vec 0 in let W = vec 1 in let V = vec 2 in let A = var 9 in let B = var 10 in
    ring (put u (put w (put v (a ∷ b ∷ []))))
    (dotE (record { x = add (mul A U.x) (mul B W.x); y = add (mul A U.y) (mul B W.y); z = add (mul A U.z) (mul B W.z) }) V)
    (add (mul A (dotE U V)) (mul B (dotE W V))) refl

-- a direction at right angles to another
record RightAngled (w : Vector) : Type 0 where
  u : Vector
  level : dot w u ≡ pos 0
  some : u ≢ origin

right_angled : (w : Vector) → w ≢ origin → RightAngled w
right_angled w n = by (zero_or_not w.y) (zero_or_not w.z)
  where
    first : ¬ (w.y ≡ pos 0) ⊎ ¬ (w.z ≡ pos 0) → RightAngled w
    first h = record {
      u = record { x = pos 0; y = w.z; z = neg_ℤ w.y };
      level = ring (put w []) (dotE (vec 0) (record { x = con (pos 0); y = var 2; z = neg (var 1) })) (con (pos 0)) refl;
      some = λ e. ⊎_elim (λ k. k (let z = ap (λ (v : Vector). v.z) e in omega (arith, ints, z))) (λ k. k (ap (λ (v : Vector). v.y) e)) h;
    }

    by : (w.y ≡ pos 0) ⊎ ¬ (w.y ≡ pos 0) → (w.z ≡ pos 0) ⊎ ¬ (w.z ≡ pos 0) → RightAngled w
    by (inr k) q = first (inl k)
    by (inl e) (inr k) = first (inr k)
    by (inl e) (inl g) = record {
      u = record { x = neg_ℤ w.z; y = pos 0; z = w.x };
      level = ring (put w []) (dotE (vec 0) (record { x = neg (var 2); y = con (pos 0); z = var 0 })) (con (pos 0)) refl;
      some = λ k. n (vector_path w origin (ap (λ (v : Vector). v.z) k) e g);
    }

-- the product of two vectors at right angles to a third
lagrange : (a b c : Vector) → dot (cross_product a b) (cross_product a c) ≡ dot a a *ℤ dot b c -ℤ dot a c *ℤ dot b a
lagrange a b c =
    let P = vec 0 in let Q = vec 1 in let R = vec 2 in
    ring (put a (put b (put c []))) (dotE (crossE P Q) (crossE P R)) (less (mul (dotE P P) (dotE Q R)) (mul (dotE P R) (dotE Q P))) refl

module _ (at : ℕ → Vector) (ids : List ℕ) (solid : HasTetrahedron at (Members ids)) (p : ℕ) (has_p : In p ids) where
  abbrev A : ℕ → Type 0
  A = Members ids

  abbrev to : ℕ → Vector
  to l = minus (at l) (at p)

  -- a plane through p that supports the set
  record Holds (f : Vector) : Type 0 where
    some : f ≢ origin
    below : (g : ℕ) → A g → dot f (to g) ≤ℤ pos 0

  to_p : (f : Vector) → dot f (to p) ≡ pos 0
  to_p f = dot-minus f (at p) (at p) ∙ omega (arith, ints)

  -- not all members lie in it
  not_flat : (f : Vector) → f ≢ origin → ((g : ℕ) → A g → dot f (to g) ≡ pos 0) → ⊥
  not_flat f some flat = solid.volume (cancel-zero (dot f f) _ (square-positive f some) (
      ap (λ v. dot f f *ℤ v) (vol-dot (at solid.i) (at solid.j) (at solid.k) (at solid.l))
      ∙ parallel_dot f (cross (at solid.i) (at solid.j) (at solid.k)) (minus (at solid.l) (at solid.i))
      (parallel_normal f (at solid.i) (at solid.j) (at solid.k) (between solid.i solid.j solid.has_i solid.has_j)
      (between solid.i solid.k solid.has_i solid.has_k))
      ∙ product_zero (dot f (cross (at solid.i) (at solid.j) (at solid.k))) _ (between solid.i solid.l solid.has_i solid.has_l)))
    where
      between : (x y : ℕ) → A x → A y → dot f (minus (at y) (at x)) ≡ pos 0
      between x y hx hy = omega (arith, ints, dot-minus f (at y) (at x), dot-minus f (at y) (at p), dot-minus f (at x) (at p), flat x hx, flat y hy)

  -- if the plane has two more members that are not in line with p, it is the plane of a supporting triple
  triple_of : (f : Vector) → Holds f → (q r : ℕ) → A q → A r → dot f (to q) ≡ pos 0 → dot f (to r) ≡ pos 0 → ¬ (AreInLine (at p) (at q) (at r))
      → (i j k : ℕ) × IsSupportingTriple at A i j k
  triple_of f h q r hq hr eq er area =
      ⊎_elim (λ l. (p, q, r, made q r hq hr area l)) (λ l. (p, r, q, made r q hr hq (λ e. area (in_line-flip (at p) (at q) (at r) e)) l))
      (normal_along f (at p) (at q) (at r) h.some area eq er)
    where
      made : (x y : ℕ) → A x → A y → ¬ (AreInLine (at p) (at x) (at y)) → IsAlong f (cross (at p) (at x) (at y)) → IsSupportingTriple at A p x y
      made x y hx hy n l = record {
        has_i = has_p;
        has_j = hx;
        has_k = hy;
        area = n;
        supports = λ g m. subst (λ v. v ≤ℤ pos 0) (sym (vol-dot (at p) (at x) (at y) (at g)))
            (at_most_along l.s l.t _ _ l.some_s l.some_t (dot_along f (cross (at p) (at x) (at y)) l (to g)) (h.below g m));
      }

  -- ---- a supporting plane, turned towards u until it has one more member
  record Turned (f u : Vector) : Type 0 where
    m : ℕ
    there : A m
    lower : dot f (to m) <ℤ pos 0
    c : Vector
    supports : Holds c
    has_m : dot c (to m) ≡ pos 0
    keeps : (v : ℕ) → dot u (to v) ≡ pos 0 → dot f (to v) ≡ pos 0 → dot c (to v) ≡ pos 0

  -- this plane exists if u is at right angles to the vectors to all members in the plane
  turn : (f u : Vector) → Holds f → u ≢ origin → dot f u ≡ pos 0 → ((g : ℕ) → A g → dot f (to g) ≡ pos 0 → dot u (to g) ≡ pos 0) → Turned f u
  turn f u h some_u across flat = ⊎_elim none made
      (least marked (λ g. neg_ℤ (dot f (to g))) (λ g. dot u (to g)) ids (λ g hg k. let l = holds (lower_or_not g) k in omega (arith, ints, l)))
    where
      lower_or_not : (g : ℕ) → Decided (dot f (to g) <ℤ pos 0)
      lower_or_not g = less_or_not (dot f (to g)) (pos 0)

      marked : ℕ → Bool
      marked g = test (lower_or_not g)

      level : (g : ℕ) → A g → pos 0 ≤ℤ dot f (to g) → dot f (to g) ≡ pos 0
      level g hg k = le_antisym (dot f (to g)) (pos 0) (h.below g hg) k

      none : ((g : ℕ) → In g ids → marked g ≡ true → ⊥) → Turned f u
      none n = absurd (not_flat f h.some (λ g hg. level g hg (by_lt_z (dot f (to g)) (pos 0) (λ k. absurd (n g hg (told (lower_or_not g) k))) (λ k. k))))

      made : Least marked (λ g. neg_ℤ (dot f (to g))) (λ g. dot u (to g)) ids → Turned f u
      made l = record {
        m = l.m;
        there = l.there;
        lower = lower;
        c = c;
        supports = record { some = some; below = below };
        has_m = sums (to l.m) ∙ ring (dot f (to l.m) ∷ dot u (to l.m) ∷ []) (add (mul (neg (var 0)) (var 1)) (mul (var 1) (var 0))) (con (pos 0)) refl;
        keeps = in_both;
      }
        where
          lower : dot f (to l.m) <ℤ pos 0
          lower = holds (lower_or_not l.m) l.marked

          c : Vector
          c = mix (neg_ℤ (dot f (to l.m))) u (dot u (to l.m)) f

          sums : (v : Vector) → dot c v ≡ neg_ℤ (dot f (to l.m)) *ℤ dot u v +ℤ dot u (to l.m) *ℤ dot f v
          sums v = dot-mix (neg_ℤ (dot f (to l.m))) (dot u (to l.m)) u f v

          in_both : (v : ℕ) → dot u (to v) ≡ pos 0 → dot f (to v) ≡ pos 0 → dot c (to v) ≡ pos 0
          in_both v eu ef = sums (to v)
              ∙ omega (arith, ints, product_zero (neg_ℤ (dot f (to l.m))) (dot u (to v)) eu, product_zero (dot u (to l.m)) (dot f (to v)) ef)

          some : c ≢ origin
          some o =
              let z : dot c u ≡ pos 0 = ap (λ v. dot v u) o ∙ dot-origin u in
              let s = mul-pos (neg_ℤ (dot f (to l.m))) (dot u u) (omega (arith, ints, lower)) (square-positive u some_u) in
              omega (arith, ints, z, sums u, s, product_zero (dot u (to l.m)) (dot f u) across)

          below : (g : ℕ) → A g → dot c (to g) ≤ℤ pos 0
          below g hg = by_lt_z (dot f (to g)) (pos 0) (λ k. by_lt_z (pos 0) (dot c (to g)) (λ s. absurd (l.least g hg (told (lower_or_not g) k)
              (subst (λ v. pos 0 <ℤ v) (sums (to g) ∙ same) s))) (λ s. s)) (λ k.
              let z = in_both g (flat g hg (level g hg k)) (level g hg k) in omega (arith, ints, z))
            where
              same : neg_ℤ (dot f (to l.m)) *ℤ dot u (to g) +ℤ dot u (to l.m) *ℤ dot f (to g)
                  ≡ neg_ℤ (dot f (to l.m)) *ℤ dot u (to g) -ℤ dot u (to l.m) *ℤ neg_ℤ (dot f (to g))
              same = ring (dot f (to l.m) ∷ dot u (to g) ∷ dot u (to l.m) ∷ dot f (to g) ∷ [])
                  (add (mul (neg (var 0)) (var 1)) (mul (var 2) (var 3))) (less (mul (neg (var 0)) (var 1)) (mul (var 2) (neg (var 3)))) refl

  -- ---- a plane through p and q
  module _ (f : Vector) (h : Holds f) (q : ℕ) (hq : A q) (not_p : to q ≢ origin) (eq : dot f (to q) ≡ pos 0) where
    abbrev e : Vector
    e = cross_product (to q) f

    line : (g : ℕ) → AreInLine (at p) (at q) (at g) → (dot e (to g) ≡ pos 0) × (dot f (to g) ≡ pos 0)
    unfolding cross
    line g l = (
      omega (arith, ints, across, flat),
      cancel-zero (dot (to q) (to q)) (dot f (to g)) (square-positive (to q) not_p) (
          omega (arith, ints, lagrange (to q) (to g) f, z, ap (λ v. dot (to q) (to q) *ℤ v) (dot_comm (to g) f), zeroed)),
    )
      where
        across : dot e (to g) ≡ neg_ℤ (dot f (cross_product (to q) (to g)))
        across = let P = vec 0 in let Q = vec 1 in let F = vec 2 in
            ring (put (to q) (put (to g) (put f []))) (dotE (crossE P F) Q) (neg (dotE F (crossE P Q))) refl

        flat : dot f (cross_product (to q) (to g)) ≡ pos 0
        flat = dot_comm f (cross_product (to q) (to g)) ∙ ap (λ v. dot v f) l ∙ dot-origin f

        z : dot (cross_product (to q) (to g)) e ≡ pos 0
        z = ap (λ v. dot v e) l ∙ dot-origin e

        zeroed : dot (to q) f *ℤ dot (to g) (to q) ≡ pos 0
        zeroed = ap (λ v. v *ℤ dot (to g) (to q)) (dot_comm (to q) f ∙ eq) ∙ zero_mul (dot (to g) (to q))

    e_square : pos 0 <ℤ dot e e
    e_square =
        let l = lagrange (to q) f f in
        let z = product_zero (dot (to q) f) (dot f (to q)) eq in
        let m = mul-pos (dot (to q) (to q)) (dot f f) (square-positive (to q) not_p) (square-positive f h.some) in
        omega (arith, ints, l, z, m)

    -- some supporting triple
    by_edge : (i j k : ℕ) × IsSupportingTriple at A i j k
    by_edge = by (some_or_none (λ g. (dot f (to g) ≡ pos 0) × ¬ (AreInLine (at p) (at q) (at g)))
        (λ g. both (dot f (to g) ≡ pos 0) (¬ (AreInLine (at p) (at q) (at g))) (same_number (dot f (to g)) (pos 0))
        (contrary (AreInLine (at p) (at q) (at g)) (same_vector (cross (at p) (at q) (at g)) origin))) ids)
      where
        by : Decided ((g : ℕ) × In g ids × ((dot f (to g) ≡ pos 0) × ¬ (AreInLine (at p) (at q) (at g)))) → (i j k : ℕ) × IsSupportingTriple at A i j k
        by (inl (g, m, (z, n))) = triple_of f h q g hq m eq z n
        by (inr none) = triple_of t.c t.supports q t.m hq t.there (t.keeps q e_q eq) t.has_m (λ l. less_differ (dot f (to t.m)) (pos 0) t.lower (line t.m l).1)
          where
            e_q : dot e (to q) ≡ pos 0
            e_q = ring (put (to q) (put f [])) (dotE (crossE (vec 0) (vec 1)) (vec 0)) (con (pos 0)) refl

            t : Turned f e
            t = turn f e h (λ o. let z : dot e e ≡ pos 0 = ap (λ v. dot v e) o ∙ dot-origin e in omega (arith, ints, z, e_square))
                (ring (put (to q) (put f [])) (dotE (vec 1) (crossE (vec 0) (vec 1))) (con (pos 0)) refl)
                (λ g m z. ⊎_elim (λ l. (line g l).0) (λ n. absurd (none (g, m, (z, n)))) (same_vector (cross (at p) (at q) (at g)) origin))

  -- ---- the first plane: at an extreme id
  from_corner : Extreme at A p → (i j k : ℕ) × IsSupportingTriple at A i j k
  from_corner extreme = by_edge t.c t.supports t.m t.there
      (λ o. less_differ (dot sep.w (to t.m)) (pos 0) t.lower (dot_comm sep.w (to t.m) ∙ ap (λ v. dot v sep.w) o ∙ dot-origin sep.w)) t.has_m
    where
      sep : Separator at (Others A p) (at p)
      sep = separated at ids p extreme

      past : (g : ℕ) → A g → g ≢ p → dot sep.w (to g) <ℤ pos 0
      past g hg n = let k = sep.past g (hg, n) in omega (arith, ints, k, dot-minus sep.w (at g) (at p))

      -- p lies in each plane through p
      only_p : (f : Vector) (g : ℕ) → g ≡ p → dot f (to g) ≡ pos 0
      only_p f g e = subst (λ x. dot f (to x) ≡ pos 0) (sym e) (to_p f)

      some_w : sep.w ≢ origin
      some_w o = not_flat axis (λ e. let x = ap (λ (v : Vector). v.x) e in omega (arith, ints, x)) (λ g hg. ⊎_elim (only_p axis g)
          (λ n. absurd (less_differ (dot sep.w (to g)) (pos 0) (past g hg n) (ap (λ v. dot v (to g)) o ∙ dot-origin (to g)))) (same_id g p))
        where
          axis : Vector
          axis = record { x = pos 1; y = pos 0; z = pos 0 }

      below : (g : ℕ) → A g → dot sep.w (to g) ≤ℤ pos 0
      below g hg = ⊎_elim (λ e. let z = only_p sep.w g e in omega (arith, ints, z)) (λ n. let z = past g hg n in omega (arith, ints, z)) (same_id g p)

      side : RightAngled sep.w
      side = right_angled sep.w some_w

      t : Turned sep.w side.u
      t = turn sep.w side.u (record { some = some_w; below = below }) side.some side.level (λ g hg z. ⊎_elim (only_p side.u g)
          (λ n. absurd (less_differ (dot sep.w (to g)) (pos 0) (past g hg n) z)) (same_id g p))

-- a solid has a supporting triple
pub first_face : (at : ℕ → Vector) (ids : List ℕ) → HasDistinctPoints at (Members ids) → IsDimension at (Members ids) 3
    → (i j k : ℕ) × IsSupportingTriple at (Members ids) i j k
first_face at ids d solid =
    let t = tetrahedron at (Members ids) solid in
    let c = members_are_combinations at ids d t.i t.has_i in from_corner at ids t c.a c.has_a.0 c.has_a
