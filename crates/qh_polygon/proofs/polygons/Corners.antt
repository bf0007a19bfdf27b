-- Corners: members that are beyond all others in some direction. No three of them are in line.
use Rattle.qh_model.proofs.Common.{◌≡◌, ◌≢◌, ℕ, refl, [], ◌∷◌, arith, sym, subst, ◌∙◌, ints, by_lt_z, ℤ, pos, ◌+ℤ◌, ◌-ℤ◌, ◌*ℤ◌, ◌≤ℤ◌, ◌<ℤ◌, Extreme, Others}
use Rattle.qh_model.proofs.Common.{cross, Vector, minus, cross_product, dot}
use Rattle.qh_model.proofs.algebra.Order.{le_antisym, mul-pos, cancel-nonpos, cancel-zero, le_less}
use Rattle.qh_model.proofs.algebra.VectorIdentities.{vec, subE, crossE, dotE, put, dot-minus, left-flip}
use Rattle.qh_model.proofs.combinations.Alternatives.{all_lower}
use Rattle.qh_model.proofs.algebra.{Ring.ring, Ring.Expr.var, Ring.Expr.add, Ring.Expr.sub as less, Ring.Expr.mul, Signs.opposite_zero, Signs.gap_positive}
use Rattle.qh_model.specs.headline.Predicates.{left}
use Rattle.qh_polygon.proofs.{PlaneDirections.bracket, PlaneDirections.bracketE, PlaneDirections.bracket-fan, polygons.TurnLaws.HasOnLeft}
use Rattle.qh_polygon.proofs.polygons.Turns.{IsFlat, IsKeyed, turn_about, height_of, step, forward, left-middle, left-bracket, left-swap}

-- ---- corners: members that are beyond all others in some direction
-- m is strictly beyond all other members along w
pub record Corner (at : ℕ → Vector) (A : ℕ → Type 0) (m : ℕ) : Type 0 where
  pub member : A m
  pub w : Vector
  pub beats : (x : ℕ) → A x → x ≢ m → dot w (at x) <ℤ dot w (at m)

-- the distance of r beyond x across the path from q to t
pub corner_eq : (n q r t x : Vector) → dot (cross_product (minus t q) n) r -ℤ dot (cross_product (minus t q) n) x ≡ left n q r x +ℤ left n r t x
unfolding left cross
corner_eq n q r t x =
    ring (put n (put q (put r (put t (put x [])))))
    (less (dotE (crossE (subE (vec 3) (vec 1)) (vec 0)) (vec 2)) (dotE (crossE (subE (vec 3) (vec 1)) (vec 0)) (vec 4)))
    (add (dotE (crossE (subE (vec 2) (vec 1)) (subE (vec 4) (vec 1))) (vec 0)) (dotE (crossE (subE (vec 3) (vec 2)) (subE (vec 4) (vec 2))) (vec 0))) refl

-- nonnegative terms, not both zero
beats_sign : (wx wr f g : ℤ) → wr -ℤ wx ≡ f +ℤ g → pos 0 ≤ℤ f → pos 0 ≤ℤ g → ((f ≡ pos 0) → (g ≡ pos 0) → ⊥) → wx <ℤ wr
beats_sign = grind arith

-- if both turns are zero, x is no other point
apart : (ac hb ab hc bc ha : ℤ) → ac *ℤ hb ≡ ab *ℤ hc +ℤ bc *ℤ ha → ac ≡ pos 0 → bc ≡ pos 0 → pos 0 <ℤ ab → hc ≡ pos 0
apart ac hb ab hc bc ha e p q h = cancel-zero ab hc h (let f = rw (p, q) at e in omega (arith, ints, f))

-- an inner corner of a chain
pub inner : (n h : Vector) (at : ℕ → Vector) (A : ℕ → Type 0) → IsFlat n at A → IsKeyed h at A → (q r t : ℕ) → A q → A r → A t
    → HasOnLeft (turn_about n at) A q r → HasOnLeft (turn_about n at) A r t → pos 0 <ℤ turn_about n at q r t → Corner at A r
inner n h at A flat keyed q r t aq ar at' e f sh = record {
  member = ar;
  w = cross_product (minus (at t) (at q)) n;
  beats = λ x ax ne. beats_sign _ _ _ _ (corner_eq n (at q) (at r) (at t) (at x)) (e x ax) (f x ax)
      (λ z k. ne (keyed.same x r ax ar (let zero = apart (bracket n (step at q r) (step at r x)) (dot h (step at r t))
      (bracket n (step at q r) (step at r t)) (dot h (step at r x)) (bracket n (step at r t) (step at r x)) (dot h (step at q r))
      (bracket-fan n h (step at q r) (step at r t) (step at r x) flat.some (flat.even q r aq ar) (flat.even r t ar at') (flat.even r x ar ax))
      (sym (left-middle n (at q) (at r) (at x)) ∙ z) (sym (left-bracket n (at r) (at t) (at x)) ∙ k)
      (subst (λ v. pos 0 <ℤ v) (left-middle n (at q) (at r) (at t)) sh) in
      omega (arith, ints, dot-minus h (at x) (at r), zero))));
}

-- the member with the greatest key
pub greatest_corner : (h : Vector) (at : ℕ → Vector) (A : ℕ → Type 0) → IsKeyed h at A → (m : ℕ) → A m
    → ((x : ℕ) → A x → height_of h at x ≤ℤ height_of h at m) → Corner at A m
greatest_corner h at A keyed m am le =
    record { member = am; w = h; beats = λ x ax ne. le_less (dot h (at x)) (dot h (at m)) (le x ax) (λ e. ne (keyed.same x m ax am e)) }

-- a corner is extreme
pub corner_extreme : (at : ℕ → Vector) (A : ℕ → Type 0) (m : ℕ) → Corner at A m → Extreme at A m
corner_extreme at A m c = let past : (j : ℕ) → Others A m j → dot c.w (at j) <ℤ dot c.w (at m) = (λ j o. c.beats j o.0 o.1) in
    (c.member, λ x. all_lower at (Others A m) (at m) c.w x (past x.a x.has_a) (past x.b x.has_b) (past x.c x.has_c) (past x.d x.has_d))

-- ---- an id beyond both ends of an edge
-- two directions of a plane, by their heights along h and w
across_eq : (n h w a b : Vector) → dot n n *ℤ (dot h a *ℤ dot w b -ℤ dot h b *ℤ dot w a)
    ≡ bracket n a b *ℤ dot (cross_product h w) n -ℤ dot n b *ℤ dot (cross_product h w) (cross_product n a) +ℤ dot n a
    *ℤ dot (cross_product h w) (cross_product n b)
across_eq n h w a b =
    ring (put n (put a (put b (put h (put w [])))))
    (mul (dotE (vec 0) (vec 0)) (less (mul (dotE (vec 3) (vec 1)) (dotE (vec 4) (vec 2))) (mul (dotE (vec 3) (vec 2)) (dotE (vec 4) (vec 1)))))
    (add (less (mul (bracketE 1 2) (dotE (crossE (vec 3) (vec 4)) (vec 0)))
    (mul (dotE (vec 0) (vec 2)) (dotE (crossE (vec 3) (vec 4)) (crossE (vec 0) (vec 1))))) (mul
    (dotE (vec 0) (vec 1)) (dotE (crossE (vec 3) (vec 4)) (crossE (vec 0) (vec 2))))) refl

-- two terms that are zero
two_zero : (l x p q y z : ℤ) → l ≡ x -ℤ p *ℤ y +ℤ q *ℤ z → p ≡ pos 0 → q ≡ pos 0 → l ≡ x
two_zero l x p q y z e h k = rw (h, k) at e ∙ omega (arith, ints)

-- the signs of the heights along h and w contradict the bracket
across_sign : (N ha hb wa wb P : ℤ) → N *ℤ (ha *ℤ wb -ℤ hb *ℤ wa) ≡ P → P ≤ℤ pos 0 → pos 0 <ℤ N → pos 0 <ℤ hb → hb <ℤ ha → pos 0 <ℤ wb → wa <ℤ wb → ⊥
across_sign N ha hb wa wb P e p s b ab w aw =
    let k : (N *ℤ (ha *ℤ wb -ℤ hb *ℤ wa)) ≤ℤ pos 0 = subst (λ v. v ≤ℤ pos 0) (sym e) p in
    let d : (ha *ℤ wb -ℤ hb *ℤ wa) ≤ℤ pos 0 = cancel-nonpos N (ha *ℤ wb -ℤ hb *ℤ wa) s k in
    let x : pos 0 <ℤ ((ha -ℤ hb) *ℤ wb) = mul-pos (ha -ℤ hb) wb (gap_positive hb ha ab) w in
    let y : pos 0 <ℤ (hb *ℤ (wb -ℤ wa)) = mul-pos hb (wb -ℤ wa) b (gap_positive wa wb aw) in
    omega (arith, ints, split ha hb wa wb)
  where
    split : (ha hb wa wb : ℤ) → ha *ℤ wb -ℤ hb *ℤ wa ≡ (ha -ℤ hb) *ℤ wb +ℤ hb *ℤ (wb -ℤ wa)
    split ha hb wa wb =
        ring (ha ∷ hb ∷ wa ∷ wb ∷ []) (less (mul (var 0) (var 3)) (mul (var 1) (var 2)))
        (add (mul (less (var 0) (var 1)) (var 3)) (mul (var 1) (less (var 3) (var 2)))) refl

-- e between u and v, beyond both along w
pub core : (n h w : Vector) (at : ℕ → Vector) (A : ℕ → Type 0) → IsFlat n at A → (u v e : ℕ) → A u → A v → A e
    → height_of h at u <ℤ height_of h at e → height_of h at e <ℤ height_of h at v → dot w (at u) <ℤ dot w (at e) → dot w (at v) <ℤ dot w (at e)
    → (turn_about n at u v e *ℤ dot (cross_product h w) n) ≤ℤ pos 0 → ⊥
core n h w at A flat u v e au av ae ue ev wu wv p =
    across_sign (dot n n) (dot h (minus (at v) (at u))) (dot h (minus (at e) (at u))) (dot w (minus (at v) (at u))) (dot w (minus (at e) (at u))) _
    (two_zero _ _ _ _ _ _ (across_eq n h w (minus (at v) (at u)) (minus (at e) (at u))) (flat.even u e au ae) (flat.even u v au av))
    (subst (λ t. (t *ℤ dot (cross_product h w) n) ≤ℤ pos 0) (left-bracket n (at u) (at v) (at e)) p) flat.some
    (forward h (at u) (at e) ue) (omega (arith, ints, dot-minus h (at e) (at u), dot-minus h (at v) (at u), ev))
    (forward w (at u) (at e) wu) (omega (arith, ints, dot-minus w (at v) (at u), dot-minus w (at e) (at u), wv))

-- ---- three corners are not in line
-- a corner is not in line between two members
lined : (n h : Vector) (at : ℕ → Vector) (A : ℕ → Type 0) → IsFlat n at A → (u v m : ℕ) → A u → A v → Corner at A m → u ≢ m → v ≢ m
    → height_of h at u <ℤ height_of h at m → height_of h at m <ℤ height_of h at v → turn_about n at u v m ≡ pos 0 → ⊥
lined n h at A flat u v m au av c nu nv um mv z =
    core n h c.w at A flat u v m au av c.member um mv (c.beats u au nu) (c.beats v av nv)
    (subst (λ t. (t *ℤ dot (cross_product h c.w) n) ≤ℤ pos 0) (sym z) (omega (arith, ints)))

module _ (n h : Vector) (at : ℕ → Vector) (A : ℕ → Type 0) (flat : IsFlat n at A) (keyed : IsKeyed h at A) where
  -- a turn that is zero, with its ends exchanged
  flipped : (u v x : ℕ) → turn_about n at u v x ≡ pos 0 → turn_about n at u x v ≡ pos 0
  flipped u v x z = opposite_zero _ _ (left-flip n (at u) (at x) (at v)) z

  -- the same, with its beginning exchanged
  swapped : (u v x : ℕ) → turn_about n at u v x ≡ pos 0 → turn_about n at v u x ≡ pos 0
  swapped u v x z = opposite_zero _ _ (left-swap n (at v) (at u) (at x)) z

  -- one of two different members comes first
  ordered : (C : Type 0) (u v : ℕ) → A u → A v → u ≢ v → (height_of h at u <ℤ height_of h at v → C) → (height_of h at v <ℤ height_of h at u → C) → C
  ordered C u v au av ne first second =
      by_lt_z (height_of h at u) (height_of h at v) first (λ k. by_lt_z (height_of h at v) (height_of h at u) second
      (λ l. absurd (ne (keyed.same u v au av (le_antisym _ _ l k)))))

  -- three corners are not in line
  not_lined : (u v x : ℕ) → Corner at A u → Corner at A v → Corner at A x → u ≢ v → x ≢ u → x ≢ v → turn_about n at u v x ≡ pos 0 → ⊥
  not_lined u v x cu cv cx uv xu xv z =
      ordered ⊥ u v cu.member cv.member uv (λ luv. ordered ⊥ x v cx.member cv.member xv (λ lxv. ordered ⊥ x u cx.member cu.member xu
      (λ lxu. lined n h at A flat x v u cx.member cv.member cu xu (λ e. uv (sym e)) lxu luv (flipped x u v (swapped u x v (flipped u v x z))))
      (λ lux. lined n h at A flat u v x cu.member cv.member cx (λ e. xu (sym e)) (λ e. xv (sym e)) lux lxv z))
      (λ lvx. lined n h at A flat u x v cu.member cx.member cv uv xv luv lvx (flipped u v x z))) (λ lvu. ordered ⊥ x u cx.member cu.member xu
      (λ lxu. ordered ⊥ x v cx.member cv.member xv (λ lxv. lined n h at A flat x u v cx.member cu.member cv xv uv lxv lvu (swapped u x v (flipped u v x z)))
      (λ lvx. lined n h at A flat v u x cv.member cu.member cx (λ e. xv (sym e)) (λ e. xu (sym e)) lvx lxu (swapped u v x z)))
      (λ lux. lined n h at A flat v x u cv.member cx.member cu (λ e. uv (sym e)) xu lvu lux (flipped v u x (swapped u v x z))))

  -- a corner on the left of the path between two corners is strictly there
  pub strict : (u v x : ℕ) → Corner at A u → Corner at A v → Corner at A x → u ≢ v → x ≢ u → x ≢ v
      → pos 0 ≤ℤ turn_about n at u v x → pos 0 <ℤ turn_about n at u v x
  strict u v x cu cv cx uv xu xv h = by_lt_z (pos 0) (turn_about n at u v x) (λ q. q) (λ q. absurd (not_lined u v x cu cv cx uv xu xv (le_antisym _ _ q h)))
