-- Separator cancellation: a point that is above no triangle of a closed surface, and strictly beyond all its corners along a direction, is strictly below no
-- triangle. With the depth of each corner as a common multiple, the terms of each edge cancel.
use Rattle.qh_model.proofs.Common.{◌≡◌, ℕ, ◌+◌, ◌<◌, arith, ap, sym, ◌∙◌, subst, refl, List, [], ◌∷◌, Bool, true, false, cond, eqb, inl, inr, eqb-true, ints}
use Rattle.qh_model.proofs.Common.{Triple, IsClosed, vol, In, Vector, dot, IsCornerOf}
use Rattle.std.specs.{List.AllByRecursion as Each, List.flat_map, Prelude.ℤ, Prelude.pos, Prelude.◌+ℤ◌, Prelude.◌*ℤ◌, Prelude.neg_ℤ, Prelude.◌≤ℤ◌, Prelude.◌<ℤ◌}
use Rattle.qh_model.specs.laws.ClosedSurfaceLaws.{NoneBelowAndBeyond}
use Rattle.qh_model.proofs.{Members.every_of, algebra.Signs.gap_positive, algebra.Signs.less_le, algebra.Signs.equal_nonpos, algebra.Signs.equal_negative}
use Rattle.qh_model.proofs.algebra.{Ring.ring, Order.mul-pos, Order.mul-neg_pos, Order.mul-nonpos_nonneg, Order.positive_le}
use Rattle.qh_model.proofs.{lists.Joined.in_flat_map, lists.Joined.of_flat_map, algebra.Integers.mul_swap, algebra.Integers.mul_assoc}
use Rattle.qh_model.proofs.algebra.VectorIdentities.{vol-flip, vol-depths, depth, dot-minus, combine3}
use Rattle.qh_model.proofs.closed_surfaces.SignedVolume.{back, eqb-refl, around, none_lower, vol_at}
use Rattle.qh_model.proofs.closed_surfaces.Sums.{count, drop_first, Tests, taken_out, one_there}
use Rattle.qh_model.proofs.algebra.Ring.Expr.{var, add, sub as less, mul, neg}

-- the contribution of an edge to the sum, from its value V
unfoldable pub edge_part : (V : ℕ → ℕ → ℤ) (co : ℕ → ℤ) (m : ℤ) → (ℕ × ℕ) → ℤ
edge_part V co m e = m *ℤ (V e.0 e.1 *ℤ (co e.0 *ℤ co e.1))

-- the contribution changes its sign with the direction of the edge if the value does
pub edge_part-back : (V : ℕ → ℕ → ℤ) (co : ℕ → ℤ) (m : ℤ) → ((u v : ℕ) → V v u ≡ neg_ℤ (V u v)) → (e : ℕ × ℕ)
    → edge_part V co m (back e) ≡ neg_ℤ (edge_part V co m e)
unfolding edge_part
edge_part-back V co m odd e =
    rw (odd e.0 e.1) (ring (m ∷ V e.0 e.1 ∷ co e.0 ∷ co e.1 ∷ []) (mul (var 0) (mul (neg (var 1)) (mul (var 3) (var 2))))
    (neg (mul (var 0) (mul (var 1) (mul (var 2) (var 3))))) refl)

-- the sum round a triangle has the sign of h, if D x * co x is the same m at its corners
pub round_sign : (V : ℕ → ℕ → ℤ) (D co : ℕ → ℤ) (m h d : ℤ) (t : Triple) → pos 0 <ℤ d
    → h *ℤ d ≡ V t.i t.j *ℤ D t.k +ℤ V t.j t.k *ℤ D t.i +ℤ V t.k t.i *ℤ D t.j
    → ((x : ℕ) → In x (t.i ∷ t.j ∷ t.k ∷ []) → (pos 0 <ℤ co x) × (D x *ℤ co x ≡ m))
    → (h ≤ℤ pos 0 → around (edge_part V co m) t ≤ℤ pos 0) × (h <ℤ pos 0 → around (edge_part V co m) t <ℤ pos 0)
unfolding edge_part
round_sign V D co m h d t deep sum fair = (
  λ low. equal_nonpos _ _ split (mul-nonpos_nonneg h _ low (positive_le _ weight)),
  λ low. equal_negative _ _ split (mul-neg_pos h _ low weight),
)
  where
    i : (pos 0 <ℤ co t.i) × (D t.i *ℤ co t.i ≡ m)
    i = fair t.i (inl refl)

    j : (pos 0 <ℤ co t.j) × (D t.j *ℤ co t.j ≡ m)
    j = fair t.j (inr (inl refl))

    k : (pos 0 <ℤ co t.k) × (D t.k *ℤ co t.k ≡ m)
    k = fair t.k (inr (inr (inl refl)))

    weight : pos 0 <ℤ (d *ℤ (co t.i *ℤ co t.j *ℤ co t.k))
    weight = mul-pos d _ deep (mul-pos (co t.i *ℤ co t.j) (co t.k) (mul-pos (co t.i) (co t.j) i.0 j.0) k.0)

    split : h *ℤ (d *ℤ (co t.i *ℤ co t.j *ℤ co t.k)) ≡ around (edge_part V co m) t
    split =
        sym (mul_assoc h d (co t.i *ℤ co t.j *ℤ co t.k)) ∙ ap (λ v. v *ℤ (co t.i *ℤ co t.j *ℤ co t.k)) sum
        ∙ combine3 ((V t.i t.j *ℤ D t.k +ℤ V t.j t.k *ℤ D t.i +ℤ V t.k t.i *ℤ D t.j) *ℤ (co t.i *ℤ co t.j *ℤ co t.k)) (around (edge_part V co m) t)
        (V t.j t.k *ℤ (co t.j *ℤ co t.k)) (D t.i *ℤ co t.i) m (V t.k t.i *ℤ (co t.k *ℤ co t.i)) (D t.j *ℤ co t.j) m
        (V t.i t.j *ℤ (co t.i *ℤ co t.j)) (D t.k *ℤ co t.k) m
        (ring (m ∷ V t.i t.j ∷ V t.j t.k ∷ V t.k t.i ∷ D t.i ∷ D t.j ∷ D t.k ∷ co t.i ∷ co t.j ∷ co t.k ∷ [])
        (less (mul (add (add (mul (var 1) (var 6)) (mul (var 2) (var 4))) (mul (var 3) (var 5))) (mul (mul (var 7) (var 8)) (var 9)))
        (add (add (mul (var 0) (mul (var 1) (mul (var 7) (var 8)))) (mul (var 0) (mul (var 2) (mul (var 8) (var 9)))))
        (mul (var 0) (mul (var 3) (mul (var 9) (var 7)))))) (add (add (mul (mul (var 2) (mul (var 8) (var 9))) (less (mul (var 4) (var 7)) (var 0)))
        (mul (mul (var 3) (mul (var 9) (var 7))) (less (mul (var 5) (var 8)) (var 0)))) (mul
        (mul (var 1) (mul (var 7) (var 8))) (less (mul (var 6) (var 9)) (var 0)))) refl)
        i.1 j.1 k.1

-- a point that is lower along w has a positive depth
below_depth : (w p x : Vector) → dot w x <ℤ dot w p → pos 0 <ℤ depth w p x
unfolding depth
below_depth w p x h = rw (dot-minus w p x) (gap_positive (dot w x) (dot w p) h)

-- ---- the product of the others
abbrev pub prod_z : (ℕ → ℤ) → List ℕ → ℤ
prod_z f [] = pos 1
prod_z f (x ∷ xs) = f x *ℤ prod_z f xs

-- a product of positive numbers
pub prod-pos : (f : ℕ → ℤ) (xs : List ℕ) → Each (λ x. pos 0 <ℤ f x) xs → pos 0 <ℤ prod_z f xs
prod-pos f [] h = omega (arith, ints)
prod-pos f (x ∷ xs) h = mul-pos (f x) (prod_z f xs) h.0 (prod-pos f xs h.1)

-- a fact about each number holds for all but the first
each-drop_first : (P : ℕ → Type 0) (q : ℕ → Bool) (xs : List ℕ) → Each P xs → Each P (drop_first q xs)
each-drop_first P q [] h = tt
each-drop_first P q (x ∷ xs) h = by_test (q x) (each-drop_first P q xs h.1)
  where
    by_test : (b : Bool) → Each P (drop_first q xs) → Each P (cond b xs (x ∷ drop_first q xs))
    by_test true r = h.1
    by_test false r = (h.0, r)

-- the test of numbers tests equality
number_tests : Tests eqb
number_tests = record { same = eqb-true; itself = eqb-refl }

-- a product with one factor removed
prod-drop_first : (f : ℕ → ℤ) (x : ℕ) (ys : List ℕ) → 0 < count (eqb x) ys → prod_z f ys ≡ f x *ℤ prod_z f (drop_first (eqb x) ys)
prod-drop_first f = taken_out eqb number_tests (λ x s. f x *ℤ s) (λ x y s. mul_swap (f x) (f y) s) (prod_z f) (λ x xs. refl)

-- a member of a list occurs in it
occurs : (x : ℕ) (xs : List ℕ) → In x xs → 0 < count (eqb x) xs
occurs x [] i = absurd i
occurs x (y ∷ xs) (inl e) = subst (λ z. 0 < cond (eqb x z) 1 0 + count (eqb x) xs) e (one_there eqb number_tests x (count (eqb x) xs))
occurs x (y ∷ xs) (inr i) = omega (arith, occurs x xs i)

-- the product of the values of the other members
abbrev pub others : (ℕ → ℤ) → List ℕ → ℕ → ℤ
others f all i = prod_z f (drop_first (eqb i) all)

-- it is positive if all values are
pub others-pos : (f : ℕ → ℤ) (all : List ℕ) → ((i : ℕ) → In i all → pos 0 <ℤ f i) → (i : ℕ) → pos 0 <ℤ others f all i
others-pos f all h i = prod-pos f (drop_first (eqb i) all) (each-drop_first (λ x. pos 0 <ℤ f x) (eqb i) all (every_of (λ x. pos 0 <ℤ f x) all h))

-- times the own value it is the product of all
pub others-same : (f : ℕ → ℤ) (all : List ℕ) (i : ℕ) → In i all → f i *ℤ others f all i ≡ prod_z f all
others-same f all i m = sym (prod-drop_first f i all (occurs i all m))

-- separator cancellation: a point that is above no triangle of a closed surface, and strictly on one side of a plane from all its corners, is strictly below no
-- triangle
pub none_below : (at : ℕ → Vector) (w p : Vector) (ts : List Triple) → IsClosed ts → ((i : ℕ) → IsCornerOf ts i → dot w (at i) <ℤ dot w p)
    → ((t : Triple) → In t ts → vol_at at p t ≤ℤ pos 0) → (u : Triple) → In u ts → vol_at at p u <ℤ pos 0 → ⊥
none_below at w p ts closed beyond blind u there low =
    none_lower (edge_part V co m) (edge_part-back V co m (λ a b. vol-flip (at b) (at a) (at u.i) p)) ts closed
    (λ t r. (sign t r).0 (blind t r)) u there ((sign u there).1 low)
  where
    corners : Triple → List ℕ
    corners t = t.i ∷ t.j ∷ t.k ∷ []

    all : List ℕ
    all = flat_map corners ts

    f : ℕ → ℤ
    f i = depth w p (at i)

    m : ℤ
    m = prod_z f all

    co : ℕ → ℤ
    co = others f all

    deep : (i : ℕ) → IsCornerOf ts i → pos 0 <ℤ f i
    deep i c = below_depth w p (at i) (beyond i c)

    V : ℕ → ℕ → ℤ
    V a b = vol (at a) (at b) (at u.i) p

    sign : (t : Triple) → In t ts
        → (vol_at at p t ≤ℤ pos 0 → around (edge_part V co m) t ≤ℤ pos 0) × (vol_at at p t <ℤ pos 0 → around (edge_part V co m) t <ℤ pos 0)
    sign t r =
        round_sign V f co m (vol_at at p t) (f u.i) t (deep u.i (u, there, inl refl)) (vol-depths w (at t.i) (at t.j) (at t.k) (at u.i) p)
        (λ i c. (others-pos f all (λ i r. deep i (of_flat_map corners ts i r)) i, others-same f all i (in_flat_map corners ts t i r c)))

-- proof of the law `NoneBelowAndBeyond`
pub none_below_and_beyond : NoneBelowAndBeyond
none_below_and_beyond at [] c w p beyond below = absurd (omega (arith, c.some))
none_below_and_beyond at (t ∷ ts) c w p beyond below =
    none_below at w p (t ∷ ts) c.closed beyond (λ u i. less_le _ _ (below u i)) t (inl refl) (below t (inl refl))
