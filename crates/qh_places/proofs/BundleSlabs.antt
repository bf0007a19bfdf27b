-- A bundle of planes is above a block if the sum of the bounds of its rest and its share is below the depth.
use Rattle.qh_model.proofs.Common.{◌≡◌, ◌∙◌, ap, ℕ, ◌<◌, refl, arith, subst, [], ◌∷◌, ints, by_lt_z, ℤ, pos, ◌+ℤ◌, ◌-ℤ◌, ◌*ℤ◌, ◌<ℤ◌, ◌≤ℤ◌, Vector, minus, dot}
use Rattle.qh_model.proofs.algebra.{Integers.mul_comm, Order.mul-le, Order.mul-nonneg, Order.positive_le, Ring.Expr, Ring.ring}
use Rattle.qh_model.proofs.algebra.Ring.Expr.{var, add, sub as less, mul}
use Rattle.qh_model.proofs.algebra.VectorIdentities.{VE, vec, subE, dotE, put}
use Rattle.qh_places.specs.{contract.Bundles.taken, contract.Bundles.IsInSpans, contract.Bundles.IsOfBundle, declared.bundles.Bundle.Bundle}
use Rattle.qh_places.specs.{declared.slabs.Block.Block, steps.Boxes.IsWithin, steps.Slabs.vector_of, steps.Slabs.less_times, steps.Slabs.IsInBlock}
use Rattle.qh_pred.{proofs.Ranges.greatest, specs.contract.Planes.PlaneValue, specs.contract.Planes.height, specs.contract.Ranges.IsBetween}

-- a number of a span minus k, times a difference from one number to another
pub rest_top : (n w low high from to k l h f t g : ℤ) → IsBetween low n high → IsBetween from w to
    → l ≡ low -ℤ k → h ≡ high -ℤ k → ((r : ℤ) → IsBetween l r h → (from *ℤ r) ≤ℤ f) → ((r : ℤ) → IsBetween l r h → (to *ℤ r) ≤ℤ t)
    → f ≤ℤ g → t ≤ℤ g → ((n -ℤ k) *ℤ w) ≤ℤ g
rest_top n w low high from to k l h f t g hn hw el eh hf ht fg tg =
    by_lt_z (pos 0) (n -ℤ k) up down
  where
    inside : IsBetween l (n -ℤ k) h
    inside = let a = hn.0 in let b = hn.1 in (omega (arith, ints), omega (arith, ints))

    last : (e x : ℤ) → ((n -ℤ k) *ℤ w) ≤ℤ ((n -ℤ k) *ℤ e) → (e *ℤ (n -ℤ k)) ≤ℤ x → x ≤ℤ g → ((n -ℤ k) *ℤ w) ≤ℤ g
    last e x p q r = omega (arith, ints, p, q, r, mul_comm (n -ℤ k) e)

    up : pos 0 <ℤ (n -ℤ k) → ((n -ℤ k) *ℤ w) ≤ℤ g
    up u = last to t (greatest (n -ℤ k) from to to w ((λ _. refl), (λ d. absurd (omega (arith, ints, u, d)))) hw) (ht (n -ℤ k) inside) tg

    down : (n -ℤ k) ≤ℤ pos 0 → ((n -ℤ k) *ℤ w) ≤ℤ g
    down d = last from f (greatest (n -ℤ k) from to from w ((λ u. absurd (omega (arith, ints, u, d))), (λ _. refl)) hw) (hf (n -ℤ k) inside) fg

-- the height of a point above a multiple of a plane, as a multiple of a direction plus the rest
height_parts : (plane : PlaneValue) (m o p : Vector) (t k : ℤ)
    → height plane p *ℤ t ≡ k *ℤ (dot m p -ℤ dot m o)
    +ℤ dot (record { x = plane.normal.x *ℤ t -ℤ k *ℤ m.x; y = plane.normal.y *ℤ t -ℤ k *ℤ m.y; z = plane.normal.z *ℤ t -ℤ k *ℤ m.z }) (minus p o)
    +ℤ height plane o *ℤ t
height_parts plane m o p t k =
    let N = vec 0 in let M = vec 1 in let O = vec 2 in let P = vec 3 in let C = var 12 in let T = var 13 in let K = var 14 in
    ring (put plane.normal (put m (put o (put p (plane.offset ∷ t ∷ k ∷ []))))) (mul (less (dotE N P) C) T)
    (add (add (mul K (less (dotE M P) (dotE M O))) (dotE (rest N M T K) (subE P O))) (mul (less (dotE N O) C) T)) refl
  where
    rest : VE → VE → Expr → Expr → VE
    rest n m t k = record { x = less (mul n.x t) (mul k m.x); y = less (mul n.y t) (mul k m.y); z = less (mul n.z t) (mul k m.z) }

pub block_is_below : (b : Bundle) (block : Block) (k share rest : ℤ) → pos 0 ≤ℤ k
    → share ≡ k *ℤ (block.reach -ℤ dot (vector_of block.along) b.origin)
    → ((n p : Vector) → IsInSpans b n → IsWithin block.bounds p → dot (less_times n k (vector_of block.along)) (minus p b.origin) ≤ℤ rest)
    → (share +ℤ rest) <ℤ b.depth
    → (plane : PlaneValue) → IsOfBundle b plane → (p : Vector) → IsInBlock block p → height plane p <ℤ pos 0
block_is_below b block k share rest nk es er total plane of p in_block =
    by_lt_z (height plane p) (pos 0) (λ l. l) (λ g. absurd (no_height (mul-nonneg (height plane p) of.times g (positive_le of.times of.some))))
  where
    m : Vector
    m = vector_of block.along

    first : (k *ℤ (dot m p -ℤ dot m b.origin)) ≤ℤ share
    first =
        let less_le : (x y z : ℤ) → x ≤ℤ y → (x -ℤ z) ≤ℤ (y -ℤ z) = λ x y z l. omega (arith, ints) in
        let low = in_block.low in
        rw es
        (mul-le k (dot m p -ℤ dot m b.origin) (block.reach -ℤ dot m b.origin) nk (less_le (dot m p) block.reach (dot m b.origin) low))

    second : dot (less_times (taken plane.normal of.times) k m) (minus p b.origin) ≤ℤ rest
    second = er (taken plane.normal of.times) p of.normal in_block.within

    sums : (h x y d s r e : ℤ) → h ≡ x +ℤ y +ℤ d → x ≤ℤ s → y ≤ℤ r → (s +ℤ r) <ℤ e → (d +ℤ e) ≤ℤ pos 0 → h <ℤ pos 0
    sums h x y d s r e eq hx hy t deep = omega (arith, ints)

    no_height : pos 0 ≤ℤ (height plane p *ℤ of.times) → ⊥
    no_height g =
        let l = sums (height plane p *ℤ of.times) (k *ℤ (dot m p -ℤ dot m b.origin))
        (dot (less_times (taken plane.normal of.times) k m) (minus p b.origin)) (height plane b.origin *ℤ of.times) share rest b.depth
        (height_parts plane m b.origin p of.times k) first second total of.deep in
        omega (arith, ints, g, l)

-- the difference to a point between two coordinates is between the differences to these
pub way_between : (low p high o a b : ℤ) → a ≡ low -ℤ o → b ≡ high -ℤ o → IsBetween low p high → IsBetween a (p -ℤ o) b
way_between low p high o a b ea eb h = let l = h.0 in let g = h.1 in (omega (arith, ints), omega (arith, ints))

-- three bounds bound the sum
pub three_below : (x y z a b c s : ℤ) → s ≡ a +ℤ b +ℤ c → x ≤ℤ a → y ≤ℤ b → z ≤ℤ c → (x +ℤ y +ℤ z) ≤ℤ s
three_below x y z a b c s e hx hy hz = omega (arith, ints)

-- a multiple of a plane that is in the bundle
pub of_bundle : (b : Bundle) (plane : PlaneValue) (n : Vector) (t : ℕ) (h x y z : ℤ) → n ≡ plane.normal → 0 < t
    → x ≡ n.x *ℤ pos t → y ≡ n.y *ℤ pos t → z ≡ n.z *ℤ pos t → IsBetween b.x.low x b.x.high → IsBetween b.y.low y b.y.high → IsBetween b.z.low z b.z.high
    → h ≡ height plane b.origin → (h *ℤ pos t +ℤ b.depth) ≤ℤ pos 0 → IsOfBundle b plane
of_bundle b plane n t h x y z e some ex ey ez bx by_y bz eh deep = record {
  times = pos t;
  some = omega (arith, ints);
  normal = record {
    x = subst (λ v. IsBetween b.x.low v b.x.high) (ex ∙ ap (λ (v : Vector). v.x *ℤ pos t) e) bx;
    y = subst (λ v. IsBetween b.y.low v b.y.high) (ey ∙ ap (λ (v : Vector). v.y *ℤ pos t) e) by_y;
    z = subst (λ v. IsBetween b.z.low v b.z.high) (ez ∙ ap (λ (v : Vector). v.z *ℤ pos t) e) bz;
  };
  deep = subst (λ v. (v *ℤ pos t +ℤ b.depth) ≤ℤ pos 0) eh deep;
}
