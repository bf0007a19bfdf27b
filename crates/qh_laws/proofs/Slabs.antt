-- Boxes with a slab: a bound along one direction from bounds along two.
use Rattle.qh_model.proofs.Common.{◌≡◌, refl, [], ◌∷◌, arith, ints, ℤ, ◌+ℤ◌, ◌*ℤ◌, ◌≤ℤ◌, ◌<ℤ◌, Vector, dot}
use Rattle.qh_model.proofs.algebra.{Order.mul-le, Ring.Expr, Ring.ring, Ring.Expr.var, Ring.Expr.add, Ring.Expr.sub as less, Ring.Expr.mul}
use Rattle.qh_model.proofs.algebra.VectorIdentities.{vec, dotE, put, VE}
use Rattle.qh_laws.specs.laws.PointLaws.{less_times, SlabIsBelow}

-- n is l m plus the rest
parts : (n m p : Vector) (l : ℤ) → dot n p ≡ l *ℤ dot m p +ℤ dot (less_times n l m) p
parts n m p l =
    let N = vec 0 in let M = vec 1 in let P = vec 2 in let L = var 9 in
    ring (put n (put m (put p (l ∷ [])))) (dotE N P) (add (mul L (dotE M P)) (dotE (rest N L M) P)) refl
  where
    rest : VE → Expr → VE → VE
    rest n l m = record { x = less n.x (mul l m.x); y = less n.y (mul l m.y); z = less n.z (mul l m.z) }

-- proof of the law `SlabIsBelow`
pub slab_is_below : SlabIsBelow
slab_is_below n m p l h g c some low rest total =
    finish (dot n p) (l *ℤ dot m p) (l *ℤ h) (dot (less_times n l m) p) (parts n m p l) (mul-le l (dot m p) h some low) rest total
  where
    finish : (d a b r : ℤ) → d ≡ a +ℤ r → a ≤ℤ b → r ≤ℤ g → (b +ℤ g) <ℤ c → d <ℤ c
    finish d a b r e f k t = omega (arith, ints)
