-- The sign of a turn in a plane, determined by one component of the plane's normal.
use Rattle.qh_model.proofs.algebra.Order.{le_less, mul-neg_neg, mul-pos, mul-pos_neg, product_zero}
use Rattle.qh_model.proofs.algebra.{Ring.ring, Ring.Expr.mul, Ring.Expr.var, VectorIdentities.dot_comm, VectorIdentities.left-dot, VectorIdentities.vector_path}
use Rattle.qh_model.proofs.extremes.Directions.{Parallel, parallel_normal, square-positive}
use Rattle.qh_model.specs.headline.{Predicates.cross, Predicates.left, Vector.Vector, Vector.dot, Vector.origin}
use Rattle.qh_pred.specs.contract.Turns.{IsAcross, first_product, sign}
use Rattle.std.proofs.Common.{Bool, [], ap, arith, cond, false, refl, sym, true, ◌∙◌, ◌∷◌, ◌≡◌, ◌≢◌}
use Rattle.std.proofs.lemmas.Int.{by_lt_z}
use Rattle.std.specs.{Cmp.signed_Decides, Ordering.int_eq, Prelude.pos, Prelude.ℤ, Prelude.◌*ℤ◌, Prelude.◌<ℤ◌}

-- numbers that are below, at and above 0 together have the same sign
same_sign : (x y : ℤ) → (x <ℤ pos 0 → y <ℤ pos 0) → (x ≡ pos 0 → y ≡ pos 0) → (pos 0 <ℤ x → pos 0 <ℤ y) → sign x ≡ sign y
same_sign = grind arith

-- a positive factor keeps the sign
pub sign-mul : (s z : ℤ) → pos 0 <ℤ s → sign z ≡ sign (s *ℤ z)
sign-mul s z h = same_sign z (s *ℤ z) (λ k. mul-pos_neg s z h k) (λ k. product_zero s z k) (λ k. mul-pos s z h k)

-- the square of a number other than 0
square_above : (x : ℤ) → x ≢ pos 0 → pos 0 <ℤ (x *ℤ x)
square_above x h = by_lt_z x (pos 0) (λ l. mul-neg_neg x x l l) (λ l. let p = le_less (pos 0) x l (λ e. h (sym e)) in mul-pos x x p p)

-- x and y are components of two parallel vectors, of squares s and with the scalar product t
component-sign : (s t x y : ℤ) → pos 0 <ℤ s → s *ℤ y ≡ t *ℤ x → x ≢ pos 0 → sign (x *ℤ y) ≡ sign t
component-sign s t x y h e ne = sign-mul s (x *ℤ y) h ∙ ap sign both ∙ sym (sign-mul (x *ℤ x) t (square_above x ne))
  where
    both : s *ℤ (x *ℤ y) ≡ (x *ℤ x) *ℤ t
    both = ring (s ∷ x ∷ y ∷ []) (mul (var 0) (mul (var 1) (var 2))) (mul (var 1) (mul (var 0) (var 2))) refl
        ∙ ap (λ v. x *ℤ v) e
        ∙ ring (t ∷ x ∷ []) (mul (var 1) (mul (var 0) (var 1))) (mul (mul (var 1) (var 1)) (var 0)) refl

-- for parallel vectors, the first component of n that is not 0 determines the sign of their scalar product
first_product-sign : (n c : Vector) → n ≢ origin → Parallel n c → sign (first_product n c) ≡ sign (dot n c)
first_product-sign n c some along = by_x (int_eq n.x (pos 0)) refl
  where
    told : (x y : ℤ) → dot n n *ℤ y ≡ dot n c *ℤ x → x ≢ pos 0 → sign (x *ℤ y) ≡ sign (dot n c)
    told x y e ne = component-sign (dot n n) (dot n c) x y (square-positive n some) e ne

    differ : (x : ℤ) → int_eq x (pos 0) ≡ false → x ≢ pos 0
    differ x e z = cc (e, (signed_Decides x (pos 0)).1 z)

    by_y : (b : Bool) → int_eq n.y (pos 0) ≡ b → n.x ≡ pos 0 → sign (cond b (n.z *ℤ c.z) (n.y *ℤ c.y)) ≡ sign (dot n c)
    by_y true e ex = told n.z c.z along.z (λ ez. some (vector_path n origin ex ((signed_Decides n.y (pos 0)).0 e) ez))
    by_y false e ex = told n.y c.y along.y (differ n.y e)

    by_x : (b : Bool) → int_eq n.x (pos 0) ≡ b → sign (cond b (cond (int_eq n.y (pos 0)) (n.z *ℤ c.z) (n.y *ℤ c.y)) (n.x *ℤ c.x)) ≡ sign (dot n c)
    by_x true e = by_y (int_eq n.y (pos 0)) refl ((signed_Decides n.x (pos 0)).0 e)
    by_x false e = told n.x c.x along.x (differ n.x e)

-- so this component determines the sign of a turn in a plane with the normal n
pub turn_sign : (n u v w : Vector) → IsAcross n u v w → sign (first_product n (cross u v w)) ≡ sign (left n u v w)
turn_sign = grind (arith, first_product-sign, parallel_normal, dot_comm, left-dot)
