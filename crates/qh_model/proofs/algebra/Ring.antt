-- A normal form of polynomials of whole numbers. An identity is proved by computing it.
use Rattle.std.proofs.Common.{◌≡◌, ℕ, arith, ap, sym, ◌∙◌, refl, List, [], ◌∷◌, Bool, true, false, eqb, ltb, get_or}
use Rattle.std.proofs.{Math.IntN.+ℤ_assoc, Math.IntN.+ℤ_idl, Math.IntN.+ℤ_idr, Math.IntN.*ℤ-zero, Math.IntN.neg_ℤ-+ℤ, lemmas.Int.ints}
use Rattle.std.specs.Prelude.{ℤ, pos, negsuc, ◌+ℤ◌, ◌-ℤ◌, ◌*ℤ◌, neg_ℤ}
use Rattle.qh_model.proofs.algebra.Integers.{mul_add, mul_assoc, mul_swap, neg_mul, one_mul, mul_one, zero_mul, add_mul}

-- an expression over numbered variables
pub data Expr : Type 0 where
  var : ℕ → Expr
  con : ℤ → Expr
  add : Expr → Expr → Expr
  sub : Expr → Expr → Expr
  mul : Expr → Expr → Expr
  neg : Expr → Expr

-- the value of an expression, where variable i is the i-th of env
abbrev pub value : List ℤ → Expr → ℤ
value env (var i) = get_or env i (pos 0)
value env (con c) = c
value env (add a b) = value env a +ℤ value env b
value env (sub a b) = value env a -ℤ value env b
value env (mul a b) = value env a *ℤ value env b
value env (neg a) = neg_ℤ (value env a)

-- a monomial is the sorted list of its variables; a polynomial is the list of its terms, sorted by monomial
abbrev pub Mono : Type 0
Mono = List ℕ

-- a polynomial
abbrev pub Poly : Type 0
Poly = List (ℤ × List ℕ)

-- the value of a monomial
abbrev pub value_m : List ℤ → Mono → ℤ
value_m env [] = pos 1
value_m env (i ∷ m) = get_or env i (pos 0) *ℤ value_m env m

-- the value of a polynomial
abbrev pub value_p : List ℤ → Poly → ℤ
value_p env [] = pos 0
value_p env (t ∷ p) = t.0 *ℤ value_m env t.1 +ℤ value_p env p

-- true if two monomials are the same
abbrev pub eq_m : Mono → Mono → Bool
eq_m [] [] = true
eq_m [] (j ∷ n) = false
eq_m (i ∷ m) [] = false
eq_m (i ∷ m) (j ∷ n) = elim (eqb i j) [ true ↦ eq_m m n | false ↦ false ]

-- true if the first monomial comes before the second
abbrev pub lt_m : Mono → Mono → Bool
lt_m [] [] = false
lt_m [] (j ∷ n) = true
lt_m (i ∷ m) [] = false
lt_m (i ∷ m) (j ∷ n) = elim (ltb i j) [ true ↦ true | false ↦ elim (eqb i j) [ true ↦ lt_m m n | false ↦ false ] ]

-- inserts a variable into a monomial
abbrev pub ins_m : ℕ → Mono → Mono
ins_m i [] = i ∷ []
ins_m i (j ∷ m) = elim (ltb i j) [ true ↦ i ∷ j ∷ m | false ↦ j ∷ ins_m i m ]

-- the product of monomials
abbrev pub mul_m : Mono → Mono → Mono
mul_m [] n = n
mul_m (i ∷ m) n = ins_m i (mul_m m n)

-- true if a coefficient is 0
abbrev pub is_zero : ℤ → Bool
is_zero (pos n) = eqb n 0
is_zero (negsuc n) = false

-- adds a term
abbrev pub ins_p : ℤ → Mono → Poly → Poly
ins_p c m [] = (c, m) ∷ []
ins_p c m (t ∷ p) = elim (eq_m m t.1) [
  | true ↦ elim (is_zero (c +ℤ t.0)) [ true ↦ p | false ↦ (c +ℤ t.0, m) ∷ p ]
  | false ↦ elim (lt_m m t.1) [ true ↦ (c, m) ∷ t ∷ p | false ↦ t ∷ ins_p c m p ]
]

-- the sum of polynomials
abbrev pub add_p : Poly → Poly → Poly
add_p [] q = q
add_p (t ∷ p) q = ins_p t.0 t.1 (add_p p q)

-- adds c m q to r
abbrev pub mul_t : ℤ → Mono → Poly → Poly → Poly
mul_t c m [] r = r
mul_t c m (t ∷ q) r = ins_p (c *ℤ t.0) (mul_m m t.1) (mul_t c m q r)

-- the product of polynomials
abbrev pub mul_p : Poly → Poly → Poly
mul_p [] q = []
mul_p (t ∷ p) q = mul_t t.0 t.1 q (mul_p p q)

-- the opposite polynomial
abbrev pub neg_p : Poly → Poly
neg_p [] = []
neg_p (t ∷ p) = (neg_ℤ t.0, t.1) ∷ neg_p p

-- the polynomial of an expression
abbrev pub norm : Expr → Poly
norm (var i) = (pos 1, i ∷ []) ∷ []
norm (con c) = (c, []) ∷ []
norm (add a b) = add_p (norm a) (norm b)
norm (sub a b) = add_p (norm a) (neg_p (norm b))
norm (mul a b) = mul_p (norm a) (norm b)
norm (neg a) = neg_p (norm a)

-- true if all coefficients are 0
abbrev pub zeros : Poly → Bool
zeros [] = true
zeros (t ∷ p) = elim (is_zero t.0) [ true ↦ zeros p | false ↦ false ]

-- ---- soundness

-- a step of the next
eq_m-split : (i j : ℕ) (m n : Mono) (b : Bool) → eqb i j ≡ b → (eq_m m n ≡ true → m ≡ n) → elim b [ true ↦ eq_m m n | false ↦ false ] ≡ true → (i ∷ m) ≡ (j ∷ n)
eq_m-split = grind arith

-- the test of monomials is correct
eq_m-is : (m n : Mono) → eq_m m n ≡ true → m ≡ n
eq_m-is [] [] e = refl
eq_m-is [] (j ∷ n) e = cc
eq_m-is (i ∷ m) [] e = cc
eq_m-is (i ∷ m) (j ∷ n) e = eq_m-split i j m n (eqb i j) refl (eq_m-is m n) e

-- each operation has the right value: inserting a variable
ins_m-value : (env : List ℤ) (i : ℕ) (m : Mono) → value_m env (ins_m i m) ≡ get_or env i (pos 0) *ℤ value_m env m
ins_m-value env i [] = refl
ins_m-value env i (j ∷ m) =
    elim (ltb i j) as (λ b. value_m env (elim b [ true ↦ i ∷ j ∷ m | false ↦ j ∷ ins_m i m ])
    ≡ get_or env i (pos 0) *ℤ (get_or env j (pos 0) *ℤ value_m env m)) [
      | true ↦ refl
      | false ↦ ap (λ v. get_or env j (pos 0) *ℤ v) (ins_m-value env i m) ∙ mul_swap (get_or env j (pos 0)) (get_or env i (pos 0)) (value_m env m)
    ]

-- the product of monomials
mul_m-value : (env : List ℤ) (m n : Mono) → value_m env (mul_m m n) ≡ value_m env m *ℤ value_m env n
mul_m-value env [] n = sym (one_mul (value_m env n))
mul_m-value env (i ∷ m) n =
    ins_m-value env i (mul_m m n) ∙ ap (λ v. get_or env i (pos 0) *ℤ v) (mul_m-value env m n)
    ∙ sym (mul_assoc (get_or env i (pos 0)) (value_m env m) (value_m env n))

-- a term whose coefficient may be 0
zero_term : (env : List ℤ) (c : ℤ) (m : Mono) (p : Poly) (b : Bool) → is_zero c ≡ b
    → value_p env (elim b [ true ↦ p | false ↦ (c, m) ∷ p ]) ≡ c *ℤ value_m env m +ℤ value_p env p
zero_term = grind arith

-- a step of the next
ins_p-split : (env : List ℤ) (c : ℤ) (m : Mono) (t : ℤ × Mono) (p q : Poly) (b b' : Bool) → eq_m m t.1 ≡ b → value_p env q ≡ c *ℤ value_m env m +ℤ value_p env p
    → value_p env (elim b [
      | true ↦ elim (is_zero (c +ℤ t.0)) [ true ↦ p | false ↦ (c +ℤ t.0, m) ∷ p ]
      | false ↦ elim b' [ true ↦ (c, m) ∷ t ∷ p | false ↦ t ∷ q ]
    ])
    ≡ c *ℤ value_m env m +ℤ (t.0 *ℤ value_m env t.1 +ℤ value_p env p)
ins_p-split env c m t p q true b' e h =
    zero_term env (c +ℤ t.0) m p (is_zero (c +ℤ t.0)) refl
    ∙ rw (sym (eq_m-is m t.1 e), add_mul c t.0 (value_m env m)) (+ℤ_assoc (c *ℤ value_m env m) (t.0 *ℤ value_m env m) (value_p env p))
ins_p-split env c m t p q false true e h = refl
ins_p-split env c m t p q false false e h = omega (arith, ints)

-- inserting a term
ins_p-value : (env : List ℤ) (c : ℤ) (m : Mono) (p : Poly) → value_p env (ins_p c m p) ≡ c *ℤ value_m env m +ℤ value_p env p
ins_p-value env c m [] = refl
ins_p-value env c m (t ∷ p) = ins_p-split env c m t p (ins_p c m p) (eq_m m t.1) (lt_m m t.1) refl (ins_p-value env c m p)

-- the sum of polynomials
add_p-value : (env : List ℤ) (p q : Poly) → value_p env (add_p p q) ≡ value_p env p +ℤ value_p env q
add_p-value env [] q = sym (+ℤ_idl (value_p env q))
add_p-value env (t ∷ p) q =
    ins_p-value env t.0 t.1 (add_p p q) ∙ ap (λ v. t.0 *ℤ value_m env t.1 +ℤ v) (add_p-value env p q)
    ∙ sym (+ℤ_assoc (t.0 *ℤ value_m env t.1) (value_p env p) (value_p env q))

-- (c d) (m n) = c m (d n)
four_swap : (c d m n : ℤ) → c *ℤ d *ℤ (m *ℤ n) ≡ c *ℤ m *ℤ (d *ℤ n)
four_swap c d m n = mul_assoc c d (m *ℤ n) ∙ ap (λ v. c *ℤ v) (mul_swap d m n) ∙ sym (mul_assoc c m (d *ℤ n))

-- the product of a term and a polynomial
mul_t-value : (env : List ℤ) (c : ℤ) (m : Mono) (q r : Poly) → value_p env (mul_t c m q r) ≡ c *ℤ value_m env m *ℤ value_p env q +ℤ value_p env r
mul_t-value env c m [] r = sym (ap (λ v. v +ℤ value_p env r) (*ℤ-zero (c *ℤ value_m env m)) ∙ +ℤ_idl (value_p env r))
mul_t-value env c m (t ∷ q) r =
    ins_p-value env (c *ℤ t.0) (mul_m m t.1) (mul_t c m q r)
    ∙ ap (λ v. c *ℤ t.0 *ℤ v +ℤ value_p env (mul_t c m q r)) (mul_m-value env m t.1)
    ∙ ap (λ v. v +ℤ value_p env (mul_t c m q r)) (four_swap c t.0 (value_m env m) (value_m env t.1))
    ∙ rw (mul_t-value env c m q r, mul_add (c *ℤ value_m env m) (t.0 *ℤ value_m env t.1) (value_p env q)) (omega (arith, ints))

-- the product of polynomials
mul_p-value : (env : List ℤ) (p q : Poly) → value_p env (mul_p p q) ≡ value_p env p *ℤ value_p env q
mul_p-value env [] q = sym (zero_mul (value_p env q))
mul_p-value env (t ∷ p) q =
    mul_t-value env t.0 t.1 q (mul_p p q) ∙ ap (λ v. t.0 *ℤ value_m env t.1 *ℤ value_p env q +ℤ v) (mul_p-value env p q)
    ∙ sym (add_mul (t.0 *ℤ value_m env t.1) (value_p env p) (value_p env q))

-- the opposite polynomial
neg_p-value : (env : List ℤ) (p : Poly) → value_p env (neg_p p) ≡ neg_ℤ (value_p env p)
neg_p-value env [] = refl
neg_p-value env (t ∷ p) =
    ap (λ v. v +ℤ value_p env (neg_p p)) (neg_mul t.0 (value_m env t.1))
    ∙ ap (λ v. neg_ℤ (t.0 *ℤ value_m env t.1) +ℤ v) (neg_p-value env p)
    ∙ sym (neg_ℤ-+ℤ (t.0 *ℤ value_m env t.1) (value_p env p))

-- the polynomial of an expression has the value of the expression
norm-value : (env : List ℤ) (e : Expr) → value_p env (norm e) ≡ value env e
norm-value env (var i) = +ℤ_idr (pos 1 *ℤ (get_or env i (pos 0) *ℤ pos 1)) ∙ one_mul (get_or env i (pos 0) *ℤ pos 1) ∙ mul_one (get_or env i (pos 0))
norm-value env (con c) = +ℤ_idr (c *ℤ pos 1) ∙ mul_one c
norm-value env (add a b) = add_p-value env (norm a) (norm b) ∙ cc (norm-value env a, norm-value env b)
norm-value env (sub a b) = add_p-value env (norm a) (neg_p (norm b)) ∙ cc (neg_p-value env (norm b), norm-value env a, norm-value env b)
norm-value env (mul a b) = mul_p-value env (norm a) (norm b) ∙ cc (norm-value env a, norm-value env b)
norm-value env (neg a) = neg_p-value env (norm a) ∙ ap neg_ℤ (norm-value env a)

-- a step of the next
zeros-split : (env : List ℤ) (c m v : ℤ) (b z : Bool) → is_zero c ≡ b → (z ≡ true → v ≡ pos 0)
    → elim b [ true ↦ z | false ↦ false ] ≡ true → c *ℤ m +ℤ v ≡ pos 0
zeros-split = grind arith

-- a polynomial whose coefficients are all 0 is 0
zeros-value : (env : List ℤ) (p : Poly) → zeros p ≡ true → value_p env p ≡ pos 0
zeros-value env [] e = refl
zeros-value env (t ∷ p) e = zeros-split env t.0 (value_m env t.1) (value_p env p) (is_zero t.0) (zeros p) refl (zeros-value env p) e

-- two numbers whose difference is 0 are equal
pub equal_from_zero : (a b : ℤ) → a -ℤ b ≡ pos 0 → a ≡ b
equal_from_zero a b e = omega (arith, ints)

-- two sides are equal if the normal form of their difference is zero
pub ring : (env : List ℤ) (a b : Expr) → zeros (norm (sub a b)) ≡ true → value env a ≡ value env b
ring env a b e = equal_from_zero (value env a) (value env b) (sym (norm-value env (sub a b)) ∙ zeros-value env (norm (sub a b)) e)

-- the same for an expression that is zero
pub ring_zero : (env : List ℤ) (a : Expr) → zeros (norm a) ≡ true → value env a ≡ pos 0
ring_zero env a e = sym (norm-value env a) ∙ zeros-value env (norm a) e
