-- Expressions for vectors, and the identities of `vol`.
use Rattle.qh_model.proofs.Common.{◌≡◌, ℕ, ◌+◌, ◌*◌, refl, List, [], ◌∷◌, arith, ap, ◌∙◌, *ℤ-zero, ints, ℤ, pos, ◌+ℤ◌, ◌-ℤ◌, ◌*ℤ◌, neg_ℤ, cross, vol, AreInLine}
use Rattle.qh_model.proofs.Common.{Vector, origin, minus, cross_product, dot}
use Rattle.qh_model.proofs.algebra.Ring.{Expr, ring, ring_zero, Expr.var, Expr.con, Expr.add, Expr.sub as less, Expr.mul, Expr.neg}
use Rattle.qh_model.specs.headline.Predicates.{left}

-- a vector of expressions
pub record VE : Type 0 where
  pub x : Expr
  pub y : Expr
  pub z : Expr

-- the vector of the variables 3 k to 3 k + 2
abbrev pub vec : ℕ → VE
vec k = record { x = var (3 * k); y = var (3 * k + 1); z = var (3 * k + 2) }

-- a difference of expressions
abbrev pub subE : VE → VE → VE
subE p q = record { x = less p.x q.x; y = less p.y q.y; z = less p.z q.z }

-- their cross product
abbrev pub crossE : VE → VE → VE
crossE p q = record { x = less (mul p.y q.z) (mul p.z q.y); y = less (mul p.z q.x) (mul p.x q.z); z = less (mul p.x q.y) (mul p.y q.x) }

-- their scalar product
abbrev pub dotE : VE → VE → Expr
dotE p q = add (add (mul p.x q.x) (mul p.y q.y)) (mul p.z q.z)

-- their volume
abbrev pub volE : VE → VE → VE → VE → Expr
volE a b c d = dotE (crossE (subE b a) (subE c a)) (subE d a)

-- the same if the first is the origin
abbrev pub detE : VE → VE → VE → Expr
detE b c d = dotE (crossE b c) d

-- three numbers in front of the rest
abbrev pub put : Vector → List ℤ → List ℤ
put p env = p.x ∷ p.y ∷ p.z ∷ env

-- planes through one line: the key to the horizon
pub edge_product : (u v a b p y : Vector) → vol u v a p *ℤ vol u v b y -ℤ vol u v a y *ℤ vol u v b p ≡ vol u v a b *ℤ vol u v p y
unfolding vol cross
edge_product u v a b p y =
    ring (put (minus v u) (put (minus a u) (put (minus b u) (put (minus p u) (put (minus y u) [])))))
    (less (mul (detE (vec 0) (vec 1) (vec 3)) (detE (vec 0) (vec 2) (vec 4))) (mul (detE (vec 0) (vec 1) (vec 4)) (detE (vec 0) (vec 2) (vec 3))))
    (mul (detE (vec 0) (vec 1) (vec 2)) (detE (vec 0) (vec 3) (vec 4))) refl

-- signed volume: the volume with the fourth point is antisymmetric and cyclic
pub vol-flip : (u v o p : Vector) → vol u v o p ≡ neg_ℤ (vol v u o p)
unfolding vol cross
vol-flip u v o p = ring (put u (put v (put o (put p [])))) (volE (vec 0) (vec 1) (vec 2) (vec 3)) (neg (volE (vec 1) (vec 0) (vec 2) (vec 3))) refl

-- the volume changes its sign if two points swap
pub vol-swap_last : (a b c p : Vector) → vol a b c p ≡ neg_ℤ (vol a b p c)
unfolding vol cross
vol-swap_last a b c p = ring (put a (put b (put c (put p [])))) (volE (vec 0) (vec 1) (vec 2) (vec 3)) (neg (volE (vec 0) (vec 1) (vec 3) (vec 2))) refl

-- the volume with p is the volume with o plus those of the three edges with o and p
pub vol-boundary : (a b c o p : Vector) → vol a b c p ≡ vol a b c o +ℤ (vol a b o p +ℤ vol b c o p +ℤ vol c a o p)
unfolding vol cross
vol-boundary a b c o p =
    ring (put a (put b (put c (put o (put p []))))) (volE (vec 0) (vec 1) (vec 2) (vec 4)) (add (volE (vec 0) (vec 1) (vec 2) (vec 3))
    (add (add (volE (vec 0) (vec 1) (vec 3) (vec 4)) (volE (vec 1) (vec 2) (vec 3) (vec 4))) (volE (vec 2) (vec 0) (vec 3) (vec 4)))) refl

-- separator cancellation, with d x = w . (x - p)
unfoldable pub depth : Vector → Vector → Vector → ℤ
depth w p x = dot w (minus p x)

-- the contribution of one triangle to the cancellation
pub vol-depths : (w a b c r p : Vector) → vol a b c p *ℤ depth w p r ≡ vol a b r p *ℤ depth w p c +ℤ vol b c r p *ℤ depth w p a +ℤ vol c a r p *ℤ depth w p b
unfolding vol cross depth
vol-depths w a b c r p =
    ring (put w (put a (put b (put c (put r (put p [])))))) (mul (volE (vec 1) (vec 2) (vec 3) (vec 5)) (dotE (vec 0) (subE (vec 5) (vec 4))))
    (add (add (mul (volE (vec 1) (vec 2) (vec 4) (vec 5)) (dotE (vec 0) (subE (vec 5) (vec 3))))
    (mul (volE (vec 2) (vec 3) (vec 4) (vec 5)) (dotE (vec 0) (subE (vec 5) (vec 1))))) (mul
    (volE (vec 3) (vec 1) (vec 4) (vec 5)) (dotE (vec 0) (subE (vec 5) (vec 2))))) refl

-- an equation from others: the difference of its sides is a combination of theirs
no_term : (c l r : ℤ) → l ≡ r → c *ℤ (l -ℤ r) ≡ pos 0
no_term c l r e = let z : l -ℤ r ≡ pos 0 = omega (arith, ints) in ap (λ v. c *ℤ v) z ∙ *ℤ-zero c

-- the equation from three others
pub combine3 : (l r c₁ l₁ r₁ c₂ l₂ r₂ c₃ l₃ r₃ : ℤ) → l -ℤ r ≡ c₁ *ℤ (l₁ -ℤ r₁) +ℤ c₂ *ℤ (l₂ -ℤ r₂) +ℤ c₃ *ℤ (l₃ -ℤ r₃) → l₁ ≡ r₁ → l₂ ≡ r₂ → l₃ ≡ r₃ → l ≡ r
combine3 l r c₁ l₁ r₁ c₂ l₂ r₂ c₃ l₃ r₃ e e₁ e₂ e₃ = omega (arith, ints, no_term c₁ l₁ r₁ e₁, no_term c₂ l₂ r₂ e₂, no_term c₃ l₃ r₃ e₃)

-- vectors are equal if their coordinates are
pub vector_path : (p q : Vector) → p.x ≡ q.x → p.y ≡ q.y → p.z ≡ q.z → p ≡ q
vector_path p q e f g = λ i. record { x = e i; y = f i; z = g i }

-- the scalar product of a difference
pub dot-minus : (n q a : Vector) → dot n (minus q a) ≡ dot n q +ℤ neg_ℤ (dot n a)
dot-minus n q a = ring (put n (put q (put a []))) (dotE (vec 0) (subE (vec 1) (vec 2))) (add (dotE (vec 0) (vec 1)) (neg (dotE (vec 0) (vec 2)))) refl

-- a volume is a linear form of its last point
pub vol-dot : (a b c q : Vector) → vol a b c q ≡ dot (cross a b c) (minus q a)
unfolding vol cross
vol-dot a b c q = refl

-- a volume is linear in its last point
pub vol-linear : (a b c q : Vector) → vol a b c q ≡ dot (cross a b c) q +ℤ neg_ℤ (dot (cross a b c) a)
vol-linear a b c q = vol-dot a b c q ∙ dot-minus (cross a b c) q a

-- a volume in which a point occurs twice
pub vol-first : (a b c : Vector) → vol a b c a ≡ pos 0
unfolding vol cross
vol-first a b c = ring_zero (put a (put b (put c []))) (volE (vec 0) (vec 1) (vec 2) (vec 0)) refl

-- the same for the second point
pub vol-second : (a b c : Vector) → vol a b c b ≡ pos 0
unfolding vol cross
vol-second a b c = ring_zero (put a (put b (put c []))) (volE (vec 0) (vec 1) (vec 2) (vec 1)) refl

-- the same for the third point
pub vol-third : (a b c : Vector) → vol a b c c ≡ pos 0
unfolding vol cross
vol-third a b c = ring_zero (put a (put b (put c []))) (volE (vec 0) (vec 1) (vec 2) (vec 2)) refl

-- each point of a volume can be moved to the last place
pub vol-first_last : (a b c d : Vector) → vol a b c d ≡ vol d c b a
unfolding vol cross
vol-first_last a b c d = ring (put a (put b (put c (put d [])))) (volE (vec 0) (vec 1) (vec 2) (vec 3)) (volE (vec 3) (vec 2) (vec 1) (vec 0)) refl

-- the second point moved to the last place
pub vol-second_last : (a b c d : Vector) → vol a b c d ≡ vol c d a b
unfolding vol cross
vol-second_last a b c d = ring (put a (put b (put c (put d [])))) (volE (vec 0) (vec 1) (vec 2) (vec 3)) (volE (vec 2) (vec 3) (vec 0) (vec 1)) refl

-- the third point moved to the last place
pub vol-third_last : (a b c d : Vector) → vol a b c d ≡ vol b a d c
unfolding vol cross
vol-third_last a b c d = ring (put a (put b (put c (put d [])))) (volE (vec 0) (vec 1) (vec 2) (vec 3)) (volE (vec 1) (vec 0) (vec 3) (vec 2)) refl

-- the opposite direction
abbrev pub opposite : Vector → Vector
opposite u = record { x = neg_ℤ u.x; y = neg_ℤ u.y; z = neg_ℤ u.z }

-- the same for expressions
abbrev pub oppositeE : VE → VE
oppositeE u = record { x = neg u.x; y = neg u.y; z = neg u.z }

-- the scalar products of the opposite direction change their sign
pub dot-opposite : (u p : Vector) → dot (opposite u) p ≡ neg_ℤ (dot u p)
dot-opposite u p = ring (put u (put p [])) (dotE (oppositeE (vec 0)) (vec 1)) (neg (dotE (vec 0) (vec 1))) refl

-- the scalar products of the origin are 0
pub dot-origin : (p : Vector) → dot origin p ≡ pos 0
dot-origin p = omega (arith, ints)

-- a turn is the scalar product of the triangle's normal and n, and a linear form of its last point
pub left-dot : (n a b c : Vector) → left n a b c ≡ dot (cross a b c) n
unfolding left cross
left-dot n a b c = refl

-- a turn is a linear form of its last point
pub left-linear : (n a b q : Vector) → left n a b q ≡ dot (cross_product n (minus b a)) q +ℤ neg_ℤ (dot (cross_product n (minus b a)) a)
unfolding left cross
left-linear n a b q =
    ring (put n (put a (put b (put q [])))) (dotE (crossE (subE (vec 2) (vec 1)) (subE (vec 3) (vec 1))) (vec 0))
    (add (dotE (crossE (vec 0) (subE (vec 2) (vec 1))) (vec 3)) (neg (dotE (crossE (vec 0) (subE (vec 2) (vec 1))) (vec 1)))) refl

-- a turn of expressions
abbrev pub leftE : VE → VE → VE → VE → Expr
leftE n u v w = dotE (crossE (subE v u) (subE w u)) n

-- a turn is cyclic, and the reversed turn is the opposite one
pub left-turn : (n a b c : Vector) → left n a b c ≡ left n b c a
unfolding left cross
left-turn n a b c = ring (put n (put a (put b (put c [])))) (leftE (vec 0) (vec 1) (vec 2) (vec 3)) (leftE (vec 0) (vec 2) (vec 3) (vec 1)) refl

-- a reversed turn changes its sign
pub left-flip : (n a b c : Vector) → left n a b c ≡ neg_ℤ (left n a c b)
unfolding left cross
left-flip n a b c = ring (put n (put a (put b (put c [])))) (leftE (vec 0) (vec 1) (vec 2) (vec 3)) (neg (leftE (vec 0) (vec 1) (vec 3) (vec 2))) refl

-- three points in line have no volume with a fourth point
pub in_line-vol : (a b c d : Vector) → AreInLine a b c → vol a b c d ≡ pos 0
in_line-vol a b c d e = vol-dot a b c d ∙ ap (λ v. dot v (minus d a)) e ∙ dot-origin (minus d a)

-- three points in line have no turn
pub in_line-left : (n a b c : Vector) → AreInLine a b c → left n a b c ≡ pos 0
in_line-left n a b c e = left-dot n a b c ∙ ap (λ v. dot v n) e ∙ dot-origin n

-- a point that occurs twice is in line with any third
pub in_line-twice : (a c : Vector) → AreInLine a a c
unfolding cross
in_line-twice a c = vector_path (cross a a c) origin (flat a.y c.z a.z c.y) (flat a.z c.x a.x c.z) (flat a.x c.y a.y c.x)
  where
    flat : (p q r s : ℤ) → (p -ℤ p) *ℤ (q -ℤ r) -ℤ (r -ℤ r) *ℤ (s -ℤ p) ≡ pos 0
    flat p q r s = ring (p ∷ q ∷ r ∷ s ∷ [])
        (less (mul (less (var 0) (var 0)) (less (var 1) (var 2))) (mul (less (var 2) (var 2)) (less (var 3) (var 0)))) (con (pos 0)) refl

-- a point is in line with another that occurs twice
pub in_line-last : (a b : Vector) → AreInLine a b b
unfolding cross
in_line-last a b = vector_path (cross a b b) origin (none (b.y -ℤ a.y) (b.z -ℤ a.z)) (none (b.z -ℤ a.z) (b.x -ℤ a.x)) (none (b.x -ℤ a.x) (b.y -ℤ a.y))
  where
    none : (p q : ℤ) → p *ℤ q -ℤ q *ℤ p ≡ pos 0
    none p q = ring (p ∷ q ∷ []) (less (mul (var 0) (var 1)) (mul (var 1) (var 0))) (con (pos 0)) refl

-- scalar products commute
pub dot_comm : (n p : Vector) → dot n p ≡ dot p n
dot_comm n p = omega (arith, ints)

-- the reversed triangle
pub vol-flip_last : (a b c d : Vector) → vol a c b d ≡ neg_ℤ (vol a b c d)
unfolding vol cross
vol-flip_last a b c d = ring (put a (put b (put c (put d [])))) (volE (vec 0) (vec 2) (vec 1) (vec 3)) (neg (volE (vec 0) (vec 1) (vec 2) (vec 3))) refl
