-- Identities of mapped points.
use Rattle.qh_model.proofs.Common.{◌≡◌, ◌∙◌, refl, [], ◌∷◌, List, ℤ, pos, ◌+ℤ◌, ◌*ℤ◌, ◌-ℤ◌, cross, vol, Vector, origin, minus, dot, cross_product}
use Rattle.qh_model.proofs.algebra.Ring.{Expr, ring, Expr.var, Expr.add, Expr.sub as less, Expr.mul}
use Rattle.qh_model.proofs.algebra.VectorIdentities.{vec, put, dotE, crossE, subE, VE, vector_path, opposite, oppositeE, dot_comm, dot-origin}
use Rattle.qh_model.proofs.closed_surfaces.Beyond.{scaled, scaledE}
use Rattle.qh_lattice.specs.{contract.LatticeMaps.Matrix, contract.LatticeMaps.determinant, contract.LatticeMaps.moved, laws.MapLaws.MovedVolume}

-- the image of a vector, with no shift
abbrev pub apply : Matrix → Vector → Vector
apply m v = record { x = dot m.first v; y = dot m.second v; z = dot m.third v }

-- ---- expressions
-- nine expressions by rows
pub record ME : Type 0 where
  pub first : VE
  pub second : VE
  pub third : VE

-- the image of a vector
abbrev pub applyE : ME → VE → VE
applyE m v = record { x = dotE m.first v; y = dotE m.second v; z = dotE m.third v }

-- the determinant
abbrev pub determinantE : ME → Expr
determinantE m = dotE (crossE m.first m.second) m.third

-- the map of the first nine variables
abbrev pub mapE : ME
mapE = record { first = vec 0; second = vec 1; third = vec 2 }

-- nine numbers in front of the rest
abbrev pub put_map : Matrix → List ℤ → List ℤ
put_map m env = put m.first (put m.second (put m.third env))

-- ---- other maps
-- the map of the normals
abbrev pub cofactors : Matrix → Matrix
cofactors m = record { first = cross_product m.second m.third; second = cross_product m.third m.first; third = cross_product m.first m.second }

-- the same for expressions
abbrev cofactorsE : ME → ME
cofactorsE m = record { first = crossE m.second m.third; second = crossE m.third m.first; third = crossE m.first m.second }

-- rows and columns swap
abbrev pub transposed : Matrix → Matrix
transposed m = record {
  first = record { x = m.first.x; y = m.second.x; z = m.third.x };
  second = record { x = m.first.y; y = m.second.y; z = m.third.y };
  third = record { x = m.first.z; y = m.second.z; z = m.third.z };
}

-- the same for expressions
abbrev transposedE : ME → ME
transposedE m = record {
  first = record { x = m.first.x; y = m.second.x; z = m.third.x };
  second = record { x = m.first.y; y = m.second.y; z = m.third.y };
  third = record { x = m.first.z; y = m.second.z; z = m.third.z };
}

-- the inverse map, times the determinant
abbrev pub adjugate : Matrix → Matrix
adjugate m = transposed (cofactors m)

-- ---- differences
-- a row over a difference, with a shift
row_minus : (r p q : Vector) (s : ℤ) → (dot r p +ℤ s) -ℤ (dot r q +ℤ s) ≡ dot r (minus p q)
row_minus r p q s =
    ring (put r (put p (put q (s ∷ [])))) (less (add (dotE (vec 0) (vec 1)) (var 9)) (add (dotE (vec 0) (vec 2)) (var 9)))
    (dotE (vec 0) (subE (vec 1) (vec 2))) refl

-- a difference of images is the image of the difference
pub moved-minus : (m : Matrix) (s p q : Vector) → minus (moved m s p) (moved m s q) ≡ apply m (minus p q)
moved-minus m s p q =
    vector_path (minus (moved m s p) (moved m s q)) (apply m (minus p q)) (row_minus m.first p q s.x) (row_minus m.second p q s.y) (row_minus m.third p q s.z)

-- ---- volumes
-- the determinant of three images
triple_product : (m : Matrix) (u v w : Vector) → dot (cross_product (apply m u) (apply m v)) (apply m w) ≡ determinant m *ℤ dot (cross_product u v) w
triple_product m u v w =
    let M = mapE in let U = vec 3 in let V = vec 4 in let W = vec 5 in
    ring (put_map m (put u (put v (put w [])))) (dotE (crossE (applyE M U) (applyE M V)) (applyE M W)) (mul (determinantE M) (dotE (crossE U V) W)) refl

-- the law of volumes, with a shift
pub moved_volume : MovedVolume
unfolding vol cross
moved_volume m s a b c d =
    (λ t. dot (cross_product (moved-minus m s b a t) (moved-minus m s c a t)) (moved-minus m s d a t)) ∙ triple_product m (minus b a) (minus c a) (minus d a)

-- ---- normals
-- the normal of two images
normal_product : (m : Matrix) (u v : Vector) → cross_product (apply m u) (apply m v) ≡ apply (cofactors m) (cross_product u v)
normal_product m u v =
    let M = mapE in let U = vec 3 in let V = vec 4 in let env = put_map m (put u (put v [])) in
    let l = crossE (applyE M U) (applyE M V) in let r = applyE (cofactorsE M) (crossE U V) in
    vector_path (cross_product (apply m u) (apply m v)) (apply (cofactors m) (cross_product u v))
    (ring env l.x r.x refl) (ring env l.y r.y refl) (ring env l.z r.z refl)

-- the normal of three images
pub cross-moved : (m : Matrix) (s a b c : Vector) → cross (moved m s a) (moved m s b) (moved m s c) ≡ apply (cofactors m) (cross a b c)
unfolding cross
cross-moved m s a b c = (λ t. cross_product (moved-minus m s b a t) (moved-minus m s c a t)) ∙ normal_product m (minus b a) (minus c a)

-- ---- inverse images
-- the inverse image of a normal
pub normal_back : (m : Matrix) (n : Vector) → apply (transposed m) (apply (cofactors m) n) ≡ scaled (determinant m) n
normal_back m n =
    let M = mapE in let N = vec 3 in let env = put_map m (put n []) in
    let l = applyE (transposedE M) (applyE (cofactorsE M) N) in let r = scaledE (determinantE M) N in
    vector_path (apply (transposed m) (apply (cofactors m) n)) (scaled (determinant m) n)
    (ring env l.x r.x refl) (ring env l.y r.y refl) (ring env l.z r.z refl)

-- the shift of the inverse
abbrev pub shift_back : Matrix → Vector → Vector
shift_back m s = opposite (apply (adjugate m) s)

-- the inverse image of a point
pub moved_back : (m : Matrix) (s v : Vector) → moved (adjugate m) (shift_back m s) (moved m s v) ≡ scaled (determinant m) v
moved_back m s v =
    let M = mapE in let S = vec 3 in let V = vec 4 in let env = put_map m (put s (put v [])) in
    let A = transposedE (cofactorsE M) in let i = applyE M V in
    let i : VE = record { x = add i.x S.x; y = add i.y S.y; z = add i.z S.z } in let b = applyE A i in let o = oppositeE (applyE A S) in
    let r = scaledE (determinantE M) V in
    vector_path (moved (adjugate m) (shift_back m s) (moved m s v)) (scaled (determinant m) v)
    (ring env (add b.x o.x) r.x refl) (ring env (add b.y o.y) r.y refl) (ring env (add b.z o.z) r.z refl)

-- the image of the origin
pub apply-origin : (m : Matrix) → apply m origin ≡ origin
apply-origin m =
    let none : (r : Vector) → dot r origin ≡ pos 0 = λ r. dot_comm r origin ∙ dot-origin r in
    vector_path (apply m origin) origin (none m.first) (none m.second) (none m.third)

-- ---- scalar products
-- a factor of a vector is a factor of its image
pub dot-factor : (m : Matrix) (k : ℤ) (v w : Vector) → dot (apply m (scaled k v)) w ≡ k *ℤ dot (apply m v) w
dot-factor m k v w =
    let M = mapE in let V = vec 3 in let W = vec 4 in let K = var 15 in
    ring (put_map m (put v (put w (k ∷ [])))) (dotE (applyE M (scaledE K V)) W) (mul K (dotE (applyE M V) W)) refl
