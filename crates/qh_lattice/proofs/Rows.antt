-- Rows of a map as rows of its matrix.
use Rattle.qh_lattice.{proofs.Sums.through, specs.contract.LatticeMaps.Matrix, specs.contract.LatticeMaps.determinant, specs.contract.LatticeMaps.moved}
use Rattle.qh_lattice.specs.declared.row.{Row.Row, TheConstants.PRODUCT_LIMIT, TheConstants.CENTRE_LIMIT}
use Rattle.qh_lattice.specs.steps.Rows.{along_row, matrix_of, shift_of, times}
use Rattle.qh_model.proofs.Common.{ℕ, ◌≡◌, ◌∙◌, ◌<◌, ◌≤◌, ◌+◌, ◌*◌, ◌^◌, refl, sym, ap, arith, below_more, FitsSigned, true, List, [], ◌∷◌, ◌++◌}
use Rattle.qh_model.proofs.Common.{get_or, length, get_or-append_seam, get_or_append_left, get_or_default, to_z-of_z, ints, fits_signed_from_abs, ℤ, pos, ◌+ℤ◌}
use Rattle.qh_model.proofs.Common.{◌-ℤ◌, ◌*ℤ◌, ◌<ℤ◌, unsigned_abs, IsCoordinate, cross, vol, place, Vector, origin, dot, lt_z, mag, w32, w128, w64, to_z, of_z}
use Rattle.qh_model.proofs.algebra.{Order.mul-pos, Ring.ring, Ring.Expr.var, Ring.Expr.con, Ring.Expr.add, Ring.Expr.sub as less, Ring.Expr.mul}
use Rattle.qh_model.proofs.algebra.VectorIdentities.{vec, put, dotE, crossE, subE, VE, vector_path}
use Rattle.{qh_model.proofs.closed_surfaces.Beyond.scaledE, qh_model.specs.declared.limits.TheConstants.COORDINATE_LIMIT, qh_pred.proofs.Coordinates.read_is}

-- the product of two coordinates that were read
pub as_product : (p x y a b : ℤ) → mag x < 2 ^ 31 → mag y < 2 ^ 31 → p ≡ to_z w32 (of_z w32 x) *ℤ to_z w32 (of_z w32 y) → x ≡ a → y ≡ b → p ≡ a *ℤ b
as_product p x y a b fx fy e ex ey = e ∙ (λ t. read_is x a fx ex t *ℤ read_is y b fy ey t)

-- the offset of a point at the scale
row_moved : (k c : ℤ) (r p : Vector) → (dot r p -ℤ c) *ℤ k ≡ dot (times k r) p +ℤ (pos 0 -ℤ c *ℤ k)
row_moved k c r p =
    ring (put r (put p (k ∷ c ∷ []))) (mul (less (dotE (vec 0) (vec 1)) (var 7)) (var 6))
    (add (dotE (scaledE (var 6) (vec 0)) (vec 1)) (less (con (pos 0)) (mul (var 7) (var 6)))) refl

-- a coordinate that is read keeps its value
pub coordinate_read : (x y : ℤ) → IsCoordinate x → x ≡ y → to_z w32 (of_z w32 x) ≡ y
coordinate_read x y h e = omega (arith, ints)

-- the code of an offset at a scale
pub offset_scaled : (r d k s x : ℤ) → unsigned_abs r ≤ 3 * PRODUCT_LIMIT → unsigned_abs k ≤ CENTRE_LIMIT → unsigned_abs s ≤ COORDINATE_LIMIT → r ≡ d
    → x ≡ through (through r -ℤ through k) *ℤ through s → x ≡ (d -ℤ k) *ℤ s
offset_scaled r d k s x hr hk hs same e =
    let fr : FitsSigned w64 r = fits_signed_from_abs w64 r (omega (arith, hr)) in
    let fk : FitsSigned w64 k = fits_signed_from_abs w64 k (omega (arith, hk)) in
    let fs : FitsSigned w64 s = fits_signed_from_abs w64 s (omega (arith, hs)) in
    let size : unsigned_abs (r -ℤ k) ≤ 3 * PRODUCT_LIMIT + CENTRE_LIMIT = omega (arith, ints, hr, hk) in
    let fo : FitsSigned w64 (r -ℤ k) = fits_signed_from_abs w64 (r -ℤ k) (omega (arith, size)) in
    let value : through (through r -ℤ through k) *ℤ through s ≡ (r -ℤ k) *ℤ s = simp to_z-of_z refl in
    e ∙ value ∙ ap (λ v. (v -ℤ k) *ℤ s) same

-- a volume of 128 bits above 0
pub is_above : (v w : ℤ) → mag v < 2 ^ 127 → lt_z (pos 0) (to_z w128 (of_z w128 v)) ≡ true → v ≡ w → pos 0 <ℤ w
is_above v w h p e = grind (arith, ints)

-- three coordinates along rows are those of the image
pub rows_moved : (a b c : Row) (p : Vector) (x y z : ℤ) → x ≡ along_row a p → y ≡ along_row b p → z ≡ along_row c p
    → record { x = x; y = y; z = z } ≡ moved (matrix_of a b c) (shift_of a b c) p
rows_moved a b c p x y z ex ey ez =
    vector_path (record { x = x; y = y; z = z }) (moved (matrix_of a b c) (shift_of a b c) p)
    (ex ∙ row_moved a.scale a.centre a.by p) (ey ∙ row_moved b.scale b.centre b.by p) (ez ∙ row_moved c.scale c.centre c.by p)

-- the determinant of rows at scales
scaled-determinant : (k l m : ℤ) (a b c : Vector)
    → determinant (record { first = times k a; second = times l b; third = times m c }) ≡ k *ℤ (l *ℤ (m *ℤ vol origin a b c))
unfolding vol cross
scaled-determinant k l m a b c =
    let O : VE = record { x = con (pos 0); y = con (pos 0); z = con (pos 0) } in
    let A = vec 0 in let B = vec 1 in let C = vec 2 in let K = var 9 in let L = var 10 in let M = var 11 in
    ring (put a (put b (put c (k ∷ l ∷ m ∷ [])))) (dotE (crossE (scaledE K A) (scaledE L B)) (scaledE M C))
    (mul K (mul L (mul M (dotE (crossE (subE A O) (subE B O)) (subE C O))))) refl

-- rows with a determinant above 0 have one above 0 at their scales
pub rows_oriented : (a b c : Row) → pos 0 <ℤ vol origin a.by b.by c.by → pos 0 <ℤ determinant (matrix_of a b c)
rows_oriented a b c h =
    rw (scaled-determinant a.scale b.scale c.scale a.by b.by c.by) (mul-pos a.scale _ a.above (mul-pos b.scale _ b.above (mul-pos c.scale _ c.above h)))

-- the images of the points so far, and one more
pub one_more : (m : Matrix) (s : Vector) (pts images : List Vector) (n : ℕ) (q : Vector) → length images ≡ n
    → ((k : ℕ) → k < n → place images k ≡ moved m s (place pts k)) → q ≡ moved m s (place pts n)
    → (k : ℕ) → k < n + 1 → place (images ++ q ∷ []) k ≡ moved m s (place pts k)
unfolding place
one_more m s pts images n q e all is =
    below_more (λ k. get_or (images ++ q ∷ []) k origin ≡ moved m s (get_or pts k origin)) n
    (λ k h. get_or_append_left images (q ∷ []) origin k (omega (arith, h, e)) ∙ all k h)
    (ap (λ i. get_or (images ++ q ∷ []) i origin) (sym e) ∙ get_or-append_seam images q [] origin ∙ is)

-- an element at an index is the point at that place
pub own_place : (pts : List Vector) (k : ℕ) (p : Vector) → p ≡ get_or pts k p → k < length pts → p ≡ place pts k
unfolding place
own_place pts k p e l = e ∙ get_or_default pts k p origin l
