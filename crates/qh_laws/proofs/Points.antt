-- Small sets of points, computed: combinations, extreme ids, distinct ids, dimensions, supporting planes.
use Rattle.qh_model.proofs.Common.{◌≡◌, ℕ, refl, [], ◌∷◌, arith, inl, inr, ap, subst, sym, ints, pos, negsuc, ◌≤ℤ◌, one_of, Combination, IsDimension, Others}
use Rattle.qh_model.proofs.Common.{Extreme, cross, vol, Members, IsSupportingTriple, Vector}
use Rattle.qh_model.specs.headline.Predicates.{left}

-- ---- three points of a line
abbrev on_line : ℕ → Vector
on_line i = record { x = pos i; y = pos 5; z = pos 7 }

-- the middle point is half the first plus half the last
middle : Combination on_line (Others (Members (0 ∷ 1 ∷ 2 ∷ [])) 1) (on_line 1)
middle = record {
  a = 0;
  b = 2;
  c = 0;
  d = 0;
  has_a = (inl refl, omega arith);
  has_b = (inr (inr (inl refl)), omega arith);
  has_c = (inl refl, omega arith);
  has_d = (inl refl, omega arith);
  w1 = 1;
  w2 = 1;
  w3 = 0;
  w4 = 0;
  some_weight = omega arith;
  x = refl;
  y = refl;
  z = refl;
}

-- so the middle id is not extreme
pub middle_is_no_extreme : ¬ (Extreme on_line (Members (0 ∷ 1 ∷ 2 ∷ [])) 1)
middle_is_no_extreme h = h.1 middle

-- a single id is extreme
pub one_is_extreme : Extreme on_line (Members (3 ∷ [])) 3
one_is_extreme = (inl refl, λ m. m.has_a.1 (only m.a m.has_a.0))
  where
    only : (j : ℕ) → Members (3 ∷ []) j → j ≡ 3
    only j (inl e) = e
    only j (inr n) = absurd n

-- ---- the tetrahedron at the origin
abbrev point : ℕ → ℕ → ℕ → Vector
point x y z = record { x = pos x; y = pos y; z = pos z }

-- the corners of the tetrahedron
abbrev pub tetrahedron : ℕ → Vector
tetrahedron = one_of (point 0 0 0) (point 1 0 0) (point 0 1 0) (point 0 0 1)

abbrev all : ℕ → Type 0
all = Members (0 ∷ 1 ∷ 2 ∷ 3 ∷ [])

-- six times its volume
pub volume : vol (tetrahedron 0) (tetrahedron 1) (tetrahedron 2) (tetrahedron 3) ≡ pos 1
unfolding vol cross
volume = refl

-- the turn from 1 over 2, seen from above and from 0
pub to_the_left : left (point 0 0 1) (tetrahedron 0) (tetrahedron 1) (tetrahedron 2) ≡ pos 1
unfolding left cross
to_the_left = refl

-- the tetrahedron has dimension 3
pub solid : IsDimension tetrahedron all 3
unfolding vol cross
solid = inl (
  refl,
  record {
    i = 0;
    j = 1;
    k = 2;
    l = 3;
    has_i = inl refl;
    has_j = inr (inl refl);
    has_k = inr (inr (inl refl));
    has_l = inr (inr (inr (inl refl)));
    volume = λ e. omega (arith, ints, e);
  },
)

-- its lower face, seen from below, has no point outside
pub lower_face : IsSupportingTriple tetrahedron all 0 2 1
unfolding vol cross
lower_face = record {
  has_i = inl refl;
  has_j = inr (inr (inl refl));
  has_k = inr (inl refl);
  area = λ e. let z : negsuc 0 ≡ pos 0 = ap (λ (v : Vector). v.z) e in cc;
  supports = none;
}
  where
    Under : ℕ → Type 0
    Under l = vol (tetrahedron 0) (tetrahedron 2) (tetrahedron 1) (tetrahedron l) ≤ℤ pos 0

    none : (l : ℕ) → all l → Under l
    none l (inl e) = subst Under (sym e) (omega (arith, ints))
    none l (inr (inl e)) = subst Under (sym e) (omega (arith, ints))
    none l (inr (inr (inl e))) = subst Under (sym e) (omega (arith, ints))
    none l (inr (inr (inr (inl e)))) = subst Under (sym e) (omega (arith, ints))
    none l (inr (inr (inr (inr n)))) = absurd n

-- seen from above it does not support the set: the fourth corner lies there
pub not_from_above : ¬ (IsSupportingTriple tetrahedron all 0 1 2)
unfolding vol cross
not_from_above t = let above = t.supports 3 (inr (inr (inr (inl refl)))) in omega (arith, ints, above)
