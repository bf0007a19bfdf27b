-- Points between a triangle and the middle of four points.
-- This project's own.
use Rattle.std.specs.Prelude.{ℕ, ◌≡◌, List, ℤ, pos, ◌+ℤ◌, ◌≤ℤ◌, ◌<ℤ◌}
use Rattle.qh_model.specs.headline.{Vector.Vector, Predicates.place, Predicates.vol, Sets.In}
use Rattle.qh_parts.specs.declared.seam.triangles.Four.{Four}

-- four times the volume of a tetrahedron with the middle of four points
abbrev pub four_vols : Vector → Vector → Vector → Four → ℤ
four_vols a b c o = vol a b c o.s +ℤ vol a b c o.t +ℤ vol a b c o.u +ℤ vol a b c o.v

-- the points of four ids of a list, ordered so that the fourth is below the triangle of the others
pub record IsFourOf (pts : List Vector) (ids : List ℕ) (o : Four) : Type 0 where
  pub s : ℕ
  pub t : ℕ
  pub u : ℕ
  pub v : ℕ
  pub has_s : In s ids
  pub has_t : In t ids
  pub has_u : In u ids
  pub has_v : In v ids
  pub s_is : o.s ≡ place pts s
  pub t_is : o.t ≡ place pts t
  pub u_is : o.u ≡ place pts u
  pub v_is : o.v ≡ place pts v
  pub turned : vol o.s o.t o.u o.v <ℤ pos 0

-- p is not above the triangle, and beyond no plane through the middle of the four and a side
pub record IsInCone (a b c : Vector) (o : Four) (p : Vector) : Type 0 where
  pub below : vol a b c p ≤ℤ pos 0
  pub first : four_vols a b p o ≤ℤ pos 0
  pub second : four_vols b c p o ≤ℤ pos 0
  pub third : four_vols c a p o ≤ℤ pos 0
