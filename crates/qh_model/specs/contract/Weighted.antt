-- Weighted points: (w, x, y, z) represents the point (x, y, z) / w, or a direction if w is 0.
-- Source: homogeneous coordinates; the orientation predicate is a determinant of four of them.
use Rattle.std.specs.Prelude.{ℤ, pos, ◌+ℤ◌, ◌-ℤ◌, ◌*ℤ◌, neg_ℤ}
use Rattle.qh_model.specs.headline.Vector.{Vector}

-- a weighted point
pub record Weighted : Type 0 where
  pub w : ℤ
  pub x : ℤ
  pub y : ℤ
  pub z : ℤ

-- a point of space, with weight 1
abbrev pub weighted : Vector → Weighted
weighted p = record { w = pos 1; x = p.x; y = p.y; z = p.z }

-- the scalar product of a plane and a point
abbrev pub weighted_dot : Weighted → Weighted → ℤ
weighted_dot n p = n.w *ℤ p.w +ℤ n.x *ℤ p.x +ℤ n.y *ℤ p.y +ℤ n.z *ℤ p.z

-- the middle of four points; its weight is the sum of theirs
abbrev pub middle_of : Weighted → Weighted → Weighted → Weighted → Weighted
middle_of a b c d = record { w = a.w +ℤ b.w +ℤ c.w +ℤ d.w; x = a.x +ℤ b.x +ℤ c.x +ℤ d.x; y = a.y +ℤ b.y +ℤ c.y +ℤ d.y; z = a.z +ℤ b.z +ℤ c.z +ℤ d.z }

-- the determinant of three rows of three
abbrev pub minor : (a b c p q r u v w : ℤ) → ℤ
minor a b c p q r u v w = a *ℤ (q *ℤ w -ℤ r *ℤ v) -ℤ b *ℤ (p *ℤ w -ℤ r *ℤ u) +ℤ c *ℤ (p *ℤ v -ℤ q *ℤ u)

-- the plane through three points
abbrev pub plane_of : Weighted → Weighted → Weighted → Weighted
plane_of a b c =
    record {
      w = neg_ℤ (minor a.x a.y a.z b.x b.y b.z c.x c.y c.z);
      x = minor a.w a.y a.z b.w b.y b.z c.w c.y c.z;
      y = neg_ℤ (minor a.w a.x a.z b.w b.x b.z c.w c.x c.z);
      z = minor a.w a.x a.y b.w b.x b.y c.w c.x c.y;
    }

-- the height of p above the plane of a, b, c: a determinant, above 0 on the outer side if the weights are above 0
unfoldable pub above : Weighted → Weighted → Weighted → Weighted → ℤ
above a b c p = weighted_dot (plane_of a b c) p
