-- A law of large cones: no facet of a cone sees a point that lies between three rays of the cone.
use Rattle.std.specs.Prelude.{pos, ◌≤ℤ◌, ◌<ℤ◌}
use Rattle.qh_model.specs.headline.{Vector.Vector, Predicates.vol}

-- a is the apex, x, y and z are corners that span a solid angle, and p lies in it; if a plane through a, b and c has none of the three outside, p is not
-- outside either
abbrev pub BetweenRaysIsUnseen : Type 0
BetweenRaysIsUnseen = (a x y z b c p : Vector) → vol a x y z <ℤ pos 0
    → vol a y z p ≤ℤ pos 0 → vol a z x p ≤ℤ pos 0 → vol a x y p ≤ℤ pos 0
    → vol a b c x ≤ℤ pos 0 → vol a b c y ≤ℤ pos 0 → vol a b c z ≤ℤ pos 0
    → vol a b c p ≤ℤ pos 0
