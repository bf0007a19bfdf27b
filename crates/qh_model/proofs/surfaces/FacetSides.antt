-- The sides of a facet in cyclic order, and the side that starts at a corner.
use Rattle.qh_model.proofs.Common.{IsCorner, Side, Surface, end, rest, first, second, third, ◌≡◌, ℕ, ℕ_discrete, arith}
use Rattle.qh_model.specs.contract.Surface.{start}

-- the next side
abbrev pub side_next : Side → Side
side_next first = second
side_next second = third
side_next third = first

-- the next side starts where this one ends
pub start_next : (m : Surface) (f : ℕ) (s : Side) → start m f (side_next s) ≡ end m f s
start_next = grind arith

-- the next side ends at the third id of the facet
pub end_next : (m : Surface) (f : ℕ) (s : Side) → end m f (side_next s) ≡ rest m f s
end_next = grind arith

-- the side that starts at v
pick_side : {P Q : Type 0} → Dec P → Dec Q → Side
pick_side (yes a) b = first
pick_side (no a) (yes b) = second
pick_side (no a) (no b) = third

-- the side itself
pub from : (m : Surface) (f v : ℕ) → Side
from m f v = pick_side (ℕ_discrete v (m.i f)) (ℕ_discrete v (m.j f))

-- this side starts at v
pub from_is : (m : Surface) (f v : ℕ) → IsCorner m f v → start m f (from m f v) ≡ v
unfolding from pick_side
from_is = grind arith
