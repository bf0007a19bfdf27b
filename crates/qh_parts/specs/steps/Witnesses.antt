-- Facts about the points of other parts that witnesses and a tested ring show.
-- This project's own.
use Rattle.std.specs.Prelude.{ℕ, ◌≡◌, ◌⊎◌, List, Bool, pos, ◌<ℤ◌}
use Rattle.qh_model.specs.{contract.Surface.Surface, headline.Vector.Vector, headline.Sets.In}
use Rattle.qh_pred.specs.contract.Planes.{PlaneValue, height}
use Rattle.qh_laws.specs.contract.Seam.{height_over, SeesGone, IsRing}
use Rattle.qh_parts.specs.{declared.seam.triangles.Four.Four, steps.Triangles.IsInCone}

-- p is above a facet that does not stay, or between a facet and the middle of four points
abbrev pub IsAnswered : (ℕ → Vector) → Surface → (ℕ → Bool) → Four → Vector → Type 0
IsAnswered at m stay o p = SeesGone at m stay p ⊎ ((f : ℕ) × In f m.live × IsInCone (at (m.i f)) (at (m.j f)) (at (m.k f)) o p)

-- the plane is that of facet f
abbrev pub IsPlaneOf : (ℕ → Vector) → Surface → ℕ → PlaneValue → Type 0
IsPlaneOf at m f plane = (p : Vector) → height plane p ≡ height_over at m f p

-- one of the planes is that of facet f
abbrev pub HasPlane : (ℕ → Vector) → Surface → List PlaneValue → ℕ → Type 0
HasPlane at m planes f = (plane : PlaneValue) × In plane planes × IsPlaneOf at m f plane

-- each of the ids is strictly below facet f
abbrev pub AreUnder : (ℕ → Vector) → Surface → ℕ → List ℕ → Type 0
AreUnder at m f ids = (l : ℕ) → In l ids → height_over at m f (at l) <ℤ pos 0

-- each facet that stays and has a neighbour that does not stay has the ids strictly below it
abbrev pub IsRingOver : (ℕ → Vector) → Surface → (ℕ → Bool) → List ℕ → Type 0
IsRingOver at m stay ids = (f : ℕ) → IsRing m stay f → AreUnder at m f ids
