-- Seams: the facets of the finished surface of a part of a set that stay when the other points are added.
-- This project's own.
use Rattle.std.specs.Prelude.{ℕ, ◌≡◌, ◌⊎◌, List, Bool, true, false, ℤ, pos, ◌≤ℤ◌, ◌<ℤ◌}
use Rattle.qh_model.specs.{contract.Surface.Side, contract.Surface.Surface, headline.Vector.Vector, headline.Predicates.vol, headline.Sets.In}
use Rattle.qh_model.specs.headline.SupportingPlane.{Supports}

-- the height of a point above the plane of facet f
abbrev pub height_over : (ℕ → Vector) → Surface → ℕ → Vector → ℤ
height_over at m f p = vol (at (m.i f)) (at (m.j f)) (at (m.k f)) p

-- p is above no live facet
abbrev pub IsBelowAll : (ℕ → Vector) → Surface → Vector → Type 0
IsBelowAll at m p = (f : ℕ) → In f m.live → height_over at m f p ≤ℤ pos 0

-- p is above a live facet that does not stay
pub record SeesGone (at : ℕ → Vector) (m : Surface) (stay : ℕ → Bool) (p : Vector) : Type 0 where
  pub f : ℕ
  pub live : In f m.live
  pub gone : stay f ≡ false
  pub sees : pos 0 <ℤ height_over at m f p

-- a live facet that stays, with a neighbour that does not
pub record IsRing (m : Surface) (stay : ℕ → Bool) (f : ℕ) : Type 0 where
  pub live : In f m.live
  pub stays : stay f ≡ true
  pub side : Side
  pub gone : stay (m.over f side) ≡ false

-- each point of A is above no facet, or above a facet that does not stay; no point of A is above a facet of the ring
pub record IsSeam (at : ℕ → Vector) (m : Surface) (stay : ℕ → Bool) (A : ℕ → Type 0) : Type 0 where
  pub answer : (l : ℕ) → A l → IsBelowAll at m (at l) ⊎ SeesGone at m stay (at l)
  pub ring : (f : ℕ) → IsRing m stay f → Supports at A (m.i f) (m.j f) (m.k f)

-- each kept id is one of the part or strictly below each facet of the ring
abbrev pub IsStrictRing : (ℕ → Vector) → (kept ids : List ℕ) → Surface → (ℕ → Bool) → Type 0
IsStrictRing at kept ids m stay =
    (g : ℕ) → IsRing m stay g → (l : ℕ) → In l kept → In l ids ⊎ (height_over at m g (at l) <ℤ pos 0)
