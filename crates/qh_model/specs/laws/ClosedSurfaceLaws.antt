-- Laws of closed surfaces: their volume, and that they leave no plane open.
use Rattle.std.specs.Prelude.{ℕ, ◌≡◌, List, [], ◌∷◌, pos, ◌<ℤ◌}
use Rattle.qh_model.specs.contract.{Surface.Surface, Surface.IsWhole, SoundSurface.IsSound, FinishedSurface.weighted_at, FinishedSurface.middle_at}
use Rattle.qh_model.specs.contract.ClosedSurface.{Triple, IsClosedSurface, signed_volume, triples_of}
use Rattle.qh_model.specs.headline.{Vector.Vector, Vector.dot, Predicates.vol, Sets.In, Sets.Once}

-- the signed volume does not depend on the fourth point
abbrev pub VolumeIsConstant : Type 0
VolumeIsConstant = (at : ℕ → Vector) (ts : List Triple) → IsClosedSurface at ts → (p q : Vector) → signed_volume at ts p ≡ signed_volume at ts q

-- i is a corner of some triangle
abbrev pub IsCornerOf : List Triple → ℕ → Type 0
IsCornerOf ts i = (t : Triple) × In t ts × In i (t.i ∷ t.j ∷ t.k ∷ [])

-- no point is strictly below every triangle and strictly beyond all corners along a direction
abbrev pub NoneBelowAndBeyond : Type 0
NoneBelowAndBeyond = (at : ℕ → Vector) (ts : List Triple) → IsClosedSurface at ts → (w p : Vector)
    → ((i : ℕ) → IsCornerOf ts i → dot w (at i) <ℤ dot w p) → ((t : Triple) → In t ts → vol (at t.i) (at t.j) (at t.k) p <ℤ pos 0) → ⊥

-- the live facets of a whole surface that is sound around the middle of four ids, each listed once, are a closed surface
abbrev pub SoundIsClosed : Type 0
SoundIsClosed = (at : ℕ → Vector) (m : Surface) (s t u v f0 : ℕ) → In f0 m.live → Once m.live → IsWhole m → IsSound m (weighted_at at) (middle_at at s t u v)
    → IsClosedSurface at (triples_of m)

-- the signed volume of these facets is below 0
abbrev pub SoundHasVolume : Type 0
SoundHasVolume = (at : ℕ → Vector) (m : Surface) (s t u v f0 : ℕ) → In f0 m.live → Once m.live → IsWhole m → IsSound m (weighted_at at) (middle_at at s t u v)
    → (p : Vector) → signed_volume at (triples_of m) p <ℤ pos 0
