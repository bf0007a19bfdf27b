-- Surfaces of hulls, cut into pieces in any way, and the faults of other polygons. This project's own.
use Rattle.std.specs.Prelude.{ℕ, ◌≡◌, ◌<◌, ◌≤◌, ◌⊎◌, ◌↔◌, List, [], length, slice_index_or}
use Rattle.qh_model.specs.{contract.ClosedPolygons.AreClosed, contract.ClosedPolygons.step_count, headline.Vector.Vector, headline.Dimension.IsDimension}
use Rattle.qh_model.specs.headline.{Predicates.place, Sets.In, Sets.Members}
use Rattle.qh_check.specs.{contract.Claims.ArePolygonsOf, contract.Claims.IsFaceFault, contract.Pieces.IsPiece, declared.verdict.SurfaceVerdict.SurfaceVerdict}
use Rattle.qh_check.specs.declared.verdict.SurfaceVerdict.TheVariants.{Right, OtherPolygons, NoPiece, Open, Twice}
use Rattle.qh_bodies.specs.contract.OpenSteps.{IsOpen}

-- pieces of faces, at least one; each step from corner to corner is taken as often as the step back, and only once: exactly two pieces lie at each side
pub record IsFaceSurface (at : ℕ → Vector) (A : ℕ → Type 0) (qs : List (List ℕ)) : Type 0 where
  pub some : 0 < length qs
  pub pieces : (q : List ℕ) → In q qs → IsPiece at A q
  pub closed : AreClosed qs
  pub once : (u v : ℕ) → u < v → step_count qs u v ≤ 1

-- the surface of the hull of the set: in dimension 3 cut into pieces in any way and order, otherwise the polygons of the hull
abbrev pub IsHullSurface : (ℕ → Vector) → (ℕ → Type 0) → List (List ℕ) → Type 0
IsHullSurface at A qs =
    (IsDimension at A 3 × IsFaceSurface at A qs) ⊎ ((¬ (IsDimension at A 3)) × ArePolygonsOf at A qs)

-- the meaning of each verdict on the polygons
abbrev pub IsSurfaceReason : (ℕ → Vector) → (ℕ → Type 0) → List (List ℕ) → SurfaceVerdict → Type 0
IsSurfaceReason at A qs Right = IsHullSurface at A qs
IsSurfaceReason at A qs OtherPolygons = (¬ (IsDimension at A 3)) ⊎ (length qs ≡ 0)
IsSurfaceReason at A qs (NoPiece n fault) = (n < length qs) × IsFaceFault at A (slice_index_or qs n []) fault
IsSurfaceReason at A qs (Open u v) = IsOpen qs u v
IsSurfaceReason at A qs (Twice u v) = (u < v) × (1 < step_count qs u v)

-- the verdict is `Right` exactly if the polygons are the surface, and the verdict is true
pub record IsSurfaceVerdictOf (pts : List Vector) (ids : List ℕ) (qs : List (List ℕ)) (v : SurfaceVerdict) : Type 0 where
  pub right : (v ≡ Right) ↔ IsHullSurface (place pts) (Members ids) qs
  pub reason : IsSurfaceReason (place pts) (Members ids) qs v
