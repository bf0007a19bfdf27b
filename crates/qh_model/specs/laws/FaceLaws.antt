-- Laws of supporting planes: the extreme ids have the same ones as the whole set.
use Rattle.std.specs.Prelude.{ℕ, ◌≡◌, ◌<◌, ◌↔◌, List, pos, ◌*ℤ◌}
use Rattle.qh_model.specs.{contract.IdSets.HasDistinctPoints, headline.Vector.Vector}
use Rattle.qh_model.specs.headline.{Predicates.cross, Predicates.vol, Predicates.AreInLine, Sets.Members, Extreme.Extreme}
use Rattle.qh_model.specs.headline.SupportingPlane.{Supports, IsSupportingTriple, OnPlane}

-- n and m have the same direction: s n = t m with s and t above 0
pub record IsAlong (n m : Vector) : Type 0 where
  pub s : ℕ
  pub t : ℕ
  pub some_s : 0 < s
  pub some_t : 0 < t
  pub x : pos s *ℤ n.x ≡ pos t *ℤ m.x
  pub y : pos s *ℤ n.y ≡ pos t *ℤ m.y
  pub z : pos s *ℤ n.z ≡ pos t *ℤ m.z

-- extreme ids u, v, w span the plane of i, j, k, with the same side outside
pub record SpannedByExtremes (at : ℕ → Vector) (A : ℕ → Type 0) (i j k : ℕ) : Type 0 where
  pub u : ℕ
  pub v : ℕ
  pub w : ℕ
  pub has_u : Extreme at A u
  pub has_v : Extreme at A v
  pub has_w : Extreme at A w
  pub area : ¬ (AreInLine (at u) (at v) (at w))
  pub supports : Supports at A u v w
  pub along : IsAlong (cross (at i) (at j) (at k)) (cross (at u) (at v) (at w))
  pub same : (l : ℕ) → (vol (at i) (at j) (at k) (at l) ≡ pos 0) ↔ (vol (at u) (at v) (at w) (at l) ≡ pos 0)

-- the extremes of a face are the extremes of the set that lie in it
abbrev pub ExtremesOfFace : Type 0
ExtremesOfFace = (at : ℕ → Vector) (ids : List ℕ) (i j k : ℕ) → Supports at (Members ids) i j k
    → (l : ℕ) → Extreme at (OnPlane at (Members ids) i j k) l ↔ OnPlane at (Extreme at (Members ids)) i j k l

-- a plane with no extreme id outside has no member outside
abbrev pub SupportOfExtremes : Type 0
SupportOfExtremes = (at : ℕ → Vector) (ids : List ℕ) → HasDistinctPoints at (Members ids)
    → (i j k : ℕ) → Supports at (Extreme at (Members ids)) i j k → Supports at (Members ids) i j k

-- each supporting plane is spanned by three extreme ids
abbrev pub PlanesOfExtremes : Type 0
PlanesOfExtremes = (at : ℕ → Vector) (ids : List ℕ) → HasDistinctPoints at (Members ids)
    → (i j k : ℕ) → IsSupportingTriple at (Members ids) i j k → SpannedByExtremes at (Members ids) i j k
