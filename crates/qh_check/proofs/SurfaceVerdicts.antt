-- Verdicts on surfaces: polygons with a fault are no surface, and polygons without a fault are one.
use Rattle.qh_model.proofs.Common.{ℕ, ◌≢◌, ◌<◌, ◌≤◌, arith, refl, inl, inr, List, [], length, get_or, All, AreClosed, step_count, IsIdSet, Vector, place}
use Rattle.qh_model.proofs.{Common.Members, Common.IsDimension, Members.All-In, Members.In-get_or}
use Rattle.qh_check.specs.{contract.Claims.ArePolygonsOf, declared.findings.Finding.Finding, declared.verdict.SurfaceVerdict.SurfaceVerdict}
use Rattle.qh_check.specs.contract.Surfaces.{IsFaceSurface, IsHullSurface, IsSurfaceReason, IsSurfaceVerdictOf}
use Rattle.qh_check.specs.declared.verdict.SurfaceVerdict.TheVariants.{Right, OtherPolygons, NoPiece, Open, Twice}
use Rattle.qh_check.specs.steps.{Faces.IsFaceOf, Findings.IsFound}
use Rattle.{qh_bodies.specs.contract.OpenSteps.IsOpen, qh_check.proofs.Pieces.no_piece}

-- ---- solid sets
module _ (pts : List Vector) (ids : List ℕ) (qs : List (List ℕ)) (set : IsIdSet pts ids)
    (solid : IsDimension (place pts) (Members ids) 3) where
  abbrev at : ℕ → Vector
  at = place pts

  surface_of : IsHullSurface at (Members ids) qs → IsFaceSurface at (Members ids) qs
  surface_of (inl h) = h.1
  surface_of (inr h) = absurd (h.0 solid)

  -- a verdict other than `Right`, which no surface has
  wrong : (v : SurfaceVerdict) → v ≢ Right → ¬ (IsFaceSurface at (Members ids) qs)
      → IsSurfaceReason at (Members ids) qs v → IsSurfaceVerdictOf pts ids qs v
  wrong v n none reason = record { right = (λ e. absurd (n e), λ p. absurd (none (surface_of p))); reason = reason }

  pub is_no_piece : (f : Finding) → IsFound pts ids qs f → IsSurfaceVerdictOf pts ids qs (NoPiece f.position f.fault)
  is_no_piece f (l, h) =
      wrong (NoPiece f.position f.fault) (λ e. cc)
      (λ s. no_piece at (Members ids) (get_or qs f.position []) f.fault (h set.distinct) (s.pieces (get_or qs f.position []) (In-get_or qs f.position [] l)))
      (l, h set.distinct)

  pub is_open : (u v : ℕ) → IsOpen qs u v → IsSurfaceVerdictOf pts ids qs (Open u v)
  is_open u v h = wrong (Open u v) (λ e. cc) (λ s. h (s.closed u v)) h

  pub is_twice : (u v : ℕ) → (u < v) × (1 < step_count qs u v) → IsSurfaceVerdictOf pts ids qs (Twice u v)
  is_twice u v h = wrong (Twice u v) (λ e. cc) (λ s. (omega (arith, s.once u v h.0, h.1))) h

  pub is_right : 0 < length qs → All (IsFaceOf pts ids) qs → AreClosed qs
      → ((u v : ℕ) → u < v → step_count qs u v ≤ 1) → IsSurfaceVerdictOf pts ids qs Right
  is_right some faces closed once = record { right = (λ e. claim, λ p. refl); reason = claim }
    where
      claim : IsHullSurface at (Members ids) qs
      claim = inl (solid, record { some = some; pieces = λ q m. All-In (IsFaceOf pts ids) qs q faces m set.distinct; closed = closed; once = once })

-- ---- sets that are not solid, whose hull is computed
module _ (pts : List Vector) (ids : List ℕ) (qs : List (List ℕ)) (flat : ¬ (IsDimension (place pts) (Members ids) 3)) where
  pub are_polygons : ArePolygonsOf (place pts) (Members ids) qs → IsSurfaceVerdictOf pts ids qs Right
  are_polygons p = record { right = (λ e. inr (flat, p), λ h. refl); reason = inr (flat, p) }

  pub are_others : ¬ (ArePolygonsOf (place pts) (Members ids) qs) → IsSurfaceVerdictOf pts ids qs OtherPolygons
  are_others n = record { right = (λ e. cc, λ h. absurd (no_surface h)); reason = inl flat }
    where
      no_surface : IsHullSurface (place pts) (Members ids) qs → ⊥
      no_surface (inl h) = flat h.0
      no_surface (inr h) = n h.1
