-- The triangles so far, and the number of those that the ray meets.
use Rattle.qh_model.proofs.Common.{◌≡◌, ◌⊎◌, take, true, count_by, place, In, Triple}
use Rattle.{qh_laws.specs.contract.LocallyConvex.is_met, qh_laws.specs.contract.LocallyConvex.IsMissed, qh_check.specs.steps.Rays.IsInside}
use Rattle.qh_check.proofs.convex.rays.Ray.meets_once.Given as goal

abbrev pub invariant-loop-triangle : goal.invariant-loop-triangle
invariant-loop-triangle l = (l.met ≡ count_by (is_met (place l.pts) l.self.from l.self.through) (take l.triangle-index l.triangles))
    × ((t : Triple) → In t (take l.triangle-index l.triangles) → IsInside (place l.pts) l.self.from t)
    × ((t : Triple) → In t (take l.triangle-index l.triangles) →
    (is_met (place l.pts) l.self.from l.self.through t ≡ true) ⊎ IsMissed (place l.pts) l.self.from l.self.through t)
