-- The corners so far, and the remaining triangles.
use Rattle.{std.proofs.Common.◌≡◌, std.proofs.Common.◌++◌, qconvex_c.specs.contract.Flat.corners_of, qconvex_c.specs.steps.FaceFans.face_corners}
use Rattle.qconvex_c.proofs.fans.push_corners.Given as goal

abbrev pub invariant-loop-u : goal.invariant-loop-u
invariant-loop-u l = l.numbers.items ++ corners_of l.u-iterator ≡ l.initial.numbers.items ++ face_corners l.face
