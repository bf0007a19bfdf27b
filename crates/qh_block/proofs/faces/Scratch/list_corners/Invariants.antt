-- The corners of the facets so far.
use Rattle.{std.proofs.Common.◌≡◌, std.proofs.Common.take, qh_surface.specs.contract.NamedMeshes.named, qh_block.specs.steps.Faces.corners_of}
use Rattle.qh_block.proofs.faces.Scratch.list_corners.Given as goal

abbrev pub invariant-loop-f : goal.invariant-loop-f
invariant-loop-f l = l.corners.items ≡ corners_of (named l.surface) (take l.f-index l.f-items)
