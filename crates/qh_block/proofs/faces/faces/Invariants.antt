-- The faces that the loop over the live facets has gathered.
use Rattle.{qh_surface.specs.contract.NamedMeshes.named, qh_block.proofs.finished.Gathering.IsGathering}
use Rattle.qh_block.proofs.faces.faces.Given as goal

abbrev pub invariant-loop-f : goal.invariant-loop-f
invariant-loop-f l = IsGathering l.pts (named l.surface) l.f-iterator l.marks l.faces
