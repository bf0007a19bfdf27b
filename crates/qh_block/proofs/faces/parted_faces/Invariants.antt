-- The faces that the loop over the live facets has gathered.
use Rattle.{qh_surface.specs.contract.NamedMeshes.named, qh_block.proofs.finished.Parting.IsParting}
use Rattle.qh_block.proofs.faces.parted_faces.Given as goal

abbrev pub invariant-loop-f : goal.invariant-loop-f
invariant-loop-f l = IsParting l.pts (named l.surface) l.chosen l.f-iterator l.marks l.own l.others.items
