-- The corners of the facets so far are marked.
use Rattle.{qh_model.specs.contract.StoredSurface.surface_of, qh_surface.specs.contract.NamedMeshes.named, qh_parts_join.proofs.MarkedCorners.AreMarked}
use Rattle.qh_parts_join.proofs.parts.corner_marks.Given as goal

abbrev pub invariant-loop-f : goal.invariant-loop-f
invariant-loop-f l = AreMarked (surface_of (named l.surface)) l.fn.count l.f-iterator l.marks.items
