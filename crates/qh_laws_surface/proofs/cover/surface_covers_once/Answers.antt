use Rattle.qh_laws_surface.proofs.CoveredFaces.{pieces_lie_in_faces, spots_lie_in_faces, faces_are_covered, pieces_are_apart, faces_are_covered_once}
use Rattle.qh_laws_surface.proofs.cover.surface_covers_once.Goals as goal

pub returns : goal.returns
returns c = record {
  inside = pieces_lie_in_faces;
  within = spots_lie_in_faces;
  covered = faces_are_covered;
  apart = pieces_are_apart;
  once = faces_are_covered_once;
}
