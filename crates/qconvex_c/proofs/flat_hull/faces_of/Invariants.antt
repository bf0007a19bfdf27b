use Rattle.std.proofs.Common.{◌≡◌, ◌++◌, drop, length}
use Rattle.qconvex_c.specs.contract.Flat.{corners_of, ends_from, offsets_of}
use Rattle.qconvex_c.proofs.flat_hull.faces_of.Given as goal

abbrev pub invariant-loop-face : goal.invariant-loop-face
invariant-loop-face l = record {
  corners : l.corners.items ++ corners_of (drop l.face-index l.faces) ≡ corners_of l.faces;
  offsets : l.offsets.items ++ ends_from (length l.corners.items) (drop l.face-index l.faces) ≡ offsets_of l.faces;
}
