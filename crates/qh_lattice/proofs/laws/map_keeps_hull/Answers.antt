use Rattle.qh_lattice.proofs.{Images.moved_extreme, Hulls.moved_dimension, Hulls.moved_faces, Hulls.moved_body}
use Rattle.qh_lattice.proofs.laws.map_keeps_hull.Goals as goal

pub returns : goal.returns
returns c = record { extreme = moved_extreme; dimension = moved_dimension; faces = moved_faces; body = moved_body }
