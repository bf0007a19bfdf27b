use Rattle.{std.proofs.Common.◌∙◌, qh_lattice.proofs.Rows.coordinate_read, qh_lattice.proofs.Rows.rows_moved}
use Rattle.qh_lattice.proofs.lattice_map.LatticeMap.image.Goals as goal

pub returns : goal.returns
returns c =
    let map = c.args.self.now in let x = c.in_ok-x.ensures in let y = c.in_ok-y.ensures in let z = c.in_ok-z.ensures in
    c.new.ensures ∙ rows_moved map.first map.second map.third c.args.p _ _ _
    (coordinate_read c.in_ok-x.x _ x.1 x.0) (coordinate_read c.in_ok-y.y _ y.1 y.0) (coordinate_read c.in_ok-z.z _ z.1 z.0)
