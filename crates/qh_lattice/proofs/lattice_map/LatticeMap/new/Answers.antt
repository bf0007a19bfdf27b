use Rattle.qh_model.proofs.Common.{◌∙◌, ap, vol}
use Rattle.qh_lattice.proofs.Rows.{is_above, rows_oriented}
use Rattle.qh_lattice.proofs.lattice_map.LatticeMap.new.Goals as goal

pub invariant_of-result : goal.invariant_of-result
invariant_of-result c = record {
  oriented = rows_oriented c.args.first c.args.second c.args.third (is_above c.vol.result _ c.vol.type_inv c.if-vol-gt0.true
      (c.vol.ensures ∙ ap (λ o. vol o c.args.first.by c.args.second.by c.args.third.by) c.new.ensures));
}
