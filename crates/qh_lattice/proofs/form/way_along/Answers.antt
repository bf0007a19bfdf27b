use Rattle.{std.proofs.Common.◌*◌, std.proofs.Common.lit<, qh_lattice.specs.declared.row.TheConstants.PRODUCT_LIMIT, qh_lattice.proofs.Sums.difference_fits}
use Rattle.qh_lattice.proofs.form.way_along.Goals as goal

pub overflow_sub-reach : goal.overflow_sub-reach
overflow_sub-reach c = difference_fits c.reach.result c.reach-2.result (3 * PRODUCT_LIMIT) (lit< tt) c.reach.ensures.limit c.reach-2.ensures.limit
