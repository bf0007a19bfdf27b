-- A product of two coordinates fits 64 bits.
use Rattle.qh_model.{proofs.Common.lit<, proofs.Common.w32, proofs.Common.w64, specs.declared.limits.TheConstants.COORDINATE_LIMIT}
use Rattle.qh_block.proofs.Numbers.{product_fits, product_is, product_size}
use Rattle.qh_block.proofs.regions.coarse_planes.product.Goals as goal

pub overflow_mul-result : goal.overflow_mul-result
overflow_mul-result c =
    product_fits w32 w64 c.args.a c.args.b c.from.result c.from-2.result COORDINATE_LIMIT c.from.ensures c.from-2.ensures
    c.ranges.a c.ranges.b (lit< tt) (lit< tt) c.requires.a c.requires.b

pub returns-clause-value : goal.returns-clause-value
returns-clause-value c =
    product_is w32 w64 c.args.a c.args.b c.from.result c.from-2.result COORDINATE_LIMIT c.from.ensures c.from-2.ensures
    c.ranges.a c.ranges.b (lit< tt) (lit< tt) c.requires.a c.requires.b

pub returns-clause-limit : goal.returns-clause-limit
returns-clause-limit c =
    product_size w32 w64 c.args.a c.args.b c.from.result c.from-2.result COORDINATE_LIMIT c.from.ensures c.from-2.ensures
    c.ranges.a c.ranges.b (lit< tt) (lit< tt) c.requires.a c.requires.b
