use Rattle.qh_pred.proofs.Bounds.{differences}
use Rattle.qh_pred.proofs.predicates.product.Goals as goal

pub cross-requires : goal.cross-requires
cross-requires c = differences c.args.a c.args.b c.args.c _ _ c.between.ensures.value c.between-2.ensures.value c.between.ensures.to c.between-2.ensures.to
