use Rattle.qh_model.proofs.Common.{arith, subst, sym, common_steps, AreIndices}
use Rattle.qh_run.proofs.blocks.Blocks.ask_sample.Goals as goal

pub extremes_unculled-requires-clause-indices : goal.extremes_unculled-requires-clause-indices
extremes_unculled-requires-clause-indices c =
    subst (AreIndices c.args.self.now.pts.now) (sym c.split_at.ensures.front)
    (λ k d h. let r = c.requires k d (grind (arith, common_steps, h)) in grind (arith, common_steps, h, r))
