use Rattle.qh_model.proofs.hulls.ExtremeParts.{part_some}
use Rattle.qh_run.proofs.blocks.Blocks.extremes_among.Goals as goal

pub invariant_of-result : goal.invariant_of-result
invariant_of-result c =
    record {
      some = part_some c.args.self.now.pts.now c.args.part.now c.in_ok-ids.ids.items c.requires.set
          c.requires.some (λ i e. ((c.in_ok-ids.ensures c.requires.set).members i).1 e);
    }
