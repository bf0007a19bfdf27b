-- Each part has cells between the planes, so the joined list has cells between the planes.
use Rattle.std.proofs.lemmas.Result.{IfOk-weaker}
use Rattle.qh_block.proofs.regions.sieves.cells_in_threads.Goals as goal

pub returns : goal.returns
returns g c = IfOk-weaker c.joined_cells.result _ _
    (λ v joins. joins c.args.plan.planes.now (λ n d l. (c.in_ok-parts.ensures.each n d l).1.call)) c.joined_cells.ensures
