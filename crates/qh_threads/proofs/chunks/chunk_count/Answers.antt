use Rattle.qh_threads.proofs.Cutting.{starts_inside}
use Rattle.qh_threads.proofs.chunks.chunk_count.Goals as goal

pub returns : goal.returns
returns c =
    record { is = c.div_ceil.ensures; inside = λ n h. starts_inside n c.div_ceil.result c.args.len c.args.size c.requires c.div_ceil.ensures h }
