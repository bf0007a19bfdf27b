use Rattle.std.proofs.{Common.◌*◌, Common.sym, Common.subst, Common.ap, Common.◌∙◌, Common.take, lemmas.List.take_min}
use Rattle.std.specs.Fork.{IsChunk}
use Rattle.qh_threads.proofs.Cutting.{is_chunk}
use Rattle.qh_threads.proofs.chunks.chunk_at.Goals as goal

pub returns : goal.returns
returns g c =
    let xs = c.args.s.now in let size = c.args.size in let rest = c.split_at.result.1.now in
    let is = c.split_at-2.ensures.front ∙ (ap (λ k. take k rest) c.min.ensures ∙ (take_min size rest ∙ ap (take size) c.split_at.ensures.back)) in
    subst (IsChunk xs size (c.args.number * size)) (sym is) (is_chunk xs size c.args.number c.requires.size c.requires.inside)
