-- The results for a piece are its first points.
use Rattle.std.proofs.Common.{◌≡◌, ◌∙◌, ◌+◌, ◌/◌, ◌%◌, length, get_or, min, arith, ap, sym, subst}
use Rattle.std.proofs.lemmas.{Option.IfSome_then, Result.IfOk-weaker}
use Rattle.qh_plane.{proofs.FirstIds.chunk_firsts, proofs.FirstIds.chunks_reach, specs.steps.FirstIds.ArePieces}
use Rattle.qh_plane.proofs.first_ids.distinct_in_pieces.Goals as goal

pub distinct_of_pieces-requires-clause-all : goal.distinct_of_pieces-requires-clause-all
distinct_of_pieces-requires-clause-all g c =
    let len = length c.args.pts.now in let size = len / c.piece_count-count.result + 1 in
    let count : length c.deref.result.now ≡ len / size + min 1 (len % size) = ap length c.deref.ensures.value ∙ c.in_ok-pieces.ensures.len in
    chunks_reach len size (length c.deref.result.now) (omega arith) count

pub distinct_of_pieces-requires-clause-pieces : goal.distinct_of_pieces-requires-clause-pieces
distinct_of_pieces-requires-clause-pieces g c =
    let pts = c.args.pts.now in let size = length pts / c.piece_count-count.result + 1 in
    subst (ArePieces pts size) (sym c.deref.ensures.value) (λ n d l.
    let e = (c.in_ok-pieces.ensures.each n d l).1 in
    IfOk-weaker (get_or c.in_ok-pieces.pieces.items n d) _ _ (λ some h. IfSome_then some h (λ v found.
    chunk_firsts pts e.argument.now size n v.items e.argument_is found)) e.call)
