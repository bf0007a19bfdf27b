use Rattle.qh_write.proofs.texts.numbering.VertexNumbers.number.Goals as goal
use Rattle.qh_write.proofs.TextLemmas.{number_found}

pub unreachable-requires : goal.unreachable-requires
unreachable-requires c =
    let has = rw c.in-Search.is at c.requires in
    rw c.in-Err.is at (number_found c.in-Search.extremes.now c.args.id c.binary_search.result has.0 has.1 c.binary_search.ensures.position)

pub returns-in-Ok : goal.returns-in-Ok
returns-in-Ok c =
    let has = rw c.in-Search.is at c.requires in
    rw c.in-Search.is
    (rw c.in-Ok.is at (number_found c.in-Search.extremes.now c.args.id c.binary_search.result has.0 has.1 c.binary_search.ensures.position))
