use Rattle.qh_model.proofs.laws.extremes.planes_of_extremes.Goals as goal
use Rattle.qh_model.proofs.{extremes.SpanningTriples.planes_of_extremes, hulls.OfExtremes.triples_of_extremes}

pub returns : goal.returns
returns c = record { spanned = planes_of_extremes; triples = triples_of_extremes }
