use Rattle.qh_model.proofs.board.Spans.{span_of_leaf, span_of_node, spans_apart, span_of_root}
use Rattle.qh_model.proofs.laws.board.spans_share_blocks.Goals as goal

pub returns : goal.returns
returns c = record { leaf = span_of_leaf; node = span_of_node; apart = spans_apart; root = span_of_root }
