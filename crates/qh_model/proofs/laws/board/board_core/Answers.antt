use Rattle.qh_model.proofs.board.Laws.{single_holder, holds_once, children_first, root_at_the_end, root_where_all_left, no_root_where_given_up, step_bound}
use Rattle.qh_model.proofs.laws.board.board_core.Goals as goal

pub returns : goal.returns
returns c = record {
  holder = single_holder;
  once = holds_once;
  children = children_first;
  root = root_at_the_end;
  all_left = root_where_all_left;
  given_up = no_root_where_given_up;
  bound = step_bound;
}
