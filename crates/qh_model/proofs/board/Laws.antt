-- The laws of the board.
use Rattle.qh_model.specs.laws.BoardLaws.{SingleHolder, HeldOnce, ChildrenFirst, RootAtTheEnd, RootWhereAllLeft, NoRootWhereGivenUp, StepBound}
use Rattle.qh_model.proofs.board.{Histories.held_once, Reached.reach_good, Reached.reach_ended, Reached.run_bound, Root.published_only, Root.done_is_published}

pub single_holder : SingleHolder
single_holder B W some m r = (reach_good B W some m r).one

pub holds_once : HeldOnce
holds_once B W some m r = held_once B W some m (reach_good B W some m r)

pub children_first : ChildrenFirst
children_first B W some m r = (reach_good B W some m r).below

pub root_at_the_end : RootAtTheEnd
root_at_the_end B W some m r = let g = reach_good B W some m r in (published_only B W some m g, λ e. done_is_published B W some m g e.0 e.1)

pub root_where_all_left : RootWhereAllLeft
root_where_all_left B W some m r full all = let g = reach_good B W some m r in
    done_is_published B W some m g full (λ i w e. (reach_ended B W some m r).empty w (all w (g.who i w e)) i e)

pub no_root_where_given_up : NoRootWhereGivenUp
no_root_where_given_up B W some m r w up root = let g = reach_good B W some m r in
    let t = (reach_ended B W some m r).stuck w up in (published_only B W some m g root).1 t.0 w t.1

pub step_bound : StepBound
step_bound B W some es can = run_bound B W some es can
