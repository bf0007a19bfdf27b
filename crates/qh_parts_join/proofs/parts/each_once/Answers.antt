-- A list without repeats has each of its ids once.
use Rattle.qh_model.proofs.Common.{◌≤◌, inl, inr, length, arith, sym, subst, IfOk-weaker, In, Once}
use Rattle.qh_model.proofs.{Members.rising_once, lists.Joined.in_append, lists.Joined.of_append}
use Rattle.qh_parts_join.proofs.OnceListed.{once_by_length}
use Rattle.qh_parts_join.proofs.parts.each_once.Goals as goal

pub returns-then-len-rising-clause-once : goal.returns-then-len-rising-clause-once
returns-then-len-rising-clause-once c =
    IfOk-weaker c.from_slice-then-len-rising.result _ _ (λ v e. subst Once (sym e) (rising_once _ c.requires.rising))
    c.from_slice-then-len-rising.ensures.items

pub returns-clause-once : goal.returns-clause-once
returns-clause-once c =
    let rising = c.args.rising.now in let items = c.extend_from_slice.new.self.items in
    let short : length items ≤ length rising = omega (arith, c.len.ensures, c.extend_from_slice.new.self.ok.0, c.if-len-rising.false) in
    once_by_length rising (rising_once rising c.requires.rising) items
    (λ l i. rw c.in_ok-extend_from_slice.ensures.items (in_append _ c.args.shared.now l (rw c.in_ok-ids.ensures.items (c.requires.all l i)))) short

pub returns-clause-same : goal.returns-clause-same
returns-clause-same c = λ l. (
  λ i. elim (of_append _ c.args.shared.now l (subst (In l) c.in_ok-extend_from_slice.ensures.items i)) [
    | inl o ↦ c.requires.unshared l (rw c.in_ok-ids.ensures.items at o)
    | inr s ↦ c.requires.shared l s
  ],
  λ i. rw c.in_ok-extend_from_slice.ensures.items
      (in_append _ c.args.shared.now l (rw c.in_ok-ids.ensures.items (c.requires.all l i))),
)
