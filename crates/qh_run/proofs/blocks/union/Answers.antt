use Rattle.qh_model.proofs.Common.{◌≡◌, ◌++◌, ◌∙◌, eqb, sym, subst, ap, List, dedup_is, IsStrictlyIncreasing-dedup, ◌↔◌, ℕ, IsStrictlyIncreasing, In}
use Rattle.qh_model.proofs.lists.Joined.{in_append, of_append}
use Rattle.qh_polygon.proofs.KeptIds.{kept_members}
use Rattle.qh_run.proofs.blocks.union.Goals as goal

pub returns-clause-rising : goal.returns-clause-rising
returns-clause-rising c =
    subst IsStrictlyIncreasing (sym (dedup_is eqb _ _ c.dedup.ensures.filtered))
    (IsStrictlyIncreasing-dedup _ c.sort_unstable.ensures.sorted)

pub returns-clause-members : goal.returns-clause-members
returns-clause-members c = λ i.
    let one = c.args.one.now in
    let two = c.args.two.now in
    let given : List ℕ = c.extend_from_slice-2.new.self.items in
    let joined : given ≡ one ++ two = c.in_ok-extend_from_slice-2.ensures.items
    ∙ ap (λ xs. xs ++ two)
    (c.in_ok-extend_from_slice.ensures.items ∙ ap (λ xs. xs ++ one) c.in_ok-all.ensures.items) in
    let kept = subst (λ v. In i c.dedup.new.self.items ↔ In i v) joined
    (kept_members given c.sort_unstable.new.self.items c.dedup.new.self.items c.sort_unstable.ensures.permutation
    (dedup_is eqb _ _ c.dedup.ensures.filtered) i) in
    ((λ m. of_append one two i (kept.0 m)), λ e. kept.1 (in_append one two i e))
