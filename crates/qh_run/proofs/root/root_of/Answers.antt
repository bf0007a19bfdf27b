-- If all passes left, all blocks are claimed.
use Rattle.qh_model.proofs.Common.{sym, subst, IsSome}
use Rattle.qh_run.proofs.WorkedBoards.{all_claimed}
use Rattle.qh_run.proofs.root.root_of.Goals as goal

pub returns-clause-root : goal.returns-clause-root
returns-clause-root g c =
    let lefts = c.args.lefts.items in
    let root = c.close.ensures.root in
    let is = c.into_root.ensures in (
      λ some. (root.0 (subst (λ r. IsSome r) is some)).1,
      λ left. subst (λ r. IsSome r) (sym is)
          (root.1 (all_claimed c.args.board lefts _ c.requires.some c.requires.worked c.close.ensures.last left, left)),
    )
