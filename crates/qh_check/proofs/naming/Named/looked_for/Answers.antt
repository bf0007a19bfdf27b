-- The point of the current id is at the place, or that of no id is.
use Rattle.qh_model.proofs.Common.{◌≡◌, ◌∙◌, arith, ap, get_or, subst, sym, get_or_default, place, In}
use Rattle.qh_model.proofs.Members.{In-get_or, in_at}
use Rattle.qh_check.proofs.naming.Named.looked_for.Goals as goal

pub returns-then-are_same : goal.returns-then-are_same
returns-then-are_same c =
    let ids = c.args.self.ids.now in let k = c.loop-id.id-index in
    let here : c.id-item.result ≡ get_or ids k 0 =
    c.id-item.is ∙ get_or_default ids k c.id-item.result 0 c.loop-id-test.true in (
      subst (λ x. In x ids) (sym here) (In-get_or ids k 0 c.loop-id-test.true),
      sym c.point_at.ensures ∙ c.are_same.ensures.0 c.if-are_same.true,
    )

pub returns : goal.returns
returns c = λ i m e.
    let (k, l, same) = in_at c.args.self.ids.now i m in
    c.loop-id.invariant k (omega (arith, c.loop-id-test.false, l)) (ap (place c.args.self.pts.now) same ∙ e)
