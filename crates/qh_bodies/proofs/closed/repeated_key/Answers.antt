-- Two neighbours are the same, or no two are.
use Rattle.qh_model.proofs.Common.{◌≤◌, ◌<◌, ◌∙◌, ◌-◌, arith, eqb, eqb-true, length, subst, sym, get_or_default}
use Rattle.qh_model.proofs.closed_surfaces.Sums.{count, count-is}
use Rattle.qh_bodies.proofs.RepeatedNumbers.{counts_once, counts_twice}
use Rattle.qh_bodies.proofs.closed.repeated_key.Goals as goal

pub returns-then-eq : goal.returns-then-eq
returns-then-eq c =
    let keys = c.args.keys.now in let next = c.loop-next.next in let low = c.loop-next.auto.next in
    let inside = c.loop-next-test.true in let before : next - 1 < length keys = omega (arith, inside) in
    let is = c.index-keys-next.is ∙ get_or_default keys next _ 0 inside in
    let was = c.index-keys-next-in-loop-next.is ∙ get_or_default keys (next - 1) _ 0 before in
    let same = eqb-true _ _ (sym c.eq.ensures ∙ c.if-eq.true) in
    subst (λ n. 1 < n) (count-is _ keys)
    (subst (λ z. 1 < count (eqb z) keys) (sym is)
    (counts_twice (next - 1) next keys (omega (arith, low)) inside (sym was ∙ same ∙ is)))

pub returns : goal.returns
returns c = λ key.
    let keys = c.args.keys.now in let end = c.loop-next-test.false in
    subst (λ n. n ≤ 1) (count-is _ keys)
    (counts_once keys c.requires (λ k m e l. c.loop-next.invariant k m e (omega (arith, l, end))) key)
