-- The first difference decides, or the lengths.
use Rattle.qh_model.proofs.Common.{◌≡◌, ◌≢◌, ℕ, ◌<◌, ◌∙◌, arith, get_or, length, min, sym, Bool, true, false, eqb, eq-eqb, get_or_default, nat_tests, not}
use Rattle.qh_bodies.proofs.OrderedPolygons.{before_at, before_end}
use Rattle.qh_bodies.proofs.order.comes_before.Goals as goal

apart : (x y : ℕ) → true ≡ not (eqb x y) → x ≢ y
apart x y t e = by (eqb x y) (eq-eqb x y e) t
  where
    by : (b : Bool) → b ≡ true → true ≡ not b → ⊥
    by true e t = cc
    by false e t = cc

pub returns-then-ne : goal.returns-then-ne
returns-then-ne c =
    let p = c.args.p.now in let q = c.args.q.now in let k = c.loop-k.k in
    let m = c.min-k-end.ensures in let test = c.loop-k-test.true in
    let lp : k < length p = omega (arith, m, test) in let lq : k < length q = omega (arith, m, test) in
    let x = c.index-p-k-then-ne.is ∙ get_or_default p k _ 0 lp in
    let y = c.index-q-k-then-ne.is ∙ get_or_default q k _ 0 lq in
    let differ : get_or p k 0 ≢ get_or q k 0 = λ e.
    apart c.index-p-k.result c.index-q-k.result c.if-ne.ensures
    (c.index-p-k.is ∙ get_or_default p k _ 0 lp ∙ e ∙ sym (c.index-q-k.is ∙ get_or_default q k _ 0 lq)) in
    let law = before_at k p q c.loop-k.invariant lp lq differ in (
      λ yes. law.0 (let l : get_or p k 0 < get_or q k 0 = grind (arith, nat_tests, yes, x, y) in l),
      λ h. (let l = law.1 h in grind (arith, nat_tests, l, x, y)),
    )

pub returns : goal.returns
returns c =
    let p = c.args.p.now in let q = c.args.q.now in
    let m = c.min-k-end.ensures in let end = c.loop-k.auto.k-end in let test = c.loop-k-test.false in
    let whole : c.loop-k.k ≡ min (length p) (length q) = omega (arith, m, end, test) in
    let law = before_end c.loop-k.k p q c.loop-k.invariant whole in (
      λ yes. law.0 (let l : length p < length q = grind (arith, nat_tests, yes) in l),
      λ h. (let l = law.1 h in grind (arith, nat_tests, l)),
    )
