-- Each polygon is contributed by a part or is a face of the kept ids, and they close up as the faces of the parts do.
use Rattle.qh_model.proofs.Common.{inl, inr, IfSome_then, IsPermutation-sym, IsPermutation-trans, HasDistinctPoints, place, Members}
use Rattle.qh_model.proofs.{Members.All-In, Members.in_permutation, lists.Joined.of_append}
use Rattle.qh_bodies.proofs.{StepCounts.closed_permuted, StepBorders.closed_by_border, TallyOrder.tally_permuted}
use Rattle.qh_parts_join.specs.steps.Bridges.{IsBridge}
use Rattle.qh_parts_join.proofs.join.joined.join_faces.Goals as goal

pub body_of_joined-requires : goal.body_of_joined-requires
body_of_joined-requires g c = tally_permuted _ _ _ c.in_ok-polygons.ensures.same c.in_ok-polygons.ensures.tally

pub returns : goal.returns
returns g c =
    let pts = c.args.kept.pts.now in let bridges = c.args.bridges.now in
    let border = (rw c.in_ok-closes.was at c.in_ok-polygons.ensures.beside.0) c.if-not-closes.false in
    let closing = (rw c.in_ok-closes.was at c.in_ok-polygons.ensures.beside.1) c.if-not-closes.false in
    let same = IsPermutation-trans _ _ _ c.in_ok-faces.ensures c.in_ok-polygons.ensures.same in
    IfSome_then c.body_of_joined.result c.body_of_joined.ensures (λ b is ids kept distinct solid stand keeps given closed. (
    let apart : HasDistinctPoints (place pts) (Members kept) = λ i j hi hj e. distinct i j (stand.inside i hi) (stand.inside j hj) e in
    is (place pts) ids kept distinct solid stand
    (closed_permuted _ _ same (closed_by_border c.args.given c.args.gone.now bridges closed border))
    (λ q m. elim (of_append c.args.given bridges q (in_permutation _ _ (IsPermutation-sym _ _ same) q m)) [
      | inl o ↦ inl (given q o)
      | inr o ↦ inr (All-In (IsBridge pts c.args.kept.corners.now c.args.kept.shared.now) bridges q closing o kept keeps apart)
    ])
    ))
