-- If the polygons of each piece are faces, all polygons are.
use Rattle.qh_model.proofs.Common.{◌<◌, length, refl, arith, true, IfOk-weaker, Ok}
use Rattle.{qh_places.proofs.Chunks.chunk_all, qh_parts_join.specs.steps.Bridges.IsBridge}
use Rattle.qh_parts_join.proofs.join.bridges.are_bridges.Goals as goal

pub returns : goal.returns
returns g c = IfOk-weaker c.are_all.result _ _ (λ b all yes.
    let each = rw c.deref.ensures.value at (all yes) in
    chunk_all (IsBridge c.args.kept.pts.now c.args.kept.corners.now c.args.kept.shared.now) c.args.bridges.now _ (omega arith) (λ n l.
    let inside : n < length c.in_ok-answers.answers.items = omega (arith, c.in_ok-answers.ensures.len, c.in_ok-answers.answers.ok.0, l) in
    let e = (c.in_ok-answers.ensures.each n (Ok true) inside).1 in (
      e.argument.now,
      e.argument_is,
      (rw (each n (Ok true) inside) at e.call) refl,
    ))) c.are_all.ensures
