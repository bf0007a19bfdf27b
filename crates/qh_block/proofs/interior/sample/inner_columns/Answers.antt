-- No extreme id is below the planes of a sample's hull.
use Rattle.{std.proofs.Common.subst, std.proofs.Common.sym, qh_model.proofs.Members.rising_once, qh_surface.proofs.runs.FirstSimplexes.simplex_is}
use Rattle.qh_block.{specs.steps.InnerPoints.HasPlanes, proofs.InnerPoints.columns_are_inner}
use Rattle.qh_block.proofs.interior.sample.inner_columns.Goals as goal

pub surface_from-requires-clause-first : goal.surface_from-requires-clause-first
surface_from-requires-clause-first g c =
    let s = c.in-Solid in
    simplex_is c.args.sample.pts.now c.args.sample.ids.now s.i s.j s.k s.l s.ensures.shape.0 s.ensures.shape.1 s.ensures.shape.2

pub returns : goal.returns
returns g c =
    let pts = c.args.sample.pts.now in let ids = c.args.sample.ids.now in let between = c.in_ok-between in
    columns_are_inner pts ids c.renamed-mesh.result between.field-0
    (rw c.renamed-mesh.ensures (c.in_ok-surface.ensures.finished (rising_once ids (c.rise.ensures c.if-not-rise.false))))
    (subst (HasPlanes pts c.renamed-mesh.result) (sym between.ensures.planes) c.in_ok-planes.ensures) between.ensures.cells
