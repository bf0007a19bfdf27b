-- The plane that is read is the facet's.
use Rattle.{qh_mesh.specs.contract.Edges.facet_of, qh_surface.specs.steps.Planes.no_plane, qh_surface.proofs.LiveFacets.live_below}
use Rattle.qh_pred.specs.contract.Planes.{PlaneValue, height}
use Rattle.qh_model.proofs.Common.{◌∙◌, ◌↔◌, IsTrue, arith, sym, subst, pos, ◌<ℤ◌, get_or_read}
use Rattle.qh_surface.proofs.quickhull.walk.SeesFacetPredicate.passes.Goals as goal

pub returns : goal.returns
returns c =
    let t = c.args.self.now in let f = facet_of c.args.edge in
    let l = live_below c.args.mesh.now f c.requires.live in let r = c.requires.fits in
    let read = rw (c.index.ensures, c.facet_of.ensures) at c.index-self-index.is in
    subst (λ (q : PlaneValue). IsTrue c.sees.result ↔ (pos 0 <ℤ height q t.apex))
    (sym c.index-self-index.is ∙ get_or_read t.planes.now f c.index-self-index.result (omega arith) read no_plane) c.sees.ensures
