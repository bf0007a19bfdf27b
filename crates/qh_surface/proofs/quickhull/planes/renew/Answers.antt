-- One more plane is written.
use Rattle.qh_model.proofs.Common.{slice_index, ◌≡◌, arith, refl, ◌∙◌, length-set, get_or_read}
use Rattle.qh_surface.proofs.{LiveFacets.live_below, runs.RenewedPlanes.none_renewed, runs.RenewedPlanes.more_renewed, runs.RenewedPlanes.all_renewed}
use Rattle.qh_surface.proofs.quickhull.planes.renew.Goals as goal

pub loop-facet-init : goal.loop-facet-init
loop-facet-init c = record { len = refl; renewed = none_renewed }

pub loop-facet-preserved : goal.loop-facet-preserved
loop-facet-preserved c =
    let i = c.loop-facet.facet-index in let f = slice_index c.args.made.now i in let m = c.loop-facet-test.true in
    let is : c.facet-item.result ≡ f = get_or_read c.args.made.now i c.facet-item.result m c.facet-item.is 0 in
    let was = c.loop-facet.invariant in
    let below = live_below c.args.mesh.now f (c.requires.live i 0 m) in rw (c.index.ensures, is) (record {
      len = length-set c.loop-facet.planes.items f c.plane_of.result ∙ was.len;
      renewed = more_renewed c.plane_of.result m (omega (arith, below, c.requires.room, was.len)) (rw is at c.plane_of.ensures) was.renewed;
    })

pub returns-clause-planes : goal.returns-clause-planes
returns-clause-planes c = all_renewed c.loop-facet-test.false c.loop-facet.invariant.renewed
