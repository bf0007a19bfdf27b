-- One more live facet is listed.
use Rattle.std.proofs.Common.{◌∙◌}
use Rattle.qh_surface.proofs.LiveFacets.{all_live, next_live, rest_live}
use Rattle.qh_tests_geometry.proofs.tests.block.surfaces.triangles.Goals as goal

pub loop-f-init : goal.loop-f-init
loop-f-init c =
    all_live c.args.mesh.now c.into_iter-f-iterator.result (c.into_iter-f-iterator.ensures.into_iter_gives ∙ c.live-f-items.ensures)

pub facet-requires : goal.facet-requires
facet-requires c = next_live c.args.mesh.now c.loop-f.f-iterator c.next.new.self c.in-Some.f c.loop-f.invariant c.in-Some.ensures.steps

pub loop-f-preserved : goal.loop-f-preserved
loop-f-preserved c = rest_live c.args.mesh.now c.loop-f.f-iterator c.next.new.self c.in-Some.f c.loop-f.invariant c.in-Some.ensures.steps
