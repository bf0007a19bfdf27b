-- The first steps establish the precondition of the last ones, and together they are a replacement.
use Rattle.qh_mesh.proofs.rebuild.rebuild.Goals as goal
use Rattle.std.proofs.{Common.arith, lemmas.List.with_items_is}
use Rattle.qh_mesh.specs.steps.Rebuilt.{IsConed}
use Rattle.qh_mesh.proofs.Replacing.{is_ready, rebuilt}

pub close-requires : goal.close-requires
close-requires c = rw (c.as_mut_slice.ensures.value, c.as_slice-2.ensures.value, c.as_slice-3.ensures.value)
    (is_ready _ _ _ _ _ _ _ c.requires.surface c.requires.facets c.prepare.ensures)

pub returns : goal.returns
returns c =
    let p = c.prepare.new in let w : IsConed p.facets.items c.close.new.facets p.scratch.horizon.items p.scratch.made.items c.args.apex =
    rw (c.as_mut_slice.ensures.value, c.as_slice-2.ensures.value, c.as_slice-3.ensures.value) at c.close.ensures in
    let n = w.written.len in let m = w.joined.len in
    rw (with_items_is p.facets c.close.new.facets (omega (arith, p.facets.ok, n, m)))
    (rebuilt _ _ _ _ _ _ _ c.requires.surface c.requires.facets c.prepare.ensures _ _ w)
