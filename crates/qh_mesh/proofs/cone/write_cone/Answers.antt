-- One more facet of the cone is written.
use Rattle.qh_model.proofs.Common.{◌+◌, ◌++◌, ap, drop, slice_index, drop_more, get_or_read, StoredFacet, no_facet}
use Rattle.qh_mesh.proofs.cone.write_cone.Goals as goal
use Rattle.qh_mesh.specs.steps.Cones.{IsOver}
use Rattle.qh_mesh.proofs.{ListedFacets.once_apart, Pools.pool_less, WrittenFacets.scattered_more}

pub loop-j-preserved : goal.loop-j-preserved
loop-j-preserved c =
    let made = c.args.made.now in let k = c.loop-j.j in let l = c.loop-j-test.true in let new = c.over.result in
    rw (c.index.ensures, get_or_read made k c.index-made-j.result l c.index-made-j.is 0) (record {
      written = scattered_more no_facet c.args.facets.now c.loop-j.facets (slice_index made)
          (IsOver c.args.horizon.now made c.args.apex) k new c.loop-j.invariant.written
          (c.requires.inside k 0 l) (λ i m. once_apart made c.requires.once i k m l)
          (record {
            next = c.mate-next.result;
            next_is = c.mate-next.ensures;
            before = c.mate-before.result;
            before_is = c.mate-before.ensures;
            is = rw (c.edge_at-to_apex.ensures, c.edge_at-from_apex.ensures) at c.over.ensures;
          });
      pool = λ places q. pool_less c.loop-j.facets (drop (k + 1) made ++ places) (slice_index made k) new
          (rw (drop_more made k 0 l) at (c.loop-j.invariant.pool places q)) (ap (λ (t : StoredFacet). t.live) c.over.ensures);
    })
