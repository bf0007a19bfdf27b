-- The written twins and facets form the cone.
use Rattle.std.proofs.Common.{◌++◌, ap}
use Rattle.qh_mesh.specs.steps.Kept.{is_live}
use Rattle.qh_mesh.proofs.Pools.{pool_same}
use Rattle.qh_mesh.proofs.rebuild.close.Goals as goal

pub returns : goal.returns
returns c = let new = c.join_outer-is_complete.new.facets in let j = c.join_outer-is_complete.ensures.joined in record {
  joined_to = new;
  joined = j;
  written = c.write_cone.ensures.written;
  pool = λ places q. c.write_cone.ensures.pool places
      (pool_same c.args.facets.now new (c.args.made.now ++ places) j.len (λ f. ap is_live (j.same f)) j.count q);
}
