use Rattle.{qh_model.proofs.Common.sym, qh_model.proofs.Common.subst, qh_model.proofs.Common.AreIndices, qconvex_c.proofs.FanLists.faces_within}
use Rattle.qconvex_c.proofs.fans.body_normals.Goals as goal

pub fan_normals-requires : goal.fan_normals-requires
fan_normals-requires c =
    rw c.deref.ensures.value (faces_within _ _ _ (subst (λ b. AreIndices c.args.pts.now b.extremes) (sym c.body.view_is) c.requires) c.body.invariant)
