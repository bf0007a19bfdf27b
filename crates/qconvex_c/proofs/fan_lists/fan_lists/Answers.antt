use Rattle.qh_model.proofs.Common.{◌∙◌, subst, sym, IsHull}
use Rattle.qconvex_c.proofs.FanLists.{extremes_within, fans_made}
use Rattle.qconvex_c.proofs.fan_lists.fan_lists.Goals as goal

pub body_normals-requires : goal.body_normals-requires
body_normals-requires c = extremes_within c.args.pts.now _ (subst (IsHull c.args.pts.now) (sym c.hull.view_is) c.requires)

pub returns : goal.returns
returns c =
    fans_made c.args.pts.now _ c.len.result c.in_ok-triangles.triangles.items c.in_ok-normals.normals.items
    (subst (IsHull c.args.pts.now) (sym c.hull.view_is) c.requires)
    c.in_ok-triangles.ensures c.in_ok-normals.ensures (c.len.ensures ∙ c.in_ok-triangles.triangles.ok.0)
