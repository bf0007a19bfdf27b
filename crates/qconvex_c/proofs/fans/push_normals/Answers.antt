-- One triangle after the other, whose corners are corners of the face.
use Rattle.qh_model.proofs.Common.{rules, ◌≡◌, ◌∙◌, ◌++◌, ◌<◌, [], ◌∷◌, All, ap, length, slice_index_or, subst, sym, All-head, All-tail, flat_map, AreIndices}
use Rattle.qh_model.proofs.{Common.place, lists.Joined.join_next, polygons.Fans.triangles_all}
use Rattle.qconvex_c.{specs.contract.Triangles.normal_of, proofs.FanLists.three_of}
use Rattle.qconvex_c.proofs.fans.push_normals.Goals as goal

pub loop-u-init : goal.loop-u-init
loop-u-init c =
    let items = c.into_iter-u-iterator.ensures.into_iter_gives ∙ c.fan-u-items.ensures in record {
      grown = ap (λ ts. c.args.components.now.items ++ flat_map (normal_of (place c.args.pts.now)) ts) items;
      within = subst (All (AreIndices c.args.pts.now)) (sym items)
          (triangles_all (λ i. i < length c.args.pts.now) c.args.face.now c.requires);
    }

pub point_at-requires : goal.point_at-requires
point_at-requires c =
    All-head (AreIndices c.args.pts.now) _ _ (subst (All (AreIndices c.args.pts.now)) c.in-Some.ensures.steps c.loop-u.invariant.within)
    0 c.index-next-0.result (search rules)

pub point_at-requires-in-loop-u : goal.point_at-requires-in-loop-u
point_at-requires-in-loop-u c =
    All-head (AreIndices c.args.pts.now) _ _ (subst (All (AreIndices c.args.pts.now)) c.in-Some.ensures.steps c.loop-u.invariant.within)
    1 c.index-next-1.result (search rules)

pub point_at-requires-in-loop-u-2 : goal.point_at-requires-in-loop-u-2
point_at-requires-in-loop-u-2 c =
    All-head (AreIndices c.args.pts.now) _ _ (subst (All (AreIndices c.args.pts.now)) c.in-Some.ensures.steps c.loop-u.invariant.within)
    2 c.index-next-2.result (search rules)

pub loop-u-preserved : goal.loop-u-preserved
loop-u-preserved c =
    let t = c.in-Some.field-0 in let v = slice_index_or t 1 c.index-next-1.result in
    let w = slice_index_or t 2 c.index-next-2.result in
    let triangle : t ≡ (slice_index_or t 0 c.index-next-0.result) ∷ v ∷ w ∷ [] = three_of t _ _ _ (search rules) in record {
      grown = join_next (normal_of (place c.args.pts.now)) c.loop-u.components.items _ _ t _ _ c.in-Some.ensures.steps
          (rw triangle (search rules)) c.loop-u.invariant.grown;
      within = All-tail (AreIndices c.args.pts.now) _ _
          (subst (All (AreIndices c.args.pts.now)) c.in-Some.ensures.steps c.loop-u.invariant.within);
    }
