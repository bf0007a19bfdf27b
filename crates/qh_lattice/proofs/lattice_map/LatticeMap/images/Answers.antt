use Rattle.qh_model.proofs.Common.{◌∙◌, ap, length, [], ◌∷◌, ◌+◌, length-append, place}
use Rattle.qh_lattice.{specs.contract.LatticeMaps.moved, specs.steps.Rows.matrix_of, specs.steps.Rows.shift_of, proofs.Rows.one_more, proofs.Rows.own_place}
use Rattle.qh_lattice.proofs.lattice_map.LatticeMap.images.Goals as goal

pub loop-p-preserved : goal.loop-p-preserved
loop-p-preserved c =
    let map = c.args.self.now in let m = matrix_of map.first map.second map.third in let s = shift_of map.first map.second map.third in
    let all = c.loop-p.images.items in let q = c.in-Some.image in let items = c.in_ok-push-in-Some.ensures.items in
    let here = own_place c.args.pts.now c.loop-p.p-index c.p-item.result c.p-item.is c.loop-p-test.true in
    let more = one_more m s c.args.pts.now all c.loop-p.p-index q c.loop-p.invariant.0 c.loop-p.invariant.1 (c.in-Some.ensures ∙ ap (moved m s) here) in (
      ap length items ∙ length-append all (q ∷ []) ∙ ap (λ n. n + 1) c.loop-p.invariant.0,
      λ k l. ap (λ v. place v k) items ∙ more k l,
    )
