-- One more facet is removed, and its place is free.
use Rattle.qh_model.proofs.Common.{slice_index, ◌≡◌, ℕ, ◌<◌, ◌∙◌, ◌∷◌, [], reverse, arith, ap, get_or_read, reverse-append, facet_at, no_facet}
use Rattle.qh_mesh.specs.steps.Kept.{is_live, removed}
use Rattle.qh_model.proofs.surfaces.Stored.{live_inside}
use Rattle.qh_mesh.proofs.{Pools.pool_more, ListedFacets.once_apart, WrittenFacets.scattered_more}
use Rattle.qh_mesh.proofs.places.remove.Goals as goal

pub loop-f-preserved : goal.loop-f-preserved
loop-f-preserved c =
    let fs = c.args.facets.now in let ss = c.loop-f.facets in let vs = c.args.visible.now in let k = c.loop-f.f-index in
    let v = slice_index vs k in let l = c.loop-f-test.true in let r = c.removed.result in let free = c.loop-f.free.items in
    let apart = λ (j : ℕ) (m : j < k). once_apart vs c.requires.once j k m l in
    let is : c.f-item.result ≡ v = get_or_read vs k c.f-item.result l c.f-item.is 0 in
    let was = c.loop-f.invariant.facets.others v apart in let live = ap is_live was ∙ c.requires.live k 0 l in
    let read = get_or_read ss v c.index-facets-place.result (live_inside ss v live)
    (rw (c.index-place.ensures, is) at c.index-facets-place.is) no_facet in
    rw (c.index-place.ensures, is) (record {
      facets = scattered_more no_facet fs ss (slice_index vs) (λ j t. t ≡ removed (facet_at fs (slice_index vs j))) k r
          c.loop-f.invariant.facets (live_inside fs v (c.requires.live k 0 l)) apart (c.removed.ensures ∙ ap removed (read ∙ was));
      pool = rw (c.push_reserved.ensures.items, is, reverse-append free (v ∷ []))
          (pool_more ss (reverse free) v r c.loop-f.invariant.pool live (ap is_live c.removed.ensures));
      len = omega arith;
      capacity = c.push_reserved.ensures.capacity ∙ c.loop-f.invariant.capacity;
    })
