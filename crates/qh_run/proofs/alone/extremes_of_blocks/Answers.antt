use Rattle.qh_model.proofs.Common.{sym, subst, HasExtremes}
use Rattle.qh_run.proofs.KeptBlocks.{cut_kept, left_indices, rest_kept}
use Rattle.qh_run.proofs.alone.extremes_of_blocks.Goals as goal

pub returns-then-not-are_few : goal.returns-then-not-are_few
returns-then-not-are_few c =
    subst (HasExtremes c.args.pts.now c.args.ids.now) (sym c.in_ok-extend_from_slice-2.ensures.items)
    (rest_kept c.args.pts.now c.args.ids.now _ _
    (cut_kept c.args.pts.now c.args.ids.now _ _ _ _ _ _ _ _ c.split_at.ensures.front c.split_at.ensures.back
    c.deref.ensures.value c.in_ok-extend_from_slice.ensures.items c.loop-rest.invariant.kept c.in_ok-found.ensures))

pub loop-rest-preserved : goal.loop-rest-preserved
loop-rest-preserved c =
    let next = cut_kept c.args.pts.now c.args.ids.now _ _ _ _ _ _ _ _ c.split_at.ensures.front c.split_at.ensures.back
    c.deref.ensures.value c.in_ok-extend_from_slice.ensures.items c.loop-rest.invariant.kept
    c.in_ok-found.ensures in
    record { indices = left_indices c.args.pts.now c.args.ids.now _ _ c.requires.indices next; kept = next }
