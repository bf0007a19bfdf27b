use Rattle.std.proofs.Common.{ap, sym, ◌∙◌, subst, length, ◌≤◌, ◌<◌}
use Rattle.{std.proofs.lemmas.Result.IfOk-weaker, qh_model.proofs.Members.All-of, qh_model.specs.declared.limits.TheConstants.POINT_LIMIT}
use Rattle.{qh_model.specs.headline.DistinctIds.AreDistinctIds, qh_plane.proofs.RepeatedIds.distinct_left, qh_polygon.specs.contract.Marks.marked_ids}
use Rattle.qh_plane.proofs.distinct_points.distinct_without.Goals as goal

pub marks_without-requires : goal.marks_without-requires
marks_without-requires c = All-of (λ i. i < length c.args.pts.now) c.args.repeats.now (λ i m. (c.requires.repeats.only i m).0)

pub marked_ids-requires : goal.marked_ids-requires
marked_ids-requires c = subst (λ v. v ≤ POINT_LIMIT) (sym (ap length c.deref.ensures.value ∙ c.in_ok-marks.ensures.len)) c.requires.few

pub returns : goal.returns
returns c =
    IfOk-weaker c.marked_ids.result _ _ (λ v e. subst (AreDistinctIds c.args.pts.now) (sym (e ∙ ap (marked_ids 0) c.deref.ensures.value))
    (distinct_left c.args.pts.now c.args.repeats.now c.in_ok-marks.marks.items c.requires.repeats c.in_ok-marks.ensures))
    c.marked_ids.ensures
