use Rattle.{std.proofs.Common.sym, std.proofs.Common.subst, qh_plane.proofs.PlaceLists.place_repeats, qh_plane.specs.steps.Repeats.AreAllRepeats}
use Rattle.qh_plane.proofs.distinct_points.distinct_of_keys.Goals as goal

pub distinct_without-requires-clause-repeats : goal.distinct_without-requires-clause-repeats
distinct_without-requires-clause-repeats c =
    subst (AreAllRepeats c.args.pts.now) (sym c.deref.ensures.value)
    (place_repeats c.args.pts.now c.args.keys.now c.requires.keys c.requires.sorted c.in_ok-repeats.repeats.items c.in_ok-repeats.ensures)
