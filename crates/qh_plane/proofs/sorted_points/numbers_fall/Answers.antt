-- The numbers up to the next one fall.
use Rattle.{std.proofs.Common.◌≤◌, std.proofs.Common.◌<◌, std.proofs.Common.arith, qh_plane.proofs.SortedPoints.one_more}
use Rattle.qh_plane.proofs.sorted_points.numbers_fall.Goals as goal

pub loop-j-preserved : goal.loop-j-preserved
loop-j-preserved c =
    let one : 1 ≤ c.loop-j.j = c.loop-j.invariant.0 in
    let f = c.place_number-in-loop-j.ensures in (
      omega (arith, one),
      one_more c.args.pts.now (λ a b. b < a) c.loop-j.j c.index-pts-j.result c.index-pts-j-in-loop-j.result one c.loop-j-test.true
          c.index-pts-j.is c.index-pts-j-in-loop-j.is (omega (arith, c.if-place_number.false, c.place_number.ensures, f)) c.loop-j.invariant.1,
    )
