use Rattle.qh_model.proofs.Common.{◌≡◌, ◌+◌, ◌/◌, ◌<◌, ◌+ℤ◌, length, arith, ap, sym, subst, ◌∙◌, rules, to_z-of_z, place}
use Rattle.std.specs.{Int.w128, Int.cast_signed as to_z, Prelude.FitsSigned}
use Rattle.qconvex_c.proofs.VolumeSums.{volume_at, sum_step, fits_step, sum_end}
use Rattle.qconvex_c.proofs.volumes.sum_of_volumes.Goals as goal

pub returns-in-None-clause-none : goal.returns-in-None-clause-none
returns-in-None-clause-none c h =
    let at = place c.args.points.now in
    let below : c.loop-number.number < length c.args.triangles.now / 3 = omega arith in
    let given : c.vol-volume.result ≡ volume_at at (at 0) c.args.triangles.now c.loop-number.number = cc in
    let fit : FitsSigned w128 c.vol-volume.result = search rules in
    c.in-None.ensures (rw (to_z-of_z w128 c.vol-volume.result fit ∙ given)
    (fits_step at (at 0) c.args.triangles.now c.loop-number.number (to_z w128 c.loop-number.total-bits) below (c.loop-number.invariant.fits h)).0)

pub loop-number-preserved : goal.loop-number-preserved
loop-number-preserved c =
    let at = place c.args.points.now in let triangles = c.args.triangles.now in let total = to_z w128 c.loop-number.total-bits in
    let below : c.loop-number.number < length triangles / 3 = omega arith in
    let given : c.vol-volume.result ≡ volume_at at (at 0) triangles c.loop-number.number = cc in
    let fit : FitsSigned w128 c.vol-volume.result = search rules in
    let volume = to_z-of_z w128 c.vol-volume.result fit ∙ given in let added = c.in-Some.ensures in
    let sum = to_z-of_z w128 c.in-Some.sum (subst (FitsSigned w128) (sym added.1) added.0) ∙ added.1 ∙ ap (λ v. total +ℤ v) volume in
    record {
      sum = rw sum (sum_step at (at 0) triangles c.loop-number.number total below c.loop-number.invariant.sum);
      fits = λ h. rw sum
          (fits_step at (at 0) triangles c.loop-number.number total below (c.loop-number.invariant.fits h)).1;
    }

pub returns-clause-sum : goal.returns-clause-sum
returns-clause-sum c =
    sum_end (place c.args.points.now) (place c.args.points.now 0) c.args.triangles.now c.loop-number.number _ (omega arith)
    c.loop-number.invariant.sum
