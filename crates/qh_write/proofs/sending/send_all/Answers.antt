use Rattle.std.proofs.Common.{◌≤◌, ◌-◌, ◌∙◌, length, arith}
use Rattle.qh_write.proofs.SendingLemmas.{Appends-more, fits_rest}
use Rattle.qh_write.proofs.sending.send_all.Goals as goal

pub loop-sent-preserved : goal.loop-sent-preserved
loop-sent-preserved g c =
    let fewer : c.in-Ok.taken ≤ length c.args.bytes.now - c.loop-sent.sent = fits_rest _ _ _ c.in-Ok.ensures.took.1 in (
      omega (arith, fewer, c.loop-sent-test.true),
      Appends-more _ _ _ _ _ _ c.loop-sent.invariant.0 c.loop-sent.invariant.1 c.in-Ok.ensures.went,
      c.in-Ok.ensures.count ∙ c.loop-sent.invariant.2,
    )
