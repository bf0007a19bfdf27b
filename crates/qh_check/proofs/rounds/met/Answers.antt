-- One more id is the next of the list, or is not.
use Rattle.qh_model.proofs.Common.{◌∙◌, ◌≡◌, arith, drop, get_or, sym, ◌++◌, get_or_default}
use Rattle.qh_check.specs.contract.Pieces.{IsMetAlong}
use Rattle.qh_check.proofs.{MetLists.met_step, MetLists.met_skip, rounds.met.Goals.then-is_at, rounds.met.Goals.else-is_at}
use Rattle.qh_check.proofs.rounds.met.Goals as goal

pub loop-id-preserved : goal.loop-id-preserved
loop-id-preserved c =
    let part = c.args.part.now in let ids = c.args.ids.now in let next = c.loop-id.next in let k = c.loop-id.id-index in
    let here : c.id-item.result ≡ get_or ids k 0 =
    c.id-item.is ∙ get_or_default ids k c.id-item.result 0 c.loop-id-test.true in
    elim c.if-is_at.branch [
      | then-is_at w ↦ (
          let at = c.is_at.ensures.0 w.if-is_at.true in
          rw w.next-is (
            (omega (arith, at.0)),
            met_step part ids next k (λ rest. IsMetAlong (drop c.args.before part) (ids ++ rest)) c.loop-id-test.true at.0 (at.1 ∙ here) c.loop-id.invariant.1,
          )
          )
      | else-is_at w ↦ rw w.next-is (
        c.loop-id.invariant.0,
        met_skip part ids next k (λ rest. IsMetAlong (drop c.args.before part) (ids ++ rest)) c.loop-id-test.true
            (λ h. (let yes = c.is_at.ensures.1 (h.0, h.1 ∙ sym here) in let no = w.if-is_at.false in cc)) c.loop-id.invariant.1,
      )
    ]
