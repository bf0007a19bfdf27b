-- One more member is met, before the member that was tested previously.
use Rattle.qh_model.proofs.Common.{ℕ, ◌≡◌, ◌∙◌, ◌+◌, ◌-◌, ◌<◌, ◌≤◌, arith, drop, get_or, length, subst, sym, get_or_default}
use Rattle.qh_check.specs.{contract.Pieces.IsMetAlong, steps.Rounds.way_behind}
use Rattle.qh_check.proofs.MetBehind.{behind, length-way, met_before, met_earlier}
use Rattle.qh_check.proofs.rounds.goes_on.Goals as goal

pub loop-index-preserved : goal.loop-index-preserved
loop-index-preserved c =
    let rest = c.args.rest.now in let face = c.args.face.now in let from = c.args.begin in let way = way_behind face from in
    let index = c.loop-index.index in let before = c.loop-index.before in let steps = c.steps_behind-steps.result in
    let k : ℕ = length rest - 1 - index in let to : ℕ = get_or c.args.positions.now k 0 in
    let below = c.loop-index-test.true in let bound = c.loop-index.invariant.0 in
    let less : steps < before = c.if-steps-before.false in
    let at = c.is_at.ensures.0 c.if-not-is_at.false in
    let within : k < length rest = omega (arith, below) in
    let last : length rest - index ≡ k + 1 = omega (arith, below) in
    let this : k ≡ length rest - (index + 1) = omega (arith, below) in
    let here : get_or rest k 0 ≡ get_or way steps 0 =
    sym (at.1 ∙ c.index-rest-place.is ∙ get_or_default rest k c.index-rest-place.result 0 within)
    ∙ sym (behind face from c.requires.begin to steps at.0 (omega (arith, less, bound)) c.steps_behind-steps.ensures) in
    let met : IsMetAlong (drop (k + 1) rest) (drop before way) =
    subst (λ n. IsMetAlong (drop n rest) (drop before way)) last c.loop-index.invariant.1 in (
      omega (arith, less, bound),
      subst (λ n. IsMetAlong (drop n rest) (drop steps way)) this
          (met_before rest way k steps before within (omega (arith, less, bound, length-way face from c.requires.begin)) less here met),
    )

pub returns : goal.returns
returns c = λ yes.
    let rest = c.args.rest.now in let way = way_behind c.args.face.now c.args.begin in let before = c.loop-index.before in
    let none : length rest - c.loop-index.index ≡ 0 = omega (arith, c.loop-index-test.false) in
    let first : 0 ≤ before = omega arith in
    met_earlier rest way 0 before first (subst (λ n. IsMetAlong (drop n rest) (drop before way)) none c.loop-index.invariant.1)
