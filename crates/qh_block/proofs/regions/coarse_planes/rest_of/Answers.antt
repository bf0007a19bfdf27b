-- The rest of a component after the steps.
use Rattle.qh_model.proofs.Common.{◌≡◌, arith, ints, ◌+ℤ◌, w64, w128, to_z, of_z}
use Rattle.qh_block.proofs.CoarsePlanes.{rest_is, same_product}
use Rattle.qh_block.proofs.regions.coarse_planes.rest_of.Goals as goal

pub returns-clause-rest : goal.returns-clause-rest
returns-clause-rest c =
    let n = c.args.component in let steps = c.args.steps in let step = c.args.step in let rest = c.in_ok-rest.rest in
    let long = same_product c.length.result steps step (to_z w64 (of_z w64 c.from.result)) (to_z w64 (of_z w64 step))
    (omega (arith, ints)) (omega (arith, ints)) c.length.ensures.value in
    let out = to_z w128 (of_z w128 rest) in
    let same : out ≡ rest = omega (arith, ints, c.in_ok-rest.ensures.limit) in
    let whole : n ≡ c.length.result +ℤ out =
    omega (arith, ints, same, c.in_ok-rest.ensures.same, c.left_of-left.ensures.value, c.left_of-left.ensures.limit, c.length.ensures.limit) in
    rest_is n steps step out c.length.result long whole (omega (arith, ints, same, c.in_ok-rest.ensures.low))
