-- A block below all planes is skipped, or its first positions are near.
use Rattle.std.proofs.Common.{arith, ◌≤◌, ◌+◌}
use Rattle.qh_places.{specs.declared.places.TheConstants.LEAF, proofs.NearPositions.near_start, proofs.NearPositions.near_skip, proofs.NearPositions.near_add}
use Rattle.qh_places.proofs.places.Places.near.Goals as goal

pub loop-from-init : goal.loop-from-init
loop-from-init c = rw c.new-starts.ensures.items (near_start _ _)

pub loop-from-preserved-then-below-gt0 : goal.loop-from-preserved-then-below-gt0
loop-from-preserved-then-below-gt0 c =
    let within : c.saturating_add-from.result ≤ c.loop-from.from + c.below_all-below.result =
    omega (arith, c.saturating_add-from.ensures) in
    near_skip _ _ _ _ _ _ c.loop-from.invariant
    c.below_all-below.ensures within

pub loop-from-preserved : goal.loop-from-preserved
loop-from-preserved c =
    let within : c.saturating_add-from-else-below-gt0.result ≤ c.loop-from.from + LEAF = omega (arith, c.saturating_add-from-else-below-gt0.ensures) in
    rw c.in_ok-push.ensures.items (near_add _ _ _ _ _ c.loop-from.invariant within)

pub returns : goal.returns
returns c = λ plane o k l m.
    c.loop-from.invariant plane o k (omega (arith, c.loop-from-test.false, l, c.len.ensures)) m
