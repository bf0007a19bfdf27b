use Rattle.std.proofs.Common.{arith, rules}
use Rattle.qconvex_c.proofs.{FaultCodes.not_told, Filled.filled, Filled.needs_room, Filled.rest_kept, Filled.rest_of}
use Rattle.qconvex_c.proofs.exported.qconvex_hull.Goals as goal

pub returns-then-fill-clause-done : goal.returns-then-fill-clause-done
returns-then-fill-clause-done c e =
    let d = c.fill.ensures.done c.if-fill.true in filled _ _ _ _ _ c.in-Ok.ensures.hull _ _ _ _ _ _
    (search rules) (search rules) (search rules) d.0 d.1 d.2

pub returns-then-fill-clause-range : goal.returns-then-fill-clause-range
returns-then-fill-clause-range c = not_told _ _ _ _ (λ e. omega (arith, e)) c.in-Ok.ensures.range

pub returns-then-fill-clause-offsets_rest : goal.returns-then-fill-clause-offsets_rest
returns-then-fill-clause-offsets_rest c e =
    rest_of _ _ c.fill.new.buffers.offsets.now _ (search rules) (rest_kept _ _ _ _ _ c.in-Ok.ensures.hull _ _ _ _ _ _ (c.fill.ensures.rest c.if-fill.true)).1

pub returns-in-Ok-clause-range : goal.returns-in-Ok-clause-range
returns-in-Ok-clause-range c = not_told _ _ _ _ (λ e. omega (arith, e)) c.in-Ok.ensures.range

pub returns-in-Ok-clause-room : goal.returns-in-Ok-clause-room
returns-in-Ok-clause-room c e = needs_room _ _ _ _ _ c.in-Ok.ensures.hull _ _ _ (c.fill.ensures.short c.if-fill.false)
