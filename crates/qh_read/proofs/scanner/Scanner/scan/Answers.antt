use Rattle.qh_model.proofs.Common.{arith, length, ◌+◌, ◌≡◌, ◌∷◌, ◌∙◌, ap, subst, sym, ℕ, common_steps}
use Rattle.qh_read.proofs.scanner.Scanner.scan.Goals as goal
use Rattle.qh_read.specs.{contract.Holding.Held, contract.Holding.held_by, steps.Scanning.held, steps.Scanning.HasRoom}

-- the first byte uses room for one byte, and its digits use none
pub points-rest-requires-clause-room : goal.points-rest-requires-clause-room
points-rest-requires-clause-room c =
    let cut : c.loop-byte.rest.now ≡ c.in-Some.byte.now ∷ c.in-Some.after.now = grind (arith, common_steps) in
    let count : length c.loop-byte.rest.now ≡ length c.in-Some.after.now + 1 = rw cut (omega arith) in
    let room : HasRoom c.step-grown.new.self c.step-grown.result (length c.in-Some.after.now) =
    c.step-grown.ensures.room _ (subst (λ (k : ℕ). HasRoom c.loop-byte.self c.loop-byte.token k) count c.loop-byte.invariant.room) in
    omega (arith, c.digits-digits.ensures.under_way, c.digits-digits.ensures.left)

pub loop-byte-preserved : goal.loop-byte-preserved
loop-byte-preserved c =
    let before : Held = held c.loop-byte.self c.loop-byte.token in
    let cut : c.loop-byte.rest.now ≡ c.in-Some.byte.now ∷ c.in-Some.after.now = grind (arith, common_steps) in
    let count : length c.loop-byte.rest.now ≡ length c.in-Some.after.now + 1 = rw cut (omega arith) in
    record {
      told = c.points-rest.ensures.held ∙ c.digits-digits.ensures.held
          ∙ ap (λ (h : Held). held_by h c.in-Some.after.now) c.step-grown.ensures.held ∙ ap (held_by before) (sym cut) ∙ c.loop-byte.invariant.told;
      small = c.digits-digits.ensures.small;
      room = c.points-rest.ensures.room;
      line = omega (arith, c.digits-digits.ensures.left, c.step-grown.ensures.line, c.points-rest.ensures.line);
    }
