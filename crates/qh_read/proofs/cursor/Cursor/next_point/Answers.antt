use Rattle.std.{proofs.Common.arith, proofs.Common.◌∙◌, proofs.Common.false, specs.Prelude.Some}
use Rattle.qh_read.specs.contract.Progress.{Progress, after}
use Rattle.qh_read.proofs.cursor.Cursor.next_point.Goals as goal

-- one number after another
pub returns : goal.returns
returns c =
    let x = c.in_ok-x.ensures in let before_y = c.in_ok-word_y.ensures.parted in let y = c.in_ok-y.ensures in
    let before_z = c.in_ok-word_z.ensures.parted in let z = c.in_ok-z.ensures in
    record {
      held = λ form p base.
          let first = x.held form p base in let one : Progress = after p false (Some c.in_ok-x.x.value) first.0 in
          let second = y.held form one base in let two : Progress = after one false (Some c.in_ok-y.y.value) second.0 in
          let third = z.held form two base in
          (first.0, second.0, third.0, first.1 ∙ before_y.held form one base ∙ second.1 ∙ before_z.held form two base ∙ third.1);
      moved = record {
        same = z.moved.same ∙ before_z.moved.same ∙ y.moved.same ∙ before_y.moved.same ∙ x.moved.same;
        on = omega (arith, x.moved, before_y.moved, y.moved, before_z.moved, z.moved);
        lines = omega (arith, x.moved, before_y.moved, y.moved, before_z.moved, z.moved);
      };
    }
