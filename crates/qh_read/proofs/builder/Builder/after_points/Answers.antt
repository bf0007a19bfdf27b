use Rattle.std.proofs.Common.{arith, rules, refl, ap, ◌≡◌, ◌∙◌, ◌+◌, ◌-◌, ◌*◌, ℕ}
use Rattle.qh_read.specs.{contract.Progress.wants, declared.builder.Stage.Stage, steps.Stages.stage_shown}
use Rattle.qh_read.proofs.builder.Builder.after_points.Goals as goal

pub returns-in-Zero-Coordinates : goal.returns-in-Zero-Coordinates
returns-in-Zero-Coordinates c =
    let n = c.args.count in let left : ℕ = c.in-Zero-Coordinates.left in let trailing = c.in-Zero-Coordinates.trailing in
    let cut : left ≡ 3 * n + (left - 3 * n) = omega arith in
    record {
      begins = search rules;
      after_header = refl;
      text_fault = search rules;
      trailing = trailing;
      left = left - 3 * n;
      before = λ t. ap (λ (s : Stage). stage_shown s t) c.in-Zero-Coordinates.is-1 ∙ ap (λ (k : ℕ). wants trailing k t) cut;
      comes = λ t. refl;
    }
