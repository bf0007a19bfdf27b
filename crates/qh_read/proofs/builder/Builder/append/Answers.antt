use Rattle.qh_model.proofs.Common.{arith, ◌≡◌, ◌++◌, ap, common_steps, append-nil, coordinates}
use Rattle.qh_read.{proofs.NumberLaws.coordinates-append, specs.steps.Stages.stage_shown}
use Rattle.qh_read.proofs.builder.Builder.append.Goals as goal

-- no coordinate of another point came in between
pub returns-clause-shown : goal.returns-clause-shown
returns-clause-shown c =
    let was = c.args.self.now in let points = c.args.points.now in
    let items : c.extend_from_slice.new.self.items ≡ was.points.items ++ points = grind (arith, common_steps) in
    rw (c.requires.awaits.begins, append-nil (coordinates c.extend_from_slice.new.self.items), append-nil (coordinates was.points.items), items)
    (ap (stage_shown c.args.next) (coordinates-append was.points.items points))
