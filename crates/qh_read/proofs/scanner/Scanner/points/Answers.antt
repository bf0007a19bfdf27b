use Rattle.std.proofs.Common.{arith, ◌≡◌, ◌∙◌, ℕ, false, ap, sym}
use Rattle.{std.proofs.lemmas.Grind.common_steps, qh_read.specs.contract.Holding.held_by, qh_read.specs.contract.Progress.Progress}
use Rattle.qh_read.specs.{declared.cursor.Cursor.Cursor, declared.token.Token.TheVariants.Empty, steps.Building.shown, steps.Cursors.ahead, steps.Numbers.quiet}
use Rattle.qh_read.proofs.scanner.Scanner.points.Goals as goal

-- the builder's points, if there is no unfinished comment or word
pub returns-clause-held : goal.returns-clause-held
returns-clause-held c =
    let was = c.args.self.now in let form = was.form in let old : Progress = shown was.builder in
    let new : Progress = shown c.take_points-cursor.new.self in
    let cursor : Cursor = c.take_points-cursor.result in
    let quieted : was.comment ≡ false = grind (arith, common_steps) in
    let empty : c.args.token ≡ Empty = grind (arith, common_steps) in
    rw (c.rest.ensures, empty, quieted) (ap (λ (n : ℕ). held_by (quiet form new n Empty) (ahead cursor)) (omega arith)
    ∙ sym (c.take_points-cursor.ensures.held form 0) ∙ ap (λ (n : ℕ). held_by (quiet form old n Empty) c.args.bytes.now) (omega arith))
