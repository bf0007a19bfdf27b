use Rattle.qh_model.proofs.Common.{arith, ◌≡◌, ◌≤◌, ◌-◌, ◌*◌, ℕ, List, ap, length, length-append, append-nil, coordinates, Vector}
use Rattle.qh_read.proofs.CursorLaws.{shown-pushed}
use Rattle.qh_read.proofs.builder.Builder.take_points.Goals as goal

-- no coordinate of another point came in between, before or after
pub returns-clause-held : goal.returns-clause-held
returns-clause-held c form base =
    let pushed = c.push_points-cursor.ensures.pushed in let to = c.push_points-cursor.result in
    let left : ℕ = c.in-Zero-Coordinates.left in
    let old : List Vector = c.args.self.now.points.items in let new : List Vector = c.push_points-cursor.new.points.items in
    let more : c.len.result - c.len-before.result ≡ length pushed.more = omega (arith, ap length pushed.items, length-append old pushed.more) in
    let enough : 3 * length pushed.more ≤ left = omega arith in
    rw (c.in-Zero-Coordinates.is-1, c.in-Zero-Coordinates.is-0, append-nil (coordinates old), append-nil (coordinates new), more)
    (shown-pushed form c.in-Zero-Coordinates.trailing left old new c.args.from to base pushed enough)
