use Rattle.qh_model.proofs.Common.{arith, ◌≡◌, ◌++◌, ◌∙◌, [], ◌∷◌, ap, append_assoc, List, length-append, common_steps, Vector}
use Rattle.qh_read.{proofs.CursorLaws.points-parted, proofs.CursorLaws.points-more, proofs.CursorLaws.none-pushed, specs.steps.Cursors.ahead}
use Rattle.qh_read.proofs.cursor.Cursor.push_points.Goals as goal

pub loop-cursor-init : goal.loop-cursor-init
loop-cursor-init c = record { pushed = none-pushed c.args.points.now.items c.args.self; fewer = omega arith; room = omega arith; kept = omega arith }

-- one more point
pub loop-cursor-preserved : goal.loop-cursor-preserved
loop-cursor-preserved c =
    let from = c.args.self in let was = c.loop-cursor.invariant.pushed in let blanks = c.skip_blanks-cursor.ensures in
    let word = c.skip_blanks-cursor.result in let x = c.in-Some.x in let y = c.in-Some.y in let z = c.in-Some.z in
    let found = c.in-Some.ensures in let point : Vector = record { x = x.value; y = y.value; z = z.value } in
    let items : c.push_reserved.new.self.items ≡ c.loop-cursor.points.items ++ point ∷ [] = grind (arith, common_steps) in
    record {
      pushed = record {
        more = was.more ++ point ∷ [];
        items = items ∙ ap (λ (ps : List Vector). ps ++ point ∷ []) was.items ∙ append_assoc c.args.points.now.items was.more (point ∷ []);
        told = points-more from.line (ahead from) was.more word point c.in-Some.after
            (points-parted from.line (ahead from) was.more c.loop-cursor.cursor word was.told blanks) found x.in_limit y.in_limit z.in_limit;
        moved = record {
          same = found.moved.same ∙ blanks.moved.same ∙ was.moved.same;
          on = omega (arith, found.moved, blanks.moved, was.moved, length-append was.more (point ∷ []));
          lines = omega (arith, found.moved, blanks.moved, was.moved);
        };
      };
      fewer = omega arith;
      room = omega arith;
      kept = omega arith;
    }
