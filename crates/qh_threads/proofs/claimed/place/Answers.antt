-- One more value in its slot.
use Rattle.std.proofs.{Common.subst, Common.All, Common.length, lemmas.List.Elements.All-tail}
use Rattle.std.specs.Vec.Iter.{into_iter_items}
use Rattle.qh_threads.proofs.Placing.{answer_placed}
use Rattle.qh_threads.specs.steps.Answers.{IsAnswer}
use Rattle.qh_threads.proofs.claimed.place.Goals as goal

pub loop-answer-preserved : goal.loop-answer-preserved
loop-answer-preserved g c =
    let inv = c.loop-answer.invariant in let P = IsAnswer g.F.Fn c.args.f.now (length c.args.slots.items) in
    record {
      len = inv.len;
      placed = inv.placed;
      left = All-tail P c.in-Some.answer (into_iter_items c.next.new.self) (subst (All P) c.in-Some.ensures.steps.0 inv.left);
    }

pub loop-answer-preserved-then-index-len : goal.loop-answer-preserved-then-index-len
loop-answer-preserved-then-index-len g c =
    let inv = c.loop-answer.invariant in let P = IsAnswer g.F.Fn c.args.f.now (length c.args.slots.items) in
    let r = answer_placed g.F.Fn c.args.f.now (length c.args.slots.items) c.loop-answer.slots.items c.in-Some.answer (into_iter_items c.next.new.self)
    inv.len inv.placed (subst (All P) c.in-Some.ensures.steps.0 inv.left) in
    record { len = r.0; placed = r.1; left = r.2 }

pub loop-answer-preserved-then-index-len-2 : goal.loop-answer-preserved-then-index-len-2
loop-answer-preserved-then-index-len-2 g c =
    let inv = c.loop-answer.invariant in let P = IsAnswer g.F.Fn c.args.f.now (length c.args.slots.items) in
    let r = answer_placed g.F.Fn c.args.f.now (length c.args.slots.items) c.loop-answer.slots.items c.in-Some.answer (into_iter_items c.next.new.self)
    inv.len inv.placed (subst (All P) c.in-Some.ensures.steps.0 inv.left) in
    record { len = r.0; placed = r.1; left = r.2 }
