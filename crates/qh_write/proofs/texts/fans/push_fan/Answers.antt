-- One triangle after the other; a short face is its own fan.
use Rattle.qh_model.proofs.Common.{◌∙◌, ◌++◌, All, ap, subst, sym, All-head, All-tail, flat_map}
use Rattle.qh_model.proofs.{lists.Joined.join_next, polygons.Fans.triangles_all}
use Rattle.qh_write.specs.steps.Numberings.{AreNumbered, HasNumber, face_by_numbers}
use Rattle.qh_write.proofs.texts.fans.push_fan.Goals as goal

pub loop-triangle-init : goal.loop-triangle-init
loop-triangle-init c =
    let items = c.into_iter-triangle-iterator.ensures.into_iter_gives ∙ c.fan-triangle-items.ensures in record {
      grown = ap (λ ts. c.args.text.now.items ++ flat_map (face_by_numbers c.args.numbers.now) ts) items;
      numbered = subst (All (AreNumbered c.args.numbers.now)) (sym items) (triangles_all (HasNumber c.args.numbers.now) c.args.face.now c.requires);
    }

pub push_face-requires-in-loop-triangle : goal.push_face-requires-in-loop-triangle
push_face-requires-in-loop-triangle c =
    All-head (AreNumbered c.args.numbers.now) _ _ (subst (All (AreNumbered c.args.numbers.now)) c.in-Some.ensures.steps c.loop-triangle.invariant.numbered)

pub loop-triangle-preserved : goal.loop-triangle-preserved
loop-triangle-preserved c = record {
  grown = join_next (face_by_numbers c.args.numbers.now) c.loop-triangle.text.items _ _ c.in-Some.triangle _ _
      c.in-Some.ensures.steps c.in_ok-push_face.ensures c.loop-triangle.invariant.grown;
  numbered = All-tail (AreNumbered c.args.numbers.now) _ _
      (subst (All (AreNumbered c.args.numbers.now)) c.in-Some.ensures.steps c.loop-triangle.invariant.numbered);
}
