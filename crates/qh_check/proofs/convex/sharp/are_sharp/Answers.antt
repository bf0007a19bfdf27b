-- The result of each test.
use Rattle.std.proofs.Common.{◌<◌, length, subst}
use Rattle.{qh_model.proofs.Members.All-In, qh_model.proofs.Members.All-of, qh_check.specs.steps.CornerMarks.AreHidden, qh_check.specs.steps.StepKeys.EdgesRise}
use Rattle.qh_check.proofs.convex.sharp.are_sharp.Goals as goal

pub are_sharp_pairs-requires-clause-up : goal.are_sharp_pairs-requires-clause-up
are_sharp_pairs-requires-clause-up c = rw c.deref-else-not-edges_rise.ensures.value (c.in_ok-steps.ensures.up _ c.requires.triangles)

pub are_sharp_pairs-requires-clause-down : goal.are_sharp_pairs-requires-clause-down
are_sharp_pairs-requires-clause-down c = rw c.deref-else-not-edges_rise-2.ensures.value (c.in_ok-steps.ensures.down _ c.requires.triangles)

pub invariant_of-surroundings : goal.invariant_of-surroundings
invariant_of-surroundings c = record {
  few = c.requires.few;
  ups = rw c.deref-2.ensures.value (c.in_ok-steps.ensures.up _ c.requires.triangles);
  downs = rw c.deref-3.ensures.value (c.in_ok-steps.ensures.down _ c.requires.triangles);
}

pub has_under-requires : goal.has_under-requires
has_under-requires c =
    let hidden : AreHidden c.args.triangles.now c.args.ids.now c.in-Some-2.hidden.items = rw c.in-Some-2.is at c.in_ok-hidden.ensures in
    rw c.deref-4.ensures.value (All-of (λ i. i < length c.args.pts.now) c.in-Some-2.hidden.items (λ l m.
    All-In (λ i. i < length c.args.pts.now) c.args.ids.now l c.requires.indices (hidden.only l m)))

pub returns : goal.returns
returns c = λ t. record {
  z = c.guess-ray.result.from;
  d = c.guess-ray.result.through;
  met = c.meets_once.ensures c.if-not-meets_once.false;
  hidden = c.in-Some-2.hidden.items;
  corners = rw c.in-Some-2.is at c.in_ok-hidden.ensures;
  up = c.in_ok-steps.steps.up.items;
  down = c.in_ok-steps.steps.down.items;
  steps = c.in_ok-steps.ensures.steps;
  rise = subst EdgesRise c.deref.ensures.value (c.edges_rise.ensures c.if-not-edges_rise.false);
  pairs = rw (c.deref-else-not-edges_rise.ensures.value, c.deref-else-not-edges_rise-2.ensures.value) at
      (c.are_sharp_pairs.ensures c.if-not-are_sharp_pairs.false);
  under = rw (c.deref-2.ensures.value, c.deref-4.ensures.value) at (c.in_ok-has_under.ensures t);
}
