-- The facet that an orphan is above has an outside set.
use Rattle.{std.proofs.Common.◌<◌, std.proofs.Common.length, qh_model.proofs.Members.All-In}
use Rattle.qh_surface.proofs.quickhull.settling.settle_orphan.Goals as goal

pub is_furthest-requires-clause-place : goal.is_furthest-requires-clause-place
is_furthest-requires-clause-place c =
    All-In (λ f. f < length c.args.sets.now.sets) c.args.cone.now.made.now c.in-Some.below.facet c.requires.places c.in-Some.ensures.named

pub assign_in_front-requires-clause-place : goal.assign_in_front-requires-clause-place
assign_in_front-requires-clause-place c =
    All-In (λ f. f < length c.args.sets.now.sets) c.args.cone.now.made.now c.in-Some.below.facet c.requires.places c.in-Some.ensures.named

pub assign_second-requires-clause-place : goal.assign_second-requires-clause-place
assign_second-requires-clause-place c =
    All-In (λ f. f < length c.args.sets.now.sets) c.args.cone.now.made.now c.in-Some.below.facet c.requires.places c.in-Some.ensures.named
