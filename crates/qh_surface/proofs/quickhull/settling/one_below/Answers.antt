-- The results of the first facets, the ring and a test of all facets for a point.
use Rattle.{qh_model.proofs.Members.All-In, qh_model.proofs.Members.All-of, qh_model.specs.headline.Sets.In, qh_surface.proofs.runs.ConeRings.among_unseen}
use Rattle.std.proofs.{Common.◌<◌, Common.length, Common.take, lemmas.List.Elements.All-take}
use Rattle.qh_surface.proofs.quickhull.settling.one_below.Goals as goal

pub returns-in-Unseen-clause-none : goal.returns-in-Unseen-clause-none
returns-in-Unseen-clause-none c = among_unseen c.requires.ring c.in-Unseen.ensures

pub first_below-requires-2 : goal.first_below-requires-2
first_below-requires-2 c = All-take (λ f. f < length c.args.planes.now) 16 c.args.made.now c.requires.planes

pub returns-in-Some-clause-named : goal.returns-in-Some-clause-named
returns-in-Some-clause-named c =
    let made = c.args.made.now in let has = All-of (λ f. In f made) made (λ f i. i) in
    All-In (λ f. In f made) (take 16 made) c.in-Some.below.facet (All-take (λ f. In f made) 16 made has) c.in-Some.ensures.named
