-- Each end so far is one of the ids: the previous end, or the current id.
use Rattle.std.proofs.{Common.◌<◌, Common.ℕ, Common.[], Common.◌∷◌, Common.length, lemmas.List.Elements.All-from_recursion}
use Rattle.qh_model.{specs.headline.Sets.Members, proofs.Members.All-In, proofs.Members.In-get_or}
use Rattle.qh_surface.proofs.starts.ends.ends_of.Goals as goal

pub loop-id-preserved : goal.loop-id-preserved
loop-id-preserved c =
    let ids = c.args.ids.now in let e = c.loop-id.invariant in
    let i : Members ids c.id-item.result = rw (c.id-item.is) (In-get_or ids c.loop-id.id-index _ c.loop-id-test.true) in (
      c.or-west.ensures ids e.0 i,
      c.or-east.ensures ids e.1 i,
      c.or-south.ensures ids e.2 i,
      c.or-north.ensures ids e.3 i,
      c.or-bottom.ensures ids e.4 i,
      c.or-top.ensures ids e.5 i,
    )

pub returns-clause-indices : goal.returns-clause-indices
returns-clause-indices c =
    let t = c.loop-id in let e = t.invariant in
    let inside = λ (i : ℕ). All-In (λ j. j < length c.args.pts.now) c.args.ids.now i c.requires.indices in
    All-from_recursion (λ j. j < length c.args.pts.now) (t.west.id ∷ t.east.id ∷ t.south.id ∷ t.north.id ∷ t.bottom.id ∷ t.top.id ∷ [])
    (inside _ e.0, (inside _ e.1, (inside _ e.2, (inside _ e.3, (inside _ e.4, (inside _ e.5, tt))))))
