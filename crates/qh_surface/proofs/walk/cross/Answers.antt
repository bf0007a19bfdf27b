-- The neighbour joins the walk if it passes and has no mark.
use Rattle.qh_model.proofs.Common.{◌≡◌, ◌∙◌, ◌<◌, ℕ, ap, sym, subst, arith, set, length, false, ◌||◌, ◌↔◌, IsTrue, surface_of}
use Rattle.qh_mesh.{specs.contract.Edges.facet_of, specs.contract.Edges.nth_side, proofs.Rewiring.over-twin}
use Rattle.qh_surface.{specs.contract.Walks.mark_at, specs.contract.Walks.IsMet, proofs.LiveFacets.live_below}
use Rattle.qh_surface.proofs.{WalkSteps.joined, WalkSteps.joined_further, WalkSteps.met, walk.cross.Goals.After-push_reserved, walk.cross.Given.Over}
use Rattle.qh_surface.proofs.walk.cross.Goals as goal

-- the neighbour is marked if it passes, whether it is entered or not
module _ (g : Over) (c : After-push_reserved g) where
  abbrev P : ℕ → Type 0
  P = g.T.FacetPredicate.Passes c.args.test.now c.args.mesh.now

  abbrev place : ℕ
  place = c.index-place.result

  at : place ≡ facet_of c.across-twin.result
  at = c.index-place.ensures ∙ c.facet_of-neighbour.ensures

  over : (surface_of c.args.mesh.now).over c.args.side.facet (nth_side c.args.side.number) ≡ facet_of c.across-twin.result
  over = over-twin c.args.mesh.now c.args.side.facet (nth_side c.args.side.number) ∙ ap facet_of (sym c.across-twin.ensures.twin)

  within : place < length c.args.marks.now
  within = omega (arith, live_below c.args.mesh.now (facet_of c.across-twin.result) c.across-twin.ensures.live, c.requires.marks, at)

  crossed : IsMet P (set c.args.marks.now place (mark_at c.args.marks.now place || c.enters-is_entered.result))
      ((surface_of c.args.mesh.now).over c.args.side.facet (nth_side c.args.side.number))
  crossed = subst (IsMet P (set c.args.marks.now place (mark_at c.args.marks.now place || c.enters-is_entered.result)))
      (at ∙ sym over) (met (P place) c.args.marks.now place c.enters-is_entered.result within
      (subst (λ f. IsTrue c.enters-is_entered.result ↔ ((mark_at c.args.marks.now place ≡ false) × P f)) (sym at)
      (rw c.at.ensures at c.enters-is_entered.ensures)))

pub returns-then-not-is_entered-clause-crossed : goal.returns-then-not-is_entered-clause-crossed
returns-then-not-is_entered-clause-crossed g c = crossed g c.before.before.before

pub returns-else-not-is_entered-clause-crossed : goal.returns-else-not-is_entered-clause-crossed
returns-else-not-is_entered-clause-crossed g c = crossed g c.before

pub returns-else-not-is_entered-clause-walk : goal.returns-else-not-is_entered-clause-walk
returns-else-not-is_entered-clause-walk g c =
    let is = c.if-not-is_entered.false in let e = (rw c.at.ensures at c.enters-is_entered.ensures.0) is in
    rw (e.0, is, c.push_reserved.ensures.items, c.index-place.ensures, c.facet_of-neighbour.ensures)
    (joined (g.T.FacetPredicate.Passes c.args.test.now c.args.mesh.now) c.args.mesh.now c.args.marks.now c.args.found.now.items
    (facet_of c.across-twin.result) c.requires.walk c.requires.marks c.across-twin.ensures.live
    (rw (c.index-place.ensures, c.facet_of-neighbour.ensures) at e.0) e.1)

pub returns-else-not-is_entered-clause-further : goal.returns-else-not-is_entered-clause-further
returns-else-not-is_entered-clause-further g c =
    let is = c.if-not-is_entered.false in let e = (rw c.at.ensures at c.enters-is_entered.ensures.0) is in
    rw (e.0, is, c.push_reserved.ensures.items, c.index-place.ensures, c.facet_of-neighbour.ensures)
    (joined_further (g.T.FacetPredicate.Passes c.args.test.now c.args.mesh.now) c.args.mesh.now c.args.marks.now c.args.found.now.items
    (facet_of c.across-twin.result) c.requires.walk c.requires.marks c.across-twin.ensures.live
    (rw (c.index-place.ensures, c.facet_of-neighbour.ensures) at e.0) e.1)
