-- All facets that the apex sees are found.
use Rattle.qh_model.proofs.Common.{◌≡◌, ◌∙◌, ℕ, List, Bool, false, sym, subst, pos, ◌<ℤ◌, Vector}
use Rattle.{qh_pred.specs.contract.Planes.height, qh_surface.proofs.FoundFacets.finds_all}
use Rattle.qh_surface.specs.{contract.Walks.mark_at, contract.Walks.IsWalkFrom, steps.Planes.plane_at}
use Rattle.qh_surface.proofs.quickhull.walk.Walk.find.Goals as goal

pub returns-clause-visible : goal.returns-clause-visible
returns-clause-visible c = λ at o l e a z.
    let fs = c.args.mesh.now in let ps = c.args.planes.now in let f = c.args.start in
    let before = c.deref_mut.result.now in let after = c.walk.new.marks in let vs = c.walk.new.found.items in
    finds_all at fs ps o l f before after vs a z
    (subst (λ (ms : List Bool). (g : ℕ) → mark_at ms g ≡ false) (sym c.deref_mut.ensures.value) (λ g. c.in_ok-make_room.ensures.same g ∙ c.self.invariant g))
    (subst (λ (p : Vector). IsWalkFrom (λ g. pos 0 <ℤ height (plane_at ps g) p) fs before after f vs) (sym e) c.in-Ok.ensures)
