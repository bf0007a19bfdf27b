-- The neighbour is the one across the side.
use Rattle.qh_model.proofs.Common.{◌≡◌, ◌∙◌, ap, sym, false, Bool, refl, not-true, IsTrue, not, surface_of}
use Rattle.qh_mesh.specs.contract.Edges.{facet_of, nth_side}
use Rattle.{qh_mesh.proofs.Rewiring.over-twin, qh_surface.specs.contract.Walks.mark_at}
use Rattle.qh_parts.proofs.seam.marked.Marked.goes_over.Goals as goal

pub returns : goal.returns
returns c =
    let turned : (b : Bool) → b ≡ false → IsTrue (not b) = λ b e. rw e refl in
    (λ g. ap (mark_at c.args.self.stay.now) (sym same) ∙ not-true _ g, λ e. turned _ (ap (mark_at c.args.self.stay.now) same ∙ e))
  where
    same : c.index.result ≡ (surface_of c.args.self.surface.now.mesh).over c.args.f (nth_side c.args.side)
    same =
        c.index.ensures ∙ c.facet_of-next.ensures ∙ ap facet_of c.across.ensures.twin
        ∙ sym (over-twin c.args.self.surface.now.mesh c.args.f (nth_side c.args.side))
