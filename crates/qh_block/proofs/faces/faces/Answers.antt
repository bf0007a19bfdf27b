-- The faces are gathered facet by facet.
use Rattle.{qh_surface.proofs.NamedFacets.names, qh_mesh.specs.contract.Names.name_in}
use Rattle.qh_surface.specs.contract.{Walks.mark_at, NamedMeshes.named}
use Rattle.qh_block.proofs.finished.Gathering.{gathering_starts, next_within, gathering_permuted, gathering_goes, gathering_ends}
use Rattle.qh_model.proofs.Common.{◌≡◌, ◌∙◌, ℕ, List, Bool, false, arith, ap, length, sym, subst, length-map, named_facet}
use Rattle.qh_block.proofs.faces.faces.Goals as goal

pub loop-f-init : goal.loop-f-init
loop-f-init c =
    let surface = c.args.surface.now in let items = c.as_mut_slice-marks.ensures.value in
    let same : length (named surface) ≡ length surface.mesh = length-map surface.mesh (named_facet (name_in surface.ids.items)) in
    let long : length c.as_mut_slice-marks.result.now ≡ length surface.mesh =
    ap (λ (xs : List Bool). length xs) items ∙ c.in_ok-places.ensures.len ∙ c.places.ensures in
    rw (c.into_iter-f-iterator.ensures.into_iter_gives ∙ c.live-f-items.ensures ∙ sym (names surface).live, c.none-faces.ensures)
    (gathering_starts c.args.pts.now (named surface) c.as_mut_slice-marks.result.now
    (subst (λ (xs : List Bool). (f : ℕ) → mark_at xs f ≡ false) (sym items) c.in_ok-places.ensures.none) (omega (arith, same, long)))

pub bounds-marks-index : goal.bounds-marks-index
bounds-marks-index c = rw c.index.ensures (next_within _ _ _ _ _ _ _ c.loop-f.invariant c.in-Some.ensures.steps)

pub loop-f-preserved-in_ok-push : goal.loop-f-preserved-in_ok-push
loop-f-preserved-in_ok-push c =
    let new = c.in_ok-new_face.ensures in
    gathering_permuted _ _ _ _ _ _ c.in_ok-push.ensures (gathering_goes _ _ _ _ _ _ _ c.loop-f.invariant c.in-Some.ensures.steps
    (rw c.index.ensures at c.if-not-marks-index.true) _ _ c.new_face.auto.marks new.kept new.own new.face)

pub returns : goal.returns
returns c = gathering_ends _ _ _ _ _ c.loop-f.invariant c.in-None.ensures.steps.0
