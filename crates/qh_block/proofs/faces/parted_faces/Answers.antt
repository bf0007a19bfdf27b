-- The faces are gathered facet by facet, into the list that the mark of the facet selects.
use Rattle.qh_model.proofs.Common.{◌≡◌, ◌∙◌, ℕ, List, Bool, false, arith, ap, length, sym, subst, length-map, named_facet}
use Rattle.{qh_mesh.specs.contract.Names.name_in, qh_surface.specs.contract.NamedMeshes.named}
use Rattle.{qh_surface.specs.contract.Walks.mark_at, qh_surface.proofs.NamedFacets.names, qh_block.proofs.finished.Gathering.next_within}
use Rattle.qh_block.proofs.finished.Parting.{parting_starts, parted_place, to_own, to_others, parted_each, parted_close}
use Rattle.qh_block.proofs.faces.parted_faces.Goals as goal

pub loop-f-init : goal.loop-f-init
loop-f-init c =
    let surface = c.args.surface.now in let items = c.as_mut_slice-marks.ensures.value in
    let same : length (named surface) ≡ length surface.mesh = length-map surface.mesh (named_facet (name_in surface.ids.items)) in
    let long : length c.as_mut_slice-marks.result.now ≡ length surface.mesh =
    ap (λ (xs : List Bool). length xs) items ∙ c.in_ok-places.ensures.len ∙ c.places.ensures in
    rw (c.into_iter-f-iterator.ensures.into_iter_gives ∙ c.live-f-items.ensures ∙ sym (names surface).live, c.none-own.ensures, c.new-others.ensures.items)
    (parting_starts c.args.pts.now (named surface) c.args.chosen.now c.as_mut_slice-marks.result.now
    (subst (λ (xs : List Bool). (f : ℕ) → mark_at xs f ≡ false) (sym items) c.in_ok-places.ensures.none) (omega (arith, same, long)))

pub bounds-marks-index : goal.bounds-marks-index
bounds-marks-index c = rw c.index.ensures (next_within _ _ _ _ _ _ _ c.loop-f.invariant.gathering c.in-Some.ensures.steps)

pub bounds-chosen-index : goal.bounds-chosen-index
bounds-chosen-index c =
    let surface = c.args.surface.now in
    let same : length (named surface) ≡ length surface.mesh = length-map surface.mesh (named_facet (name_in surface.ids.items)) in
    let within = parted_place _ _ _ _ _ _ _ _ _ c.loop-f.invariant c.in-Some.ensures.steps in
    rw c.index-then-not-marks-index.ensures (omega (arith, same, within, c.requires.marks))

pub loop-f-preserved-in-Continue-branch-3 : goal.loop-f-preserved-in-Continue-branch-3
loop-f-preserved-in-Continue-branch-3 c =
    let new = c.in_ok-face.ensures in
    to_own _ _ _ _ _ _ _ _ _ c.loop-f.invariant c.in-Some.ensures.steps
    (rw c.index.ensures at c.if-not-marks-index.true) _ _ c.new_face.auto.marks new.kept new.own new.face
    (rw c.index-then-not-marks-index.ensures at c.if-chosen-index.true) _ c.in_ok-push.ensures

pub loop-f-preserved-in-Continue-branch-4 : goal.loop-f-preserved-in-Continue-branch-4
loop-f-preserved-in-Continue-branch-4 c =
    let new = c.in_ok-face.ensures in
    rw c.in_ok-push-2.ensures.items (to_others _ _ _ _ _ _ _ _ _ c.loop-f.invariant c.in-Some.ensures.steps
    (rw c.index.ensures at c.if-not-marks-index.true) _ _ c.new_face.auto.marks new.kept new.own new.face
    (rw c.index-then-not-marks-index.ensures at c.if-chosen-index.false))

pub returns-clause-each : goal.returns-clause-each
returns-clause-each c = λ ids s z. parted_each _ _ _ _ _ _ _ c.loop-f.invariant c.in-None.ensures.steps.0 ids s z

pub returns-clause-closed : goal.returns-clause-closed
returns-clause-closed c = λ ids s z. parted_close _ _ _ _ _ _ _ c.loop-f.invariant c.in-None.ensures.steps.0 ids s z
