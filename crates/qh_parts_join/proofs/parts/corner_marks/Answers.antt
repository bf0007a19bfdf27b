-- The corners of one more facet are marked.
use Rattle.qh_model.proofs.{Common.◌<◌, Common.◌∷◌, Common.[], Common.◌∙◌, Common.sym, Common.arith, Common.surface_of}
use Rattle.qh_model.proofs.{Members.All-of, surfaces.Stored.live_is_marked}
use Rattle.qh_surface.{specs.contract.NamedMeshes.named, proofs.NamedFacets.names, proofs.NamedFacets.live_before}
use Rattle.qh_parts_join.proofs.{Asked.next_live, Asked.asking_ends, MarkedCorners.none_marked, MarkedCorners.one_more, MarkedCorners.corner}
use Rattle.qh_parts_join.proofs.parts.corner_marks.Goals as goal

pub loop-f-init : goal.loop-f-init
loop-f-init c =
    none_marked (surface_of (named c.args.surface.now)) _ _ _ (omega (arith, c.in_ok-marks.ensures.len, c.in_ok-marks.marks.ok.0))
    (c.into_iter-f-iterator.ensures.into_iter_gives ∙ c.live-f-items.ensures ∙ sym (names c.args.surface.now).live)

pub corners-requires-clause-live : goal.corners-requires-clause-live
corners-requires-clause-live c =
    live_before c.args.surface.now c.in-Some.f ((live_is_marked (named c.args.surface.now) c.in-Some.f).0
    (next_live _ _ _ _ _ c.loop-f.invariant.set c.in-Some.ensures.steps))

pub set_marks-requires : goal.set_marks-requires
set_marks-requires c =
    let m = surface_of (named c.args.surface.now) in let f = c.in-Some.f in
    let live = next_live _ _ _ _ _ c.loop-f.invariant.set c.in-Some.ensures.steps in
    rw (c.corners.ensures, c.loop-f.invariant.len)
    (All-of (λ i. i < c.args.count) (m.i f ∷ m.j f ∷ m.k f ∷ []) (λ l i. c.requires.count l (f, live, corner m f l i)))

pub loop-f-preserved : goal.loop-f-preserved
loop-f-preserved c =
    one_more (surface_of (named c.args.surface.now)) _ _ _ c.in-Some.f _ _ c.loop-f.invariant c.in-Some.ensures.steps
    c.set_marks.ensures.len (rw c.corners.ensures at c.set_marks.ensures.set) c.set_marks.ensures.kept

pub returns : goal.returns
returns c = λ l (f, i, k). asking_ends _ _ _ c.loop-f.invariant.set c.in-None.ensures.steps.0 f i l k
