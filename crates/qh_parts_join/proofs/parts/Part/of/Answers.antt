-- A finished mesh of the sorted ids, and its corners.
use Rattle.qh_model.proofs.Common.{ℕ, ◌<◌, ◌⊎◌, inl, inr, List, All, length, sym, subst, AreIndices, IsFinished, surface_of, Surface, IsCorner, Vector, place}
use Rattle.qh_model.proofs.{Common.In, Common.IsLiveCorner, Members.All-In}
use Rattle.{qh_surface.specs.contract.NamedMeshes.named, qh_parts_join.proofs.OnceListed.finished_for, qh_parts_join.proofs.Runs.all_of_part}
use Rattle.qh_parts_join.proofs.parts.Part.of.Goals as goal

pub simplex_of-requires : goal.simplex_of-requires
simplex_of-requires c =
    all_of_part (λ i. i < length c.args.pts.now) c.args.listed.now c.args.shared.now c.requires
    (λ l i. (c.in_ok-ids.ensures.members l).0 ((rw c.deref.ensures.value at (c.are_in.ensures c.if-not-are_in.false)) l i))

pub each_once-requires : goal.each_once-requires
each_once-requires c = record {
  rising = rw c.deref-3.ensures.value c.in_ok-ids.ensures.rising;
  all = rw (c.deref-2.ensures.value, c.deref-3.ensures.value) (λ l i. c.in_ok-unshared.ensures.all l ((c.in_ok-ids.ensures.members l).0 i));
  unshared = rw (c.deref-2.ensures.value, c.deref-3.ensures.value) (λ l i. (c.in_ok-ids.ensures.members l).1 (c.in_ok-unshared.ensures.only l i));
  shared = rw c.deref-3.ensures.value (rw c.deref.ensures.value at (c.are_in.ensures c.if-not-are_in.false));
}

pub surface_along-requires-clause-indices : goal.surface_along-requires-clause-indices
surface_along-requires-clause-indices c =
    let same = rw c.deref-3.ensures.value at c.in_ok-order.ensures.same in
    all_of_part (λ i. i < length c.args.pts.now) c.args.listed.now c.in_ok-order.order.items c.requires
    (λ l i. (c.in_ok-ids.ensures.members l).0 ((same l).0 i))

pub surface_along-requires-clause-first : goal.surface_along-requires-clause-first
surface_along-requires-clause-first c =
    let same = rw c.deref-3.ensures.value at c.in_ok-order.ensures.same in
    let inside = rw c.deref.ensures.value at (c.are_in.ensures c.if-not-are_in.false) in
    c.in-Some.ensures c.in_ok-order.order.items (λ l i. (same l).1 (inside l i))

-- the corners of a finished mesh are indices if its ids are
corner_index : (pts : List Vector) (ids : List ℕ) (m : Surface) → IsFinished (place pts) ids m → AreIndices pts ids
    → (l : ℕ) → IsLiveCorner m l → l < length pts
corner_index pts ids m z ok l (f, live, k) = All-In (λ i. i < length pts) ids l ok (z.corners f live l k)

pub corner_marks-requires-clause-count : goal.corner_marks-requires-clause-count
corner_marks-requires-clause-count c =
    let pts = c.args.pts.now in let ids = c.in_ok-ids.ids.items in
    let ok = all_of_part (λ i. i < length pts) c.args.listed.now ids c.requires (λ l i. (c.in_ok-ids.ensures.members l).0 i) in
    let finished = finished_for (place c.args.pts.now) c.in_ok-order.order.items c.in_ok-ids.ids.items (surface_of (named c.in_ok-surface.surface))
    (c.in_ok-surface.ensures.finished c.in_ok-order.ensures.once) (rw c.deref-3.ensures.value at c.in_ok-order.ensures.same) in
    corner_index pts ids (surface_of (named c.in_ok-surface.surface)) finished ok

pub in_order-requires : goal.in_order-requires
in_order-requires c =
    subst (All (λ i. i < length c.args.pts.now)) (sym c.deref-7.ensures.value)
    (all_of_part (λ i. i < length c.args.pts.now) c.args.listed.now c.in_ok-own.own.items c.requires
    (λ l i. c.in_ok-unshared.ensures.only l ((rw c.deref-4.ensures.value at c.in_ok-own.ensures.only) l i)))

pub returns-clause-part : goal.returns-clause-part
returns-clause-part c = record {
  indices = λ l i. All-In (λ i. i < length c.args.pts.now) c.args.listed.now l c.requires ((c.in_ok-ids.ensures.members l).0 i);
  rising = c.in_ok-ids.ensures.rising;
  mesh = c.in_ok-surface.ensures.named;
  finished = finished;
  corners = corners;
  has_shared = rw c.deref.ensures.value at (c.are_in.ensures c.if-not-are_in.false);
  inside = λ l i. (c.in_ok-ids.ensures.members l).1 (c.in_ok-unshared.ensures.only l ((rw c.deref-4.ensures.value at c.in_ok-own.ensures.only) l i));
  places = rw c.deref-7.ensures.value at c.in_ok-places.ensures;
}
  where
    finished : IsFinished (place c.args.pts.now) c.in_ok-ids.ids.items (surface_of (named c.in_ok-surface.surface))
    finished = finished_for (place c.args.pts.now) c.in_ok-order.order.items c.in_ok-ids.ids.items (surface_of (named c.in_ok-surface.surface))
        (c.in_ok-surface.ensures.finished c.in_ok-order.ensures.once) (rw c.deref-3.ensures.value at c.in_ok-order.ensures.same)

    corners : let m = surface_of (named c.in_ok-surface.surface) in (f : ℕ) → In f m.live → (l : ℕ) → IsCorner m f l
        → In l c.in_ok-own.own.items ⊎ In l c.args.shared.now
    corners f live l k =
        let marked = c.in_ok-marks.ensures l (f, live, k) in
        elim (c.in_ok-unshared.ensures.all l ((c.in_ok-ids.ensures.members l).0 (finished.corners f live l k))) [
          | inl u ↦ inl ((rw (c.deref-4.ensures.value, c.deref-5.ensures.value) at c.in_ok-own.ensures.all) l u marked)
          | inr s ↦ inr s
        ]
