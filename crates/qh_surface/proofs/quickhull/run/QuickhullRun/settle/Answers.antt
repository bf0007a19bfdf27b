-- The settled run is ready for the next round.
use Rattle.qh_model.proofs.Common.{◌<◌, ◌∙◌, ◌-◌, ap, sym, subst, List, [], length, replicate, get_or, arith, ℕ, length-append, All-weaker, place, Vector}
use Rattle.qh_surface.specs.steps.{Cones.HasNoCornerAbove, Planes.ArePlanes}
use Rattle.qh_surface.proofs.runs.{ConeRings.grown_corners, SetWrites.grown-set, SettledOrphans.same_settling, RenewedPlanes.roomy, FinishedRuns.next_round}
use Rattle.qh_surface.proofs.quickhull.run.QuickhullRun.settle.Goals as goal

pub take-requires-clause-below : goal.take-requires-clause-below
take-requires-clause-below c =
    subst (λ (pts : List Vector). HasNoCornerAbove pts c.args.self.now.mesh) (sym c.deref-2.ensures.value) (grown_corners c.requires.remade.grown)

pub returns-clause-under_way : goal.returns-clause-under_way
returns-clause-under_way c =
    let k = c.requires.remade in let self = c.args.self.now in let pts = self.points.items in let fs = self.mesh in
    let places = c.places.ensures in let room = c.in_ok-make_room.ensures in let old = self.sets.sets in
    let renewed = rw (c.deref.ensures.value) at c.renew.ensures.planes in
    let planes : ArePlanes (place pts) fs c.renew.new.planes.items = record {
      room = omega (arith, room.room, c.renew.ensures.len, places);
      right = λ f l p.
          (renewed f l (roomy pts fs self.planes.items c.make_room.new.planes.items c.args.made.now room.kept f (k.planes f l))).1 p;
    } in
    let sets = c.in_ok-make_room-2.ensures.sets in
    let more = ap (λ (xs : List (List ℕ)). length xs) sets ∙ length-append old (replicate (c.len.result - length old) []) in
    let settle = c.settle_orphans.ensures in
    let settled = rw (c.deref-4.ensures.value, c.deref-5.ensures.value) at settle.settled in
    next_round k planes (settled fs self.pending.items k.made_live planes (same_settling
    (λ f. ap (λ (xs : List (List ℕ)). get_or xs f []) sets ∙ grown-set old _ f) c.make_room-2.ensures.orphans k.settling))
    settle.none (settle.positions ∙ c.make_room-2.ensures.positions)
    (omega (arith, places, room.room, c.len.ensures, c.in_ok-make_room-2.ensures.places, settle.places))
    (c.enqueue.ensures.within (All-weaker (λ f. f < length old) (λ f. f < length c.settle_orphans.new.sets.sets)
    (λ f h. omega (arith, h, more, settle.places)) self.pending.items k.range))
    c.enqueue.ensures.kept c.in_ok-enqueue.ensures.made
