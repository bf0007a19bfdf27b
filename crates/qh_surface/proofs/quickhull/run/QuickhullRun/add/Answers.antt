-- A round: the walk, the replacement, and the orphans to settle.
use Rattle.{qh_model.proofs.Common.sym, qh_model.proofs.Common.subst, qh_model.proofs.Common.place, qh_surface.specs.steps.Cones.IsFan}
use Rattle.qh_surface.proofs.runs.{ConeRings.cone_fan, PickedApexes.apex_outside, Rounds.remade, Rounds.read_point}
use Rattle.qh_surface.proofs.quickhull.run.QuickhullRun.add.Goals as goal

pub find-requires-clause-live : goal.find-requires-clause-live
find-requires-clause-live c = (apex_outside c.requires).0

pub find-requires-clause-sees : goal.find-requires-clause-sees
find-requires-clause-sees c =
    let pts = c.args.self.now.points.items in let r = c.requires in let above = apex_outside r in
    let point = read_point pts c.args.apex c.index-point.result.now r.apex (rw c.index.ensures at c.index-point.ensures) in
    rw (c.deref.ensures.value, point, r.before.planes.right c.args.facet above.0 (place pts c.args.apex)) above.1

pub settle-requires-clause-remade : goal.settle-requires-clause-remade
settle-requires-clause-remade c =
    let pts = c.args.self.now.points.items in let k = c.requires in let z = k.before.grown.sound in let same = c.make_ready.ensures in
    let point = read_point pts c.args.apex c.index-point.result.now k.apex (rw c.index.ensures at c.index-point.ensures) in
    let walk = c.visible-2.ensures in let at = c.deref-2.ensures.value in let e = c.in_ok-made.ensures in
    let seen = c.in_ok-find.ensures.visible (place pts) _ c.args.apex (sym point) (rw (c.deref.ensures.value) k.before.planes) z in
    rw (same.planes, same.pending, c.deref-3.ensures.value) (remade k (record {
      visible = seen;
      replaced = rw walk at e.replaced;
      rewired = (rw (walk, at) at e.rewired) _ z seen;
      sound = λ o h. (rw (walk, at) at e.sound) o h seen;
      closed = (rw (walk, at) at e.closed) _ _ _ _ z seen;
    }) (rw (c.visible.ensures, same.sets) at c.release.ensures.released)
    (rw same.sets at c.release.ensures.positions) (rw same.sets at c.release.ensures.places))

pub settle-requires-clause-fan : goal.settle-requires-clause-fan
settle-requires-clause-fan c many = subst (IsFan c.replace.new.self) (sym c.deref-3.ensures.value) (cone_fan c.in_ok-made.ensures.replaced)
