-- An id that is added to the cycle is one of the ids.
use Rattle.qh_model.proofs.{Common.In, Common.[], Common.subst, Common.sym, Common.⊎_elim, Common.◌∷◌, hulls.ExtremeParts.part_indices, lists.Joined.of_append}
use Rattle.qh_polygon.proofs.inner_places.far_cycle.Goals.{else-ne, then-ne+in_ok-push}
use Rattle.qh_polygon.proofs.inner_places.far_cycle.Goals as goal

pub loop-direction-preserved : goal.loop-direction-preserved
loop-direction-preserved c i m = elim c.if-ne.branch [
  | then-ne+in_ok-push w ↦ ⊎_elim (λ k. c.loop-direction.invariant i k)
      (λ k. ⊎_elim (λ e. subst (λ x. In x c.args.ids.now) (sym e) c.furthest-far.ensures) (λ f. absurd f) k)
      (of_append c.loop-direction.cycle.items (c.furthest-far.result ∷ []) i (rw (w.cycle-is, w.in_ok-push.ensures.items) at m))
  | else-ne w ↦ c.loop-direction.invariant i (rw w.cycle-is at m)
]

pub returns-clause-indices : goal.returns-clause-indices
returns-clause-indices c = part_indices c.args.pts.now c.args.ids.now c.loop-direction.cycle.items c.requires.indices c.loop-direction.invariant
