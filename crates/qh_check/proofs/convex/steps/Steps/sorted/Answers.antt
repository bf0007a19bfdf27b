-- The sorted keys are those of the same steps.
use Rattle.qh_model.proofs.Common.{IsPermutation, List, map, subst, IsPermutation-map, Triple}
use Rattle.qh_check.{specs.steps.StepKeys.step_in, proofs.StepLists.ups_below, proofs.StepLists.downs_below}
use Rattle.qh_check.proofs.convex.steps.Steps.sorted.Goals as goal

pub returns-clause-steps : goal.returns-clause-steps
returns-clause-steps c = record {
  ups = subst (λ (ss : List Triple). IsPermutation ss (map step_in c.sort_unstable.new.self.items)) c.in_ok-steps.ensures.up
      (IsPermutation-map step_in _ _ c.sort_unstable.ensures.permutation);
  downs = subst (λ (ss : List Triple). IsPermutation ss (map step_in c.sort_unstable-2.new.self.items)) c.in_ok-steps.ensures.down
      (IsPermutation-map step_in _ _ c.sort_unstable-2.ensures.permutation);
}

pub returns-clause-up : goal.returns-clause-up
returns-clause-up c = λ n low. ups_below c.args.triangles.now _ _ (returns-clause-steps c) n low

pub returns-clause-down : goal.returns-clause-down
returns-clause-down c = λ n low. downs_below c.args.triangles.now _ _ (returns-clause-steps c) n low
