-- States that events lead to.
use Rattle.std.proofs.Common.{◌≡◌, ℕ, ◌+◌, ◌-◌, ◌*◌, ◌<◌, ◌≤◌, List, [], ◌∷◌, ◌++◌, length, refl, subst, arith}
use Rattle.qh_model.specs.contract.BoardMachine.{Machine, start, Event, Can, after, run, CanRun, Reachable, settled, sum_to}
use Rattle.qh_model.specs.steps.Endings.{ended}
use Rattle.qh_model.proofs.board.Counts.{Counts, all_counts, counts_start, bounded, few_claims, counted}
use Rattle.qh_model.proofs.board.{Grown.Consistent, Grown.starts, Histories.Ended, Histories.run_ended, Kept.all_good}

module _ (B W : ℕ) where
  -- one event more, where it is possible
  pub run_more : (m : Machine) (es : List Event) (e : Event) → CanRun B W m es → Can B W (run B W m es) e
      → CanRun B W m (es ++ e ∷ []) × (run B W m (es ++ e ∷ []) ≡ after B W (run B W m es) e)
  run_more m [] e ok can = ((can, tt), refl)
  run_more m (x ∷ es) e ok can = let t = run_more (after B W m x) es e ok.1 can in ((ok.0, t.0), t.1)

  pub reach_good : (some : 0 < B) (m : Machine) → Reachable B W m → Consistent B W m
  reach_good some m r = subst (Consistent B W) r.2 (all_good B W some start r.0 (starts B W some) r.1)

  reach_counts : (some : 0 < B) (m : Machine) (r : Reachable B W m) → Counts B W some m (length r.0)
  reach_counts some m r =
      subst (λ (z : Machine). Counts B W some z (length r.0)) r.2 (subst (Counts B W some (run B W start r.0)) (omega arith)
      (all_counts B W some start 0 r.0 (starts B W some) (counts_start B W some) r.1))

  pub reach_claims : (some : 0 < B) (m : Machine) → Reachable B W m → m.claims ≤ B + W
  reach_claims some m r = few_claims B W some m (length r.0) (reach_counts some m r)

  pub reach_ended : (some : 0 < B) (m : Machine) → Reachable B W m → Ended B W some m
  reach_ended some m r = subst (Ended B W some) r.2 (run_ended B W some r.0 (starts B W some) r.1)

  -- the number of events so far
  pub reach_steps : (some : 0 < B) (m : Machine) (r : Reachable B W m)
      → length r.0 ≡ m.claims + sum_to (λ i. settled (m.node i)) (2 * B) + sum_to (λ w. ended (m.mark w)) W
  reach_steps some m r = counted B W some m (length r.0) (reach_counts some m r)

  pub run_bound : (some : 0 < B) (es : List Event) → CanRun B W start es → length es ≤ 3 * B + 2 * W - 1
  run_bound some es can = let g = all_good B W some start es (starts B W some) can in
      let c = all_counts B W some start 0 es (starts B W some) (counts_start B W some) can in
      let b = bounded B W some (run B W start es) (0 + length es) g c in omega arith
