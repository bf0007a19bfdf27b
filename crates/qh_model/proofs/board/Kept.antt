-- Each event keeps the invariant of the reachable states.
use Rattle.qh_model.proofs.Common.{◌≡◌, ℕ, ◌<◌, List, [], ◌∷◌, sym, refl, ◌∙◌, untouched, held, parked, used, published, Machine, Event, claim_got, claim_over}
use Rattle.qh_model.proofs.Common.{arrive_first, arrive_second, publish, leave, give_up, Can, after, run, CanRun}
use Rattle.qh_model.proofs.board.{Grown.Consistent, Grown.changes, Grown.ends, Grown.gets, Joined.joins}

module _ (B W : ℕ) (some : 0 < B) where
  pub keeps_good : (m : Machine) (e : Event) → Consistent B W m → Can B W m e → Consistent B W (after B W m e)
  keeps_good m (claim_got w) g can = gets B W some m g w can
  keeps_good m (claim_over w) g can = ends B W some m g w can.3
  keeps_good m (arrive_first w i) g can =
      changes B W some m g i parked (λ e. let f : held w ≡ untouched = sym can.1 ∙ e in cc)
      (λ e. let f : held w ≡ used = sym can.1 ∙ e in cc) (λ e. cc) (λ v e. cc) (λ e. cc) (λ e. absurd (can.2 e)) (λ e. absurd (cc)) (λ _. can.3)
  keeps_good m (arrive_second w i) g can = joins B W some m g w i can.0 can.1 can.2 can.3
  keeps_good m (publish w) g can =
      changes B W some m g 1 published (λ e. let f : held w ≡ untouched = sym can.1 ∙ e in cc)
      (λ e. let f : held w ≡ used = sym can.1 ∙ e in cc) (λ e. cc) (λ v e. cc) (λ e. cc) (λ _ e. cc) (λ _. refl) (λ e. absurd (cc))
  keeps_good m (leave w) g can = g
  keeps_good m (give_up w i) g can = g

  pub all_good : (m : Machine) (es : List Event) → Consistent B W m → CanRun B W m es → Consistent B W (run B W m es)
  all_good m [] g can = g
  all_good m (e ∷ es) g can = all_good (after B W m e) es (keeps_good m e g can.0) can.1
