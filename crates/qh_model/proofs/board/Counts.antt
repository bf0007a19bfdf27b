-- Each event is counted once: as a claim, a delivered node or a mark.
use Rattle.std.proofs.Common.{◌≡◌, ℕ, ◌+◌, ◌-◌, ◌*◌, ◌<◌, ◌≤◌, Bool, true, false, List, [], ◌∷◌, length, sym, ap, ◌∙◌, subst, arith}
use Rattle.qh_model.specs.contract.BoardMachine.{Place, untouched, held, parked, used, published, Mark, none, left, gave_up, Machine, start, put, parent}
use Rattle.qh_model.specs.contract.BoardMachine.{sibling, Event, claim_got, claim_over, arrive_first, arrive_second, publish, leave, give_up, Can, after, run}
use Rattle.qh_model.specs.{contract.BoardMachine.CanRun, contract.BoardMachine.settled, contract.BoardMachine.sum_to, steps.Endings.ended}
use Rattle.qh_model.proofs.board.{Grown.Consistent, Grown.ranged, Joined.r_i, Joined.n_i, Joined.fresh, Kept.keeps_good}
use Rattle.qh_model.proofs.board.Updates.{put_here, put_else, sum_put, sum_most, sum_zero, sum_less}

pub one_if : Bool → ℕ
one_if true = 1
one_if false = 0

pub settled_small : (x : Place) → settled x ≤ 1
settled_small = grind arith

pub ended_small : (x : Mark) → ended x ≤ 1
ended_small = grind arith

pub one_if_small : (x : Bool) → one_if x ≤ 1
unfolding one_if
one_if_small = grind arith

module _ (B W : ℕ) (some : 0 < B) where
  pub settled_sum : Machine → ℕ
  settled_sum m = sum_to (λ i. settled (m.node i)) (2 * B)

  pub over_sum : Machine → ℕ
  over_sum m = sum_to (λ w. one_if (m.over w)) W

  pub mark_sum : Machine → ℕ
  mark_sum m = sum_to (λ w. ended (m.mark w)) W

  pub record Counts (m : Machine) (n : ℕ) : Type 0 where
    pub steps : n ≡ m.claims + settled_sum m + mark_sum m
    pub drawn : m.claims ≤ B + over_sum m
    pub early : m.claims < B → over_sum m ≡ 0

  node_put : (f : ℕ → Place) (i : ℕ) (x : Place) → i < 2 * B
      → sum_to (λ j. settled (put f i x j)) (2 * B) + settled (f i) ≡ sum_to (λ j. settled (f j)) (2 * B) + settled x
  node_put f i x h = let s = sum_put (λ j. settled (f j)) (λ j. settled (put f i x j)) (2 * B) i h (λ j l ne. ap settled (sym (put_else f i x j ne))) in
      let e : settled (put f i x i) ≡ settled x = ap settled (put_here f i x) in omega arith

  over_put : (m : Machine) (w : ℕ) → w < W → m.over w ≡ false → sum_to (λ v. one_if (put m.over w true v)) W ≡ sum_to (λ v. one_if (m.over v)) W + 1
  unfolding one_if
  over_put m w h e = let s =
      sum_put (λ v. one_if (m.over v)) (λ v. one_if (put m.over w true v)) W w h (λ j l ne. ap one_if (sym (put_else m.over w true j ne))) in
      let a : one_if (put m.over w true w) ≡ 1 = ap one_if (put_here m.over w true) in let b : one_if (m.over w) ≡ 0 = ap one_if e in omega arith

  mark_put : (m : Machine) (w : ℕ) (x : Mark) → w < W → m.mark w ≡ none → sum_to (λ v. ended (put m.mark w x v)) W ≡ sum_to (λ v. ended (m.mark v)) W + ended x
  mark_put m w x h e = let s = sum_put (λ v. ended (m.mark v)) (λ v. ended (put m.mark w x v)) W w h (λ j l ne. ap ended (sym (put_else m.mark w x j ne))) in
      let a : ended (put m.mark w x w) ≡ ended x = ap ended (put_here m.mark w x) in let b : ended (m.mark w) ≡ 0 = ap ended e in omega arith

  pub counts_start : Counts start 0
  unfolding settled_sum over_sum mark_sum one_if
  counts_start = grind (arith, sum_zero, one_if)

  counts : (m : Machine) (n : ℕ) (e : Event) → Consistent B W m → Counts m n → Can B W m e → Counts (after B W m e) (n + 1)
  unfolding settled_sum over_sum mark_sum one_if
  counts m n (claim_got w) g c can = let i : ℕ = B + m.claims in let room : m.claims < B = can.3 in let s = node_put m.node i (held w) (omega arith) in
      let z : settled (m.node i) ≡ 0 = ap settled (g.late i (omega arith)) in let a = c.steps in let b = c.drawn in
      record { steps = omega arith; drawn = omega arith; early = λ _. c.early room }
  counts m n (claim_over w) g c can = let s = over_put m w can.0.0 can.2 in let full : B ≤ m.claims = can.3 in let a = c.steps in let b = c.drawn in
      record { steps = omega arith; drawn = omega arith; early = λ l. absurd (omega arith) }
  counts m n (arrive_first w i) g c can = let r =
      ranged B W some m g i (λ e. let f : held w ≡ untouched = sym can.1 ∙ e in cc) in
      let s = node_put m.node i parked r.1 in
      let z : settled (m.node i) ≡ 0 = ap settled can.1 in let a = c.steps in record { steps = omega arith; drawn = c.drawn; early = c.early }
  counts m n (arrive_second w i) g c can =
      let r = r_i B W some m g w i can.0 can.1 can.2 can.3 in
      let near_ = n_i B W some m g w i can.0 can.1 can.2 can.3 in
      let f = fresh B W some m g w i can.0 can.1 can.2 can.3 in
      let h = near_.above in let hs = near_.above_sibling in
      let rs = ranged B W some m g (sibling i) (λ e. let q : parked ≡ untouched = sym can.3 ∙ e in cc) in
      let f1 : ℕ → Place = put m.node i used in let f2 : ℕ → Place = put f1 (sibling i) used in
      let a1 = node_put m.node i used r.1 in let a2 = node_put f1 (sibling i) used rs.1 in let a3 = node_put f2 (parent i) (held w) (omega arith) in
      let z1 : settled (m.node i) ≡ 0 = ap settled can.1 in
      let z2 : settled (f1 (sibling i)) ≡ 1 = ap settled (put_else m.node i used (sibling i) near_.apart ∙ can.3) in
      let z3 : settled (f2 (parent i)) ≡ 0 =
      ap settled (put_else f1 (sibling i) used (parent i) (λ e. omega arith)
      ∙ (put_else m.node i used (parent i) (λ e. omega arith) ∙ f)) in
      let a = c.steps in record { steps = omega arith; drawn = c.drawn; early = c.early }
  counts m n (publish w) g c can = let s = node_put m.node 1 published (omega arith) in
      let z : settled (m.node 1) ≡ 0 = ap settled can.1 in let a = c.steps in
      record { steps = omega arith; drawn = c.drawn; early = c.early }
  counts m n (leave w) g c can = let s = mark_put m w left can.0.0 can.0.1 in let a = c.steps in
      record { steps = omega arith; drawn = c.drawn; early = c.early }
  counts m n (give_up w i) g c can = let s = mark_put m w gave_up can.0.0 can.0.1 in let a = c.steps in
      record { steps = omega arith; drawn = c.drawn; early = c.early }

  pub all_counts : (m : Machine) (n : ℕ) (es : List Event) → Consistent B W m → Counts m n → CanRun B W m es → Counts (run B W m es) (n + length es)
  all_counts m n [] g c can = subst (Counts m) (omega arith) c
  all_counts m n (e ∷ es) g c can =
      subst (Counts (run B W (after B W m e) es)) (omega arith)
      (all_counts (after B W m e) (n + 1) es (keeps_good B W some m e g can.0) (counts m n e g c can.0) can.1)

  pub bounded : (m : Machine) (n : ℕ) → Consistent B W m → Counts m n → n ≤ 3 * B + 2 * W - 1
  unfolding settled_sum over_sum mark_sum
  bounded = grind (arith, sum_less, settled_small, sum_most, one_if, one_if_small, ended_small)

  -- the number of claims, from the passes that have learned that all blocks are claimed
  pub few_claims : (m : Machine) (n : ℕ) → Counts m n → m.claims ≤ B + W
  unfolding over_sum
  few_claims m n c = let a = c.drawn in let o = sum_most (λ w. one_if (m.over w)) W (λ w. one_if_small (m.over w)) in omega arith

  pub counted : (m : Machine) (n : ℕ) → Counts m n → n ≡ m.claims + sum_to (λ i. settled (m.node i)) (2 * B) + sum_to (λ w. ended (m.mark w)) W
  unfolding settled_sum mark_sum
  counted m n c = c.steps
