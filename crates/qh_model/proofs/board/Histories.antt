-- Facts that no later event changes, and the node that a pass holds after it gave up.
use Rattle.qh_model.proofs.Common.{◌≡◌, ◌≢◌, ◌⊎◌, inl, inr, ⊎_elim, ℕ, ◌+◌, ◌<◌, ◌≤◌, true, false, List, [], ◌∷◌, ◌++◌, sym, refl, ap, ◌∙◌, subst, arith, dite}
use Rattle.qh_model.proofs.Common.{ℕ_discrete, untouched, held, parked, published, none, gave_up, Machine, put, Event, claim_got, claim_over, arrive_first}
use Rattle.qh_model.proofs.Common.{arrive_second, publish, leave, give_up, Can, after, run, CanRun, settled}
use Rattle.qh_model.specs.contract.BoardMachine.{left, start, HoldsNothing}
use Rattle.qh_model.proofs.board.{Grown.Consistent, Joined.Cases, Joined.same, Joined.spent, Joined.got, Joined.joined, Joined.cases, Joined.fresh}
use Rattle.qh_model.proofs.board.{Kept.keeps_good, Kept.all_good, Updates.put_here, Updates.put_else, Updates.at_put}

-- no number is both
never_both : (n : ℕ) → n ≡ 0 → n ≡ 1 → ⊥
never_both n a b = omega arith

module _ (B W : ℕ) (some : 0 < B) where
  -- a node that was delivered stays delivered
  settled_stays : (m : Machine) (e : Event) → Consistent B W m → Can B W m e → (j : ℕ) → settled (m.node j) ≡ 1 → settled ((after B W m e).node j) ≡ 1
  settled_stays m (claim_got w) g can j h =
      let i : ℕ = B + m.claims in
      ap settled (put_else m.node i (held w) j (λ e. never_both (settled (m.node j)) (ap settled (ap m.node e ∙ g.late i (omega arith))) h)) ∙ h
  settled_stays m (claim_over w) g can j h = h
  settled_stays m (arrive_first w i) g can j h =
      dite (ℕ_discrete j i) (λ e. ap settled (ap (put m.node i parked) e ∙ put_here m.node i parked)) (λ ne. ap settled (put_else m.node i parked j ne) ∙ h)
  settled_stays m (arrive_second w i) g can j h = by_case (cases m.node w i j (joined m.node w i j) refl)
    where
      by_case : Cases m.node w i j (joined m.node w i j) → settled (joined m.node w i j) ≡ 1
      by_case (same a b c t) = sym (ap settled t) ∙ h
      by_case (spent a t) = sym (ap settled t)
      by_case (got a t) = absurd (never_both (settled (m.node j)) (ap settled (ap m.node a ∙ fresh B W some m g w i can.0 can.1 can.2 can.3)) h)
  settled_stays m (publish w) g can j h =
      dite (ℕ_discrete j 1) (λ e. ap settled (ap (put m.node 1 published) e ∙ put_here m.node 1 published))
      (λ ne. ap settled (put_else m.node 1 published j ne) ∙ h)
  settled_stays m (leave w) g can j h = h
  settled_stays m (give_up w i) g can j h = h

  -- a held node stays with its pass until it is delivered
  held_stays : (m : Machine) (e : Event) → Consistent B W m → Can B W m e → (j v : ℕ) → m.node j ≡ held v
      → ((after B W m e).node j ≡ held v) ⊎ (settled ((after B W m e).node j) ≡ 1)
  held_stays m (claim_got w) g can j v h =
      let i : ℕ = B + m.claims in
      inl (put_else m.node i (held w) j (λ e. let f : untouched ≡ held v = sym (ap m.node e ∙ g.late i (omega arith)) ∙ h in absurd (cc)) ∙ h)
  held_stays m (claim_over w) g can j v h = inl h
  held_stays m (arrive_first w i) g can j v h =
      dite (ℕ_discrete j i) (λ e. inr (ap settled (ap (put m.node i parked) e ∙ put_here m.node i parked))) (λ ne. inl (put_else m.node i parked j ne ∙ h))
  held_stays m (arrive_second w i) g can j v h = by_case (cases m.node w i j (joined m.node w i j) refl)
    where
      by_case : Cases m.node w i j (joined m.node w i j) → (joined m.node w i j ≡ held v) ⊎ (settled (joined m.node w i j) ≡ 1)
      by_case (same a b c t) = inl (sym t ∙ h)
      by_case (spent a t) = inr (sym (ap settled t))
      by_case (got a t) = let f : untouched ≡ held v = sym (ap m.node a ∙ fresh B W some m g w i can.0 can.1 can.2 can.3) ∙ h in absurd (cc)
  held_stays m (publish w) g can j v h =
      dite (ℕ_discrete j 1) (λ e. inr (ap settled (ap (put m.node 1 published) e ∙ put_here m.node 1 published)))
      (λ ne. inl (put_else m.node 1 published j ne ∙ h))
  held_stays m (leave w) g can j v h = inl h
  held_stays m (give_up w i) g can j v h = inl h

  -- a pass that has ended keeps its node
  held_on : (m : Machine) (e : Event) → Consistent B W m → Can B W m e → (j v : ℕ) → m.mark v ≢ none → m.node j ≡ held v → (after B W m e).node j ≡ held v
  held_on m (claim_got w) g can j v n h =
      let i : ℕ = B + m.claims in
      put_else m.node i (held w) j (λ e. let f : untouched ≡ held v = sym (ap m.node e ∙ g.late i (omega arith)) ∙ h in absurd (cc)) ∙ h
  held_on m (claim_over w) g can j v n h = h
  held_on m (arrive_first w i) g can j v n h =
      put_else m.node i parked j (λ e. let f : held w ≡ held v = sym (ap m.node e ∙ can.1) ∙ h in let z : w ≡ v = cc in
      n (ap m.mark (sym z) ∙ can.0.1)) ∙ h
  held_on m (arrive_second w i) g can j v n h = by_case (cases m.node w i j (joined m.node w i j) refl)
    where
      by_case : Cases m.node w i j (joined m.node w i j) → joined m.node w i j ≡ held v
      by_case (same a b c t) = sym t ∙ h
      by_case (spent (inl a) t) = let f : held w ≡ held v = sym (ap m.node a ∙ can.1) ∙ h in let z : w ≡ v = cc in absurd (n (ap m.mark (sym z) ∙ can.0.1))
      by_case (spent (inr a) t) = let f : parked ≡ held v = sym (ap m.node a ∙ can.3) ∙ h in absurd (cc)
      by_case (got a t) = let f : untouched ≡ held v = sym (ap m.node a ∙ fresh B W some m g w i can.0 can.1 can.2 can.3) ∙ h in absurd (cc)
  held_on m (publish w) g can j v n h =
      put_else m.node 1 published j (λ e. let f : held w ≡ held v = sym (ap m.node e ∙ can.1) ∙ h in
      let z : w ≡ v = cc in n (ap m.mark (sym z) ∙ can.0.1)) ∙ h
  held_on m (leave w) g can j v n h = h
  held_on m (give_up w i) g can j v n h = h

  -- a pass that has ended reaches no node
  held_before : (m : Machine) (e : Event) → Can B W m e → (j v : ℕ) → m.mark v ≢ none → (after B W m e).node j ≡ held v → m.node j ≡ held v
  held_before = grind arith

  settled_runs : (m : Machine) (es : List Event) → Consistent B W m → CanRun B W m es → (j : ℕ) → settled (m.node j) ≡ 1 → settled ((run B W m es).node j) ≡ 1
  settled_runs m [] g can j h = h
  settled_runs m (e ∷ es) g can j h = settled_runs (after B W m e) es (keeps_good B W some m e g can.0) can.1 j (settled_stays m e g can.0 j h)

  held_runs : (m : Machine) (es : List Event) → Consistent B W m → CanRun B W m es → (j v : ℕ) → m.node j ≡ held v
      → ((run B W m es).node j ≡ held v) ⊎ (settled ((run B W m es).node j) ≡ 1)
  held_runs m [] g can j v h = inl h
  held_runs m (e ∷ es) g can j v h = ⊎_elim
      (λ (t : (after B W m e).node j ≡ held v). held_runs (after B W m e) es (keeps_good B W some m e g can.0) can.1 j v t)
      (λ (t : settled ((after B W m e).node j) ≡ 1). inr (settled_runs (after B W m e) es (keeps_good B W some m e g can.0) can.1 j t))
      (held_stays m e g can.0 j v h)

  run_append : (m : Machine) (es fs : List Event) → run B W m (es ++ fs) ≡ run B W (run B W m es) fs
  run_append m [] fs = refl
  run_append m (e ∷ es) fs = run_append (after B W m e) es fs

  can_append : (m : Machine) (es fs : List Event) → CanRun B W m (es ++ fs) → CanRun B W m es × CanRun B W (run B W m es) fs
  can_append m [] fs can = (tt, can)
  can_append m (e ∷ es) fs can = let t = can_append (after B W m e) es fs can.1 in ((can.0, t.0), t.1)

  -- a node is held by only one pass, and without interruption
  pub held_once : (m : Machine) → Consistent B W m → (es fs : List Event) → CanRun B W m (es ++ fs) → (i w v : ℕ)
      → m.node i ≡ held w → (run B W m (es ++ fs)).node i ≡ held v
      → ((run B W m es).node i ≡ held w) × (v ≡ w)
  held_once m g es fs can i w v h last =
      let c = can_append m es fs can in
      let g' = all_good B W some m es g c.0 in
      let last' : (run B W (run B W m es) fs).node i ≡ held v = ap (λ (z : Machine). z.node i) (sym (run_append m es fs)) ∙ last in
      let not_settled : settled ((run B W (run B W m es) fs).node i) ≡ 1 → ⊥ = never_both (settled ((run B W (run B W m es) fs).node i)) (ap settled last') in
      ⊎_elim
      (λ (t : (run B W m es).node i ≡ held w). (
        t,
        ⊎_elim
            (λ (u : (run B W (run B W m es) fs).node i ≡ held w). let f : held v ≡ held w = sym last' ∙ u in let z : v ≡ w = cc in z)
            (λ (u : settled ((run B W (run B W m es) fs).node i) ≡ 1). absurd (not_settled u)) (held_runs (run B W m es) fs g' c.1 i w t),
      ))
      (λ (t : settled ((run B W m es).node i) ≡ 1). absurd (not_settled (settled_runs (run B W m es) fs g' c.1 i t))) (held_runs m es g c.0 i w h)

  -- a pass that gave up holds a node, and one that left holds none; there are no more passes than W
  pub record Ended (m : Machine) : Type 0 where
    pub stuck : (v : ℕ) → m.mark v ≡ gave_up → (i : ℕ) × (m.node i ≡ held v)
    pub empty : (v : ℕ) → m.mark v ≡ left → HoldsNothing m v
    pub unmarked : (v : ℕ) → W ≤ v → m.mark v ≡ none
    pub going : (v : ℕ) → W ≤ v → m.over v ≡ false

  still_stuck : (m : Machine) (e : Event) → Consistent B W m → Can B W m e → Ended m → (v : ℕ) → m.mark v ≡ gave_up
      → (i : ℕ) × ((after B W m e).node i ≡ held v)
  still_stuck m e g can s v h = let t = s.stuck v h in (t.0, held_on m e g can t.0 v (λ n. let f : gave_up ≡ none = sym h ∙ n in cc) t.1)

  still_empty : (m : Machine) (e : Event) → Can B W m e → Ended m → (v : ℕ) → m.mark v ≡ left → HoldsNothing (after B W m e) v
  still_empty m e can s v h j q = s.empty v h j (held_before m e can j v (λ n. let f : left ≡ none = sym h ∙ n in cc) q)

  beyond : {A : Type 0} (f : ℕ → A) (w : ℕ) (x y : A) (v : ℕ) → w < W → W ≤ v → f v ≡ y → put f w x v ≡ y
  beyond f w x y v lo hi e = put_else f w x v (λ q. omega arith) ∙ e

  keeps_ended : (m : Machine) (e : Event) → Consistent B W m → Can B W m e → Ended m → Ended (after B W m e)
  keeps_ended m (claim_got w) g can s =
      record { stuck = still_stuck m (claim_got w) g can s; empty = still_empty m (claim_got w) can s; unmarked = s.unmarked; going = s.going }
  keeps_ended m (claim_over w) g can s =
      record {
        stuck = still_stuck m (claim_over w) g can s;
        empty = still_empty m (claim_over w) can s;
        unmarked = s.unmarked;
        going = λ v h. beyond m.over w true false v can.0.0 h (s.going v h);
      }
  keeps_ended m (arrive_first w i) g can s =
      record { stuck = still_stuck m (arrive_first w i) g can s; empty = still_empty m (arrive_first w i) can s; unmarked = s.unmarked; going = s.going }
  keeps_ended m (arrive_second w i) g can s =
      record { stuck = still_stuck m (arrive_second w i) g can s; empty = still_empty m (arrive_second w i) can s; unmarked = s.unmarked; going = s.going }
  keeps_ended m (publish w) g can s =
      record { stuck = still_stuck m (publish w) g can s; empty = still_empty m (publish w) can s; unmarked = s.unmarked; going = s.going }
  keeps_ended m (leave w) g can s = record {
    stuck = λ v e. ⊎_elim (λ (t : (v ≡ w) × (left ≡ gave_up)). let f = t.1 in
        absurd (cc)) (λ (t : (v ≢ w) × (m.mark v ≡ gave_up)). s.stuck v t.1) (at_put m.mark w v left gave_up e);
    empty = λ v e. ⊎_elim (λ (t : (v ≡ w) × (left ≡ left)). subst (HoldsNothing m) (sym t.0) can.1)
        (λ (t : (v ≢ w) × (m.mark v ≡ left)). s.empty v t.1) (at_put m.mark w v left left e);
    unmarked = λ v h. beyond m.mark w left none v can.0.0 h (s.unmarked v h);
    going = s.going;
  }
  keeps_ended m (give_up w i) g can s = record {
    stuck = λ v e. ⊎_elim (λ (t : (v ≡ w) × (gave_up ≡ gave_up)). (i, can.1 ∙ ap held (sym t.0)))
        (λ (t : (v ≢ w) × (m.mark v ≡ gave_up)). s.stuck v t.1) (at_put m.mark w v gave_up gave_up e);
    empty = λ v e. ⊎_elim (λ (t : (v ≡ w) × (gave_up ≡ left)). let f = t.1 in absurd (cc))
        (λ (t : (v ≢ w) × (m.mark v ≡ left)). s.empty v t.1) (at_put m.mark w v gave_up left e);
    unmarked = λ v h. beyond m.mark w gave_up none v can.0.0 h (s.unmarked v h);
    going = s.going;
  }

  all_ended : (m : Machine) (es : List Event) → Consistent B W m → Ended m → CanRun B W m es → Ended (run B W m es)
  all_ended m [] g s can = s
  all_ended m (e ∷ es) g s can = all_ended (after B W m e) es (keeps_good B W some m e g can.0) (keeps_ended m e g can.0 s) can.1

  pub run_ended : (es : List Event) → Consistent B W start → CanRun B W start es → Ended (run B W start es)
  run_ended = grind (arith, all_ended)
