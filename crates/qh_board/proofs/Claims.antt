-- A claim of a block, and a claim that finds all blocks claimed.
use Rattle.std.proofs.Common.{◌≡◌, inl, inr, ℕ, zero, suc, ◌+◌, ◌%◌, ◌^◌, ◌<◌, ◌≤◌, min, true, false, List, [], ◌∷◌, length, rules}
use Rattle.std.proofs.Common.{set, sym, refl, ap, Bool, ◌∙◌, subst, arith, eq-eqb, Option, Some, None, get_or, length-set, length-append}
use Rattle.std.{proofs.lemmas.Bool.Decides.nat_tests, specs.Prelude.All, specs.Prelude.slice_index, specs.Prelude.nat_lt, specs.Prelude.◌==◌}
use mathlib.Core.{Logic.dite, Option.some, Option.none}
use native.Mathlib.Decide.{dec_le}
use lib.ListN.{get_elem?}
use Rattle.atomic_table.specs.Table.{State, Me, step, takes, Allows}
use Rattle.qh_model.specs.contract.BoardMachine.{Place, untouched, held, Event, claim_got, claim_over, Can, after, settled, put}
use Rattle.qh_model.proofs.board.{Reached.reach_good, Reached.reach_claims, Updates.put_here, Updates.put_else, Updates.at_put}
use Rattle.qh_board.specs.contract.Records.{with_block, told_over}
use Rattle.qh_board.specs.declared.view.{Event.TheVariants.ClaimGot, Event.TheVariants.ClaimOver, Record.Record, Setup.Setup, View.View}
use Rattle.qh_board.specs.steps.{Rule.one_if, Rule.times, Rule.SlotOf, Rule.Kept, Rule.Ruled, Shown.mark_of, Views.view_of, Views.HasRecord, Views.IsClaim}
use Rattle.qh_board.proofs.Steps.{Homes, KeptAfter, SlotsOf, Shows, steps, others_keep, allowed_at, seat_record, seated, nothing, slots_put, settled_put}
use Rattle.qh_board.proofs.{Steps.made_more, Steps.word_else, Steps.times_snoc, SlotsHome.all_home, SlotsHome.laid, Totals.one_of}

module _ {S X : Type 0} (right : S → (ℕ → Type 0) → X → Type 0) (key : Setup S) where
  below_more : (x c : ℕ) → c < key.blocks → one_if (nat_lt x (min (c + 1) key.blocks)) ≡ one_if (nat_lt x (min c key.blocks)) + one_if (c == x)
  below_more x c h = grind (arith, nat_tests)

  below_claims : (x c : ℕ) → 0 < one_if (nat_lt x (min c key.blocks)) → x < c
  below_claims x c h = grind (arith, nat_tests)

  -- an element of a list occurs in it
  times_at : (xs : List ℕ) (k d : ℕ) → k < length xs → 0 < times (get_or xs k d) xs
  times_at [] k d h = absurd (omega arith)
  times_at (x ∷ xs) zero d h = let e : one_if (x == x) ≡ 1 = ap one_if (eq-eqb x x refl) in omega arith
  times_at (x ∷ xs) (suc k) d h = let t = times_at xs k d (omega arith) in omega arith

  below_same : (x c : ℕ) → key.blocks ≤ c → one_if (nat_lt x (min (c + 1) key.blocks)) ≡ one_if (nat_lt x (min c key.blocks))
  below_same x c h = ap (λ (n : ℕ). one_if (nat_lt x n)) (omega arith)

  -- the words and slots after a claim, which settles no node
  claim_shows : (s : State (Option X) (View S)) (R : Kept right key s) (f : ℕ → Place) (over : ℕ → Bool) (homes : Homes X)
      → ((j : ℕ) → settled (f j) ≡ settled (R.machine.node j)) → length homes ≡ length s.homes → SlotsOf right key f homes
      → let n : ℕ = R.machine.claims + 1 in Shows right key record R.machine { claims = n; node = f; over = over } (set s.words 0 n) homes
  claim_shows = search rules

  pub got_step : (s : State (Option X) (View S)) (R : Kept right key s) (id : ℕ) (r : Record)
      → get_elem? s.views id ≡ some (view_of key (r ∷ [])) → r.node ≡ None → r.over ≡ false → r.mark ≡ None
      → R.machine.claims < key.blocks
      → KeptAfter right key s id (with_block key.blocks R.machine.claims r) (set s.words 0 (R.machine.claims + 1))
      (set s.homes (key.blocks + R.machine.claims) none)
  got_step s R id r at free going unmarked room = let m = R.machine in let w = r.number in
      let e : Event = claim_got w in let a = (R.views id (view_of key (r ∷ [])) at).0 in
      let i : ℕ = key.blocks + m.claims in
      let g = reach_good key.blocks key.passes R.some_blocks m R.reached in
      let fresh : m.node i ≡ untouched = g.late i (omega arith) in
      let can : Can key.blocks key.passes m e = ((a.inside, a.mark ∙ ap mark_of unmarked), nothing right key m r a free, a.over ∙ going, room) in
      let m' = after key.blocks key.passes m e in
      steps right key s R e m' refl id r (with_block key.blocks m.claims r) (set s.words 0 (m.claims + 1)) (set s.homes i none) at can
      (claim_shows s R (put m.node i (held w)) m.over (set s.homes i none) (settled_put m.node i (held w) (ap settled fresh)) (length-set s.homes i none)
      (slots_put right key m.node s.homes i (held w) none (let z = R.deep in omega arith) tt R.slots)) (record {
        same = refl;
        by = refl;
        made = made_more w r.events ClaimGot;
        mine = record {
          inside = a.inside;
          over = a.over;
          mark = a.mark;
          seen = omega arith;
          holds = λ j e. let q : i ≡ j = cc in subst (λ (k : ℕ). put m.node i (held w) k ≡ held w) q (put_here m.node i (held w));
          alone = λ j e. elim (at_put m.node i j (held w) (held w) e) [
            | inl t ↦ ap Some (sym t.0)
            | inr t ↦ absurd (nothing right key m r a free j t.1)
          ];
        };
        others = others_keep right key m m' w (omega arith) (λ v ne. (refl, refl))
            (λ v j ne q. put_else m.node i (held w) j (λ z. let f : held v ≡ untouched = sym q ∙ (ap m.node z ∙ fresh) in cc) ∙ q)
            (λ v j ne q. elim (at_put m.node i j (held w) (held v) q) [ inl t ↦ (let e = t.1 in absurd (ne cc)) | inr t ↦ t.1 ]);
        drawn = let t = length-append r.got (m.claims ∷ []) in omega arith;
        got = λ x. let t = times_snoc x r.got m.claims in let b = below_more x m.claims room in omega arith;
        joins = λ x lo hi. ap (λ (n : ℕ). times x r.joins + one_if (n == 2)) (sym (word_else s.words 0 (m.claims + 1) x (λ q. omega arith)));
        joins_inner = λ x h. refl;
      })

  pub over_step : (s : State (Option X) (View S)) (R : Kept right key s) (id : ℕ) (r : Record)
      → get_elem? s.views id ≡ some (view_of key (r ∷ [])) → r.node ≡ None → r.over ≡ false → r.mark ≡ None
      → key.blocks ≤ R.machine.claims
      → KeptAfter right key s id (told_over R.machine.claims r) (set s.words 0 (R.machine.claims + 1)) s.homes
  over_step s R id r at free going unmarked full = let m = R.machine in let w = r.number in
      let e : Event = claim_over w in let a = (R.views id (view_of key (r ∷ [])) at).0 in
      let can : Can key.blocks key.passes m e = ((a.inside, a.mark ∙ ap mark_of unmarked), nothing right key m r a free, a.over ∙ going, full) in
      let m' = after key.blocks key.passes m e in
      steps right key s R e m' refl id r (told_over m.claims r) (set s.words 0 (m.claims + 1)) s.homes at can
      (claim_shows s R m.node (put m.over w true) s.homes (λ j. refl) refl R.slots) (record {
        same = refl;
        by = refl;
        made = made_more w r.events ClaimOver;
        mine = record { inside = a.inside; over = put_here m.over w true; mark = a.mark; seen = omega arith; holds = a.holds; alone = a.alone };
        others = others_keep right key m m' w (omega arith)
            (λ v ne. (put_else m.over w true v ne, refl)) (λ v j ne q. q) (λ v j ne q. q);
        drawn = let t = ap one_if going in omega arith;
        got = λ x. let b = below_same x m.claims full in omega arith;
        joins = λ x lo hi. ap (λ (n : ℕ). times x r.joins + one_if (n == 2)) (sym (word_else s.words 0 (m.claims + 1) x (λ q. omega arith)));
        joins_inner = λ x h. refl;
      })

  claim_at : (slots id : ℕ) (r : Record) → r.node ≡ None → r.over ≡ false → r.mark ≡ None
      → let me : Me (Option X) (View S) = (view_of key (r ∷ []), []) in
      Allows (Kept right key) slots id me 0 (λ n. (n + 1) % 2 ^ 64) (IsClaim (step slots 0 1 0 none) me)
  unfolding laid
  claim_at slots id r free going unmarked s R deep at small = dite (dec_le key.blocks R.machine.claims)
      (λ full. all_home right key id 0 (λ n. (n + 1) % 2 ^ 64) (IsClaim (step slots 0 1 0 none) (view_of key (r ∷ []), [])) []
      (told_over R.machine.claims r) s (R.machine.claims + 1) next (over_step s R id r at free going unmarked full) (record {
        later = later;
        above = above;
        got = λ l. absurd (omega arith);
        over = λ _. (ap (λ (n : ℕ). view_of key (told_over n r ∷ [])) (sym R.claims), refl);
      }))
      (λ room. let i : ℕ = key.blocks + R.machine.claims in let lt : R.machine.claims < key.blocks = omega arith in
      let g = reach_good key.blocks key.passes R.some_blocks R.machine R.reached in
      let slot = R.slots i (let z = R.some_blocks in omega arith) (omega arith) in
      let r' : Record = with_block key.blocks R.machine.claims r in (
        view_of key (r' ∷ []),
        takes i None,
        slot.1 ∙ ap some (subst (λ (p : Place). SlotOf right key i p slot.0) (g.late i (omega arith)) slot.2),
        subst (λ (z : ℕ). KeptAfter right key s id r' (set s.words 0 z) (set s.homes i none)) next (got_step s R id r at free going unmarked lt),
        record {
          later = later;
          above = above;
          got = λ _. (ap (λ (n : ℕ). view_of key (with_block key.blocks n r ∷ [])) (sym R.claims), ap (λ (n : ℕ). (key.blocks + n, None) ∷ []) (sym R.claims));
          over = λ h. absurd (omega arith);
        },
      ))
    where
      later : r.claims ≤ slice_index s.words 0
      later = let k = (R.views id (view_of key (r ∷ [])) at).0.seen in let f = R.claims in omega arith

      above : All (λ x. x < slice_index s.words 0) r.got
      above k d lt = let x : ℕ = get_or r.got k d in let t = times_at r.got k d lt in
          let o = one_of (λ q. times x q.got) s.views id (view_of key (r ∷ [])) at in
          let b = below_claims x R.machine.claims (let e = R.got x in omega arith) in let f = R.claims in omega arith

      next : R.machine.claims + 1 ≡ (slice_index s.words 0 + 1) % 2 ^ 64
      next = let c = reach_claims key.blocks key.passes R.some_blocks R.machine R.reached in let f = R.claims in let t = R.small in omega arith

  pub claim_allowed : (k : Setup S) → k ≡ key → (slots id number : ℕ) (me : Me (Option X) (View S))
      → me.0.setup ≡ Some key → me.1 ≡ [] → HasRecord me.0 number None false None
      → Allows (Ruled right k) slots id me 0 (λ n. (n + 1) % 2 ^ 64) (IsClaim (step slots 0 1 0 none) me)
  claim_allowed k same_key slots id number me of bare has = let r : Record = seat_record me.0 number None false in
      let p = seated right key me.0 number None false of has in
      allowed_at right key k same_key slots id 0 (λ n. (n + 1) % 2 ^ 64) (IsClaim (step slots 0 1 0 none)) me (view_of key (r ∷ []), [])
      (λ c. (p c, bare c)) (claim_at slots id r refl refl refl)
