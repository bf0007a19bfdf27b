-- The second arrival at a node, which takes both values.
use Rattle.qh_model.proofs.Common.{◌≡◌, ◌≢◌, inl, inr, ⊎_elim, ℕ, ◌+◌, ◌*◌, ◌<◌, ◌≤◌, [], ◌∷◌, length, set, sym, refl, ap, ◌∙◌, subst, arith, eq-eqb, ne_eqb}
use Rattle.qh_model.proofs.Common.{Option, ◌++◌, if◌then◌else◌, Bool, true, false, List, Some, None, length-set, get_or-set_same, slice_index, ◌==◌, dite, some}
use Rattle.qh_model.proofs.Common.{ℕ_discrete, get_elem?, Place, untouched, held, parked, used, Event, arrive_second, Can, after, settled, put, sibling, parent}
use Rattle.qh_model.specs.contract.BoardMachine as machine
use mathlib.Core.Option.{none}
use Rattle.atomic_table.specs.Table.{State}
use Rattle.qh_model.proofs.board.{Joined.same, Joined.spent, Joined.got, Joined.joined, Joined.cases, Joined.fresh, Joined.at_i, Joined.at_p, Updates.put_else}
use Rattle.qh_model.proofs.board.{Siblings.ArePair, Siblings.near, Grown.ranged, Reached.reach_good}
use Rattle.qh_board.specs.{contract.Records.come_second, contract.Records.node_or, declared.view.Event.TheVariants.ArriveSecond, declared.view.Record.Record}
use Rattle.qh_board.specs.{declared.view.Setup.Setup, declared.view.View.View, steps.Rule.one_if, steps.Rule.Kept, steps.Shown.made, steps.Shown.mark_of}
use Rattle.qh_board.specs.steps.Views.{view_of}
use Rattle.qh_board.proofs.{ParentWords.arrivals_up, ParentWords.sibling_is, SlotsHome.laid, SlotsHome.length_laid, SlotsHome.load, SlotsHome.slots_laid}
use Rattle.qh_board.proofs.Steps.{Homes, KeptAfter, SlotsOf, made_more, steps, others_keep, slots_put, settled_put, word_else, times_snoc}

module _ {S X : Type 0} (right : S → (ℕ → Type 0) → X → Type 0) (key : Setup S) where
  pub second_step : (s : State (Option X) (View S)) (R : Kept right key s) (id i : ℕ) (x : X) (r : Record) (homes' : Homes X)
      → get_elem? s.views id ≡ some (view_of key (r ∷ [])) → r.node ≡ Some i → r.mark ≡ None → 1 < i
      → slice_index s.words (parent i) ≢ 0
      → homes' ≡ set (set (set (laid s.homes (load right key i (Some x))) (2 * parent i + 1) none) (2 * parent i) none) (parent i) none
      → KeptAfter right key s id (come_second (parent i) r) (set s.words (parent i) (slice_index s.words (parent i) + 1)) homes'
  second_step s R id i x r homes' at holds_ unmarked lo nz is_homes = let m = R.machine in let w = r.number in
      let e : Event = arrive_second w i in let a = (R.views id (view_of key (r ∷ [])) at).0 in
      let g = reach_good key.blocks key.passes R.some_blocks m R.reached in let mine : m.node i ≡ held w = a.holds i holds_ in
      let rg = ranged key.blocks key.passes R.some_blocks m g i (λ e. let f : held w ≡ untouched = sym mine ∙ e in cc) in
      let n_ = near i lo in let pos = n_.positive in let above = n_.above in
      let sib = (sibling_is right key m g R.some_blocks i w mine lo (slice_index s.words (parent i)) (R.arrivals (parent i) n_.positive (omega arith))).1 nz in
      let act : (w < key.passes) × (m.mark w ≡ machine.none) = (a.inside, a.mark ∙ ap mark_of unmarked) in
      let can : Can key.blocks key.passes m e = (act, mine, (λ z. omega arith), sib.0) in
      let p : ℕ = parent i in let n : ℕ = slice_index s.words p + 1 in let words : List ℕ = set s.words p n in
      let fr = fresh key.blocks key.passes R.some_blocks m g w i act mine (λ z. omega arith) sib.0 in
      let new_i = at_i key.blocks key.passes R.some_blocks m g w i act mine (λ z. omega arith) sib.0 in
      let new_p = at_p key.blocks key.passes R.some_blocks m g w i act mine (λ z. omega arith) sib.0 in
      let else_ : (j : ℕ) → j ≢ i → j ≢ sibling i → j ≢ p → joined m.node w i j ≡ m.node j = λ j a b c.
      put_else (put (put m.node i used) (sibling i) used) p (held w) j c ∙ (put_else (put m.node i used) (sibling i) used j b ∙ put_else m.node i used j a) in
      let settled_else : (j : ℕ) → j ≢ i → settled (joined m.node w i j) ≡ settled (m.node j) = λ j ne.
      settled_put (put (put m.node i used) (sibling i) used) p (held w) (ap settled (put_else (put m.node i used) (sibling i) used p (λ q. omega arith)
      ∙ (put_else m.node i used p (λ q. omega arith) ∙ fr))) j
      ∙ (settled_put (put m.node i used) (sibling i) used (ap settled (put_else m.node i used (sibling i) n_.apart ∙ sib.0)) j
      ∙ ap settled (put_else m.node i used j ne)) in
      let L : Homes X = laid s.homes (load right key i (Some x)) in let L1 : Homes X = set L (2 * p + 1) none in let L2 : Homes X = set L1 (2 * p) none in
      let len : length L ≡ 2 * key.blocks = length_laid s.homes (load right key i (Some x)) ∙ R.deep in
      let len1 = length-set L (2 * p + 1) none in let len2 = length-set L1 (2 * p) none in
      let f1 : ℕ → Place = put m.node (2 * p + 1) used in let f2 : ℕ → Place = put f1 (2 * p) used in
      let slots1 = slots_put right key m.node L (2 * p + 1) used none (omega arith) tt (slots_laid right key s R i w (Some x) mine) in
      let slots2 = slots_put right key f1 L1 (2 * p) used none (omega arith) tt slots1 in
      let slots3 = slots_put right key f2 L2 p (held w) none (omega arith) tt slots2 in
      steps right key s R e (after key.blocks key.passes m e) refl id r (come_second p r) words homes' at can (record {
        wide = length-set s.words p n ∙ R.wide;
        deep = ap length is_homes ∙ (length-set L2 p none ∙ (len2 ∙ (len1 ∙ len)));
        claims = word_else s.words p n 0 (λ q. omega arith) ∙ R.claims;
        arrivals = arrivals_up right key m.node (joined m.node w i) s.words i lo rg.1 R.wide
            (ap settled new_i ∙ sym (ap (λ (k : ℕ). k + 1) (ap settled mine))) settled_else R.arrivals;
        out = word_else s.words p n key.blocks (λ q. omega arith) ∙ (R.out ∙ sym (settled_else 1 (λ q. omega arith)));
        marks = λ v h. word_else s.words p n (key.blocks + 1 + v) (λ q. omega arith) ∙ R.marks v h;
        slots = subst (λ (z : (ℕ → Place) × Homes X). SlotsOf right key z.0 z.1) (λ k. ((λ j. joined_is m.node w i n_.both j k), sym is_homes k)) slots3;
      }) (record {
        same = refl;
        by = refl;
        made = made_more w r.events (ArriveSecond (node_or r.node)) ∙ ap (λ (k : ℕ). made r ++ arrive_second w k ∷ []) (ap node_or holds_);
        mine = record {
          inside = a.inside;
          over = a.over;
          mark = a.mark;
          seen = a.seen;
          holds = λ j q. let z : parent i ≡ j = cc in subst (λ (k : ℕ). joined m.node w i k ≡ held w) z new_p;
          alone = λ j q. elim (cases m.node w i j (held w) q) [
            | same x y z t ↦ (let q : Some j ≡ Some i = sym (a.alone j t) ∙ holds_ in absurd (x cc))
            | spent x t ↦ absurd (cc)
            | got x t ↦ ap Some (sym x)
          ];
        };
        others = others_keep right key m (after key.blocks key.passes m e) w (omega arith) (λ v ne. (refl, refl))
            (λ v j ne q. else_ j (λ z. let f : held v ≡ held w = sym q ∙ (ap m.node z ∙ mine) in ne cc)
            (λ z. let f : held v ≡ parked = sym q ∙ (ap m.node z ∙ sib.0) in cc) (λ z. let f : held v ≡ untouched = sym q ∙ (ap m.node z ∙ fr) in cc) ∙ q)
            (λ v j ne q. elim (cases m.node w i j (held v) q) [ same x y z t ↦ t | spent x t ↦ absurd (cc) | got x t ↦ absurd (ne cc) ]);
        drawn = refl;
        got = λ y. refl;
        joins_inner = λ y h. let t = times_snoc y r.joins p in let low = rg in
            let other : one_if (p == y) ≡ 0 =
            ap one_if (ne_eqb p y (λ q. ⊎_elim (λ (z : y ≡ 0). omega arith) (λ (z : key.blocks ≤ y). omega arith) h)) in omega arith;
        joins = λ y lo' hi. let t = times_snoc y r.joins p in dite (ℕ_discrete y p)
            (λ q. let now : slice_index words y ≡ 2 =
            ap (slice_index words) q ∙ (get_or-set_same s.words p n 0 (let z = R.wide in omega arith) ∙ ap (λ (k : ℕ). k + 1) sib.1) in
            let before : slice_index s.words y ≡ 1 = ap (slice_index s.words) q ∙ sib.1 in
            let two = ap (λ (k : ℕ). one_if (k == 2)) now in let not_two = ap (λ (k : ℕ). one_if (k == 2)) before in
            let this : one_if (p == y) ≡ 1 = ap one_if (eq-eqb p y (sym q)) in omega arith)
            (λ ne. let same_word = ap (λ (k : ℕ). one_if (k == 2)) (word_else s.words p n y ne) in
            let other : one_if (p == y) ≡ 0 = ap one_if (ne_eqb p y (λ q. ne (sym q))) in omega arith);
      })
    where
      swapped : (a b : Bool) (y : Place) → (if a then used else (if b then used else y)) ≡ (if b then used else (if a then used else y))
      swapped true true y = refl
      swapped true false y = refl
      swapped false true y = refl
      swapped false false y = refl

      joined_is : (f : ℕ → Place) (w i : ℕ) → ArePair i → (j : ℕ)
          → put (put (put f (2 * parent i + 1) used) (2 * parent i) used) (parent i) (held w) j ≡ joined f w i j
      joined_is f w i (inl t) j = ap (λ (z : ℕ × ℕ). put (put (put f z.0 used) z.1 used) (parent i) (held w) j) (λ k. (t.1 k, t.0 k))
          ∙ ap (λ (z : Place). if j == parent i then held w else z) (swapped (j == i) (j == sibling i) (f j))
      joined_is f w i (inr t) j = ap (λ (z : ℕ × ℕ). put (put (put f z.0 used) z.1 used) (parent i) (held w) j) (λ k. (t.1 k, t.0 k))
