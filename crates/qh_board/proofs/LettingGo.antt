-- A pass releases its node, whose value stays in the slot: it arrives first at the parent, or publishes the root.
use Rattle.atomic_table.specs.Table.{Allows, Me, State, rest, step}
use Rattle.qh_board.proofs.ParentWords.{arrivals_up, sibling_is}
use Rattle.qh_board.proofs.SlotsHome.{all_home, filled, laid, length_laid, load, slots_home}
use Rattle.qh_board.proofs.Steps.{KeptAfter, SlotsOf, Turns, allowed_at, made_more, others_keep, seat_record, steps, word_else}
use Rattle.qh_board.specs.contract.Records.{come_first, node_or, without_node}
use Rattle.qh_board.specs.declared.view.{Event.TheVariants.ArriveFirst, Event.TheVariants.Publish, Record.Record, Setup.Setup, View.View}
use Rattle.qh_board.specs.steps.{Rule.Agrees, Rule.Kept, Rule.Ruled, Rule.SlotOf, Rule.one_if, Rule.times, Shown.event_by, Shown.made, Shown.maker}
use Rattle.qh_board.specs.steps.{Shown.mark_of, Views.HasRecord, Views.blocks_of, Views.kids, Views.put_out, Views.view_of}
use Rattle.qh_model.proofs.Common.{Bool, Can, Event, InSpan, List, None, Option, Place, Some, [], after, ap, arith, arrive_first, dite, get_elem?}
use Rattle.qh_model.proofs.Common.{get_or-set_same, held, inl, inr, length-set, parent, parked, publish, published, put, refl, set, settled, slice_index, some}
use Rattle.qh_model.proofs.Common.{subst, sym, untouched, ℕ, ℕ_discrete, ⊎_elim, ◌%◌, ◌*◌, ◌++◌, ◌+◌, ◌<◌, ◌==◌, ◌^◌, ◌∙◌, ◌∷◌, ◌≡◌, ◌≢◌}
use Rattle.qh_model.proofs.board.{Grown.ranged, Reached.reach_good, Siblings.near, Updates.at_put, Updates.put_else, Updates.put_here}
use mathlib.Core.Option.{none}
use mathlib.Core.Option as maybe
use Rattle.qh_board.specs.declared.view.Event as own

module _ {S X : Type 0} (right : S → (ℕ → Type 0) → X → Type 0) (key : Setup S) where
  -- the place of the node becomes p, which belongs to no pass, and no nodes are joined
  lets_go : (s : State (Option X) (View S)) (R : Kept right key s) (id i : ℕ) (x : X) (r : Record) (arrivals : ℕ) (d : own.Event) (e : Event) (p : Place)
      (words : List ℕ) → event_by r.number d ≡ e → maker e ≡ r.number
      → get_elem? s.views id ≡ some (view_of key (r ∷ [])) → r.node ≡ Some i → ((v : ℕ) → p ≢ held v)
      → ((h : maybe.Option (Option X)) → h ≡ some (Some x) → SlotOf right key i p h)
      → ((y : ℕ) → 0 < y → y < key.blocks → (slice_index s.words y == 2) ≡ (slice_index words y == 2))
      → SlotsOf right key (put R.machine.node i p) (laid s.homes (load right key i (Some x)))
      × Turns right key e R.machine record R.machine { node = put R.machine.node i p } s.words words r
      record r { node = None; arrivals = arrivals; events = r.events ++ d ∷ [] }
  lets_go s R id i x r arrivals d e p words is by at holds_ free lies joins = let m = R.machine in let a = (R.views id (view_of key (r ∷ [])) at).0 in
      let w = r.number in let mine : m.node i ≡ held w = a.holds i holds_ in (
        (λ j lo hi. let t = slots_home right key s R i w (Some x) mine j lo hi in (
          t.0,
          t.1,
          dite (ℕ_discrete j i)
              (λ q. subst (λ (y : Place). SlotOf right key j y t.0) (sym (ap (put m.node i p) q ∙ put_here m.node i p))
              (subst (λ (k : ℕ). SlotOf right key k p t.0) (sym q) (lies t.0 (t.2 q))))
              (λ ne. subst (λ (y : Place). SlotOf right key j y t.0) (sym (put_else m.node i p j ne)) (t.3 ne)),
        )),
        record {
          same = refl;
          by = by;
          made = made_more w r.events d ∙ ap (λ (z : Event). made r ++ z ∷ []) is;
          mine = record { inside = a.inside; over = a.over; mark = a.mark; seen = a.seen; holds = λ j q. absurd (cc); alone = λ j q. absurd (lone a j q) };
          others = others_keep right key m record m { node = put m.node i p } w (omega arith) (λ v ne. (refl, refl))
              (λ v j ne q. put_else m.node i p j (λ z. let f : held v ≡ held w = sym q ∙ (ap m.node z ∙ mine) in ne cc) ∙ q)
              (λ v j ne q. elim (at_put m.node i j p (held v) q) [ inl t ↦ absurd (free v t.1) | inr t ↦ t.1 ]);
          drawn = refl;
          got = λ y. refl;
          joins = λ y lo hi. ap (λ (b : Bool). times y r.joins + one_if b) (joins y lo hi);
          joins_inner = λ y h. refl;
        },
      )
    where
      lone : Agrees key.passes R.machine r → (j : ℕ) → put R.machine.node i p j ≡ held r.number → ⊥
      lone a j q = ⊎_elim (λ (t : (j ≡ i) × (p ≡ held r.number)). free r.number t.1)
          (λ (t : (j ≢ i) × (R.machine.node j ≡ held r.number)). let o : Some j ≡ Some i = sym (a.alone j t.1) ∙ holds_ in t.0 cc)
          (at_put R.machine.node i j p (held r.number) q)

  pub first_step : (s : State (Option X) (View S)) (R : Kept right key s) (id i : ℕ) (x : X) (r : Record)
      → get_elem? s.views id ≡ some (view_of key (r ∷ [])) → r.node ≡ Some i → r.mark ≡ None → 1 < i
      → right key.spans (InSpan key.blocks i) x → slice_index s.words (parent i) ≡ 0
      → KeptAfter right key s id (come_first r) (set s.words (parent i) (slice_index s.words (parent i) + 1)) (laid s.homes (load right key i (Some x)))
  first_step s R id i x r at holds_ unmarked lo rx zero_ = let m = R.machine in let w = r.number in let p : ℕ = parent i in
      let e : Event = arrive_first w i in let a = (R.views id (view_of key (r ∷ [])) at).0 in
      let g = reach_good key.blocks key.passes R.some_blocks m R.reached in let mine : m.node i ≡ held w = a.holds i holds_ in
      let rg = ranged key.blocks key.passes R.some_blocks m g i (λ e. let f : held w ≡ untouched = sym mine ∙ e in cc) in
      let n_ = near i lo in let pos = n_.positive in
      let sib = sibling_is right key m g R.some_blocks i w mine lo (slice_index s.words p) (R.arrivals p n_.positive (omega arith)) in
      let can : Can key.blocks key.passes m e = ((a.inside, a.mark ∙ ap mark_of unmarked), mine, (λ z. omega arith), sib.0 zero_) in
      let n : ℕ = slice_index s.words p + 1 in let words : List ℕ = set s.words p n in
      let gone = lets_go s R id i x r 1 (ArriveFirst (node_or r.node)) e parked words (ap (arrive_first w) (ap node_or holds_)) refl
      at holds_ (λ v q. cc) (λ h e. (x, e, rx)) (λ y lo' hi. dite (ℕ_discrete y p)
      (λ q. let now : slice_index words y ≡ 1 = ap (slice_index words) q
      ∙ (get_or-set_same s.words p n 0 (let z = R.wide in omega arith) ∙ ap (λ (k : ℕ). k + 1) zero_) in
      ap (λ (k : ℕ). k == 2) (ap (slice_index s.words) q ∙ zero_) ∙ sym (ap (λ (k : ℕ). k == 2) now))
      (λ ne. ap (λ (k : ℕ). k == 2) (sym (word_else s.words p n y ne)))) in
      steps right key s R e (after key.blocks key.passes m e) refl id r (come_first r) words (laid s.homes (load right key i (Some x))) at can (record {
        wide = length-set s.words p n ∙ R.wide;
        deep = length_laid s.homes (load right key i (Some x)) ∙ R.deep;
        claims = word_else s.words p n 0 (λ q. omega arith) ∙ R.claims;
        arrivals = arrivals_up right key m.node (put m.node i parked) s.words i lo rg.1 R.wide
            (ap settled (put_here m.node i parked) ∙ sym (ap (λ (k : ℕ). k + 1) (ap settled mine)))
            (λ k ne. ap settled (put_else m.node i parked k ne)) R.arrivals;
        out = word_else s.words p n key.blocks (λ q. omega arith) ∙ (R.out ∙ ap settled (sym (put_else m.node i parked 1 (λ q. omega arith))));
        marks = λ v h. word_else s.words p n (key.blocks + 1 + v) (λ q. omega arith) ∙ R.marks v h;
        slots = gone.0;
      }) gone.1

  publish_step : (s : State (Option X) (View S)) (R : Kept right key s) (id : ℕ) (x : X) (r : Record)
      → get_elem? s.views id ≡ some (view_of key (r ∷ [])) → r.node ≡ Some 1 → r.mark ≡ None
      → right key.spans (InSpan key.blocks 1) x
      → KeptAfter right key s id (without_node r) (set s.words key.blocks 1) (laid s.homes (load right key 1 (Some x)))
  publish_step s R id x r at holds_ unmarked rx = let m = R.machine in let e : Event = publish r.number in
      let a = (R.views id (view_of key (r ∷ [])) at).0 in
      let can : Can key.blocks key.passes m e = ((a.inside, a.mark ∙ ap mark_of unmarked), a.holds 1 holds_) in
      let some_blocks = R.some_blocks in let words : List ℕ = set s.words key.blocks 1 in
      let gone = lets_go s R id 1 x r r.arrivals Publish e published words refl refl at holds_ (λ v q. cc) (λ h e. (x, e, rx))
      (λ y lo hi. ap (λ (k : ℕ). k == 2) (sym (word_else s.words key.blocks 1 y (λ q. omega arith)))) in
      let node_else : (j : ℕ) → j ≢ 1 → settled (put m.node 1 published j) ≡ settled (m.node j) = λ j ne. ap settled (put_else m.node 1 published j ne) in
      steps right key s R e (after key.blocks key.passes m e) refl id r (without_node r) words (laid s.homes (load right key 1 (Some x))) at can (record {
        wide = length-set s.words key.blocks 1 ∙ R.wide;
        deep = length_laid s.homes (load right key 1 (Some x)) ∙ R.deep;
        claims = word_else s.words key.blocks 1 0 (λ q. omega arith) ∙ R.claims;
        arrivals = λ j lo hi. let b = node_else (2 * j) (λ q. omega arith) in let c = node_else (2 * j + 1) (λ q. omega arith) in
            word_else s.words key.blocks 1 j (λ q. omega arith) ∙ (R.arrivals j lo hi ∙ omega arith);
        out = get_or-set_same s.words key.blocks 1 0 (let z = R.wide in omega arith) ∙ sym (ap settled (put_here m.node 1 published));
        marks = λ p h. word_else s.words key.blocks 1 (key.blocks + 1 + p) (λ q. omega arith) ∙ R.marks p h;
        slots = gone.0;
      }) gone.1

  pub publish_allowed : (k : Setup S) → k ≡ key → (slots id i number : ℕ) (over : Bool) (x : X) (before me : Me (Option X) (View S)) → i ≡ 1
      → before.0.setup ≡ Some key → before.1 ≡ (i, None) ∷ kids (blocks_of before.0) i
      → HasRecord before.0 number (Some i) over None → me ≡ (before.0, (i, Some x) ∷ rest before.1) → right key.spans (InSpan key.blocks i) x
      → Allows (Ruled right k) slots id me key.blocks (λ n. (n + 1) % 2 ^ 64) (put_out (step slots key.blocks 1 0 none) me)
  publish_allowed k same_key slots id i number over x before me root of bare has now rx =
      let r : ℕ → Record = λ j. seat_record before.0 number (Some j) over in let c = load right key 1 (Some x) in
      let told = put_out (step slots key.blocks 1 0 none) in
      allowed_at right key k same_key slots id key.blocks (λ n. (n + 1) % 2 ^ 64) told me (view_of key (r 1 ∷ []), c)
      (filled right key before me i number over x of bare has now ∙ λ z. (view_of key (r (root z) ∷ []), load right key (root z) (Some x)))
      (λ s R deep at small.
      let found : slice_index s.words key.blocks ≡ 0 = R.out ∙ ap settled ((R.views id (view_of key (r 1 ∷ [])) at).0.holds 1 refl) in
      all_home right key id key.blocks (λ n. (n + 1) % 2 ^ 64) (told (view_of key (r 1 ∷ []), c)) c (without_node (r 1)) s 1 (omega arith)
      (publish_step s R id x (r 1) at refl refl (subst (λ (z : ℕ). right key.spans (InSpan key.blocks z) x) root rx)) (found, refl, refl))
