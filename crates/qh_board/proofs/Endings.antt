-- A pass ends: it leaves without a node, or gives up with one.
use Rattle.atomic_table.specs.Table.{Allows, Me, State, step}
use Rattle.qh_board.proofs.SlotsHome.{all_home, laid, length_laid, load, slots_laid}
use Rattle.qh_board.proofs.Steps.{KeptAfter, SlotsOf, allowed_at, made_more, nothing, others_keep, seat_record, seated, steps, word_else}
use Rattle.qh_board.specs.contract.Records.{ended_as, ending_of}
use Rattle.qh_board.specs.declared.view.{Mark.TheVariants.GaveUp, Mark.TheVariants.Left, Record.Record, Setup.Setup, View.View}
use Rattle.qh_board.specs.steps.{Rule.Agrees, Rule.Kept, Rule.Ruled, Rule.one_if, Rule.times, Shown.event_by, Shown.made, Shown.maker, Shown.mark_of}
use Rattle.qh_board.specs.steps.{Shown.mark_word, Views.HasRecord, Views.blocks_in, Views.blocks_of, Views.kids, Views.marked, Views.view_of}
use Rattle.qh_model.proofs.Common.{Bool, Can, Event, List, Machine, None, Option, Some, [], after, ap, arith, dite, get_elem?, get_or-set_same, length-set, put}
use Rattle.qh_model.proofs.Common.{refl, set, slice_index, some, sym, ℕ, ℕ_discrete, ◌%◌, ◌++◌, ◌+◌, ◌==◌, ◌^◌, ◌∙◌, ◌∷◌, ◌≡◌, ◌≤◌}
use Rattle.qh_model.proofs.board.Updates.{put_else, put_here}
use Rattle.qh_model.specs.contract.BoardMachine.{Acts}
use mathlib.Core.Option.{none}
use Rattle.qh_model.specs.contract.BoardMachine as machine
use Rattle.qh_board.specs.declared.view.Mark as ended

-- the number that a pass adds to the word of its mark
abbrev added : ended.Mark → ℕ
added kind = mark_word (mark_of (Some kind))

tells_kind : (kind : ended.Mark) → (added kind ≡ 1 → kind ≡ Left) × (added kind ≡ 2 → kind ≡ GaveUp) × (added kind ≤ 2)
tells_kind = grind arith

module _ {S X : Type 0} (right : S → (ℕ → Type 0) → X → Type 0) (key : Setup S) where
  -- the event by which the pass ends, with the slots that it carries returned
  record Ending (kind : ended.Mark) (r : Record) (c : List (ℕ × Option X)) (s : State (Option X) (View S)) (m : Machine) : Type 0 where
    event : Event
    is : event_by r.number (ending_of kind r.node) ≡ event
    by : maker event ≡ r.number
    can : Can key.blocks key.passes m event
    ends : after key.blocks key.passes m event ≡ record m { mark = put m.mark r.number (mark_of (Some kind)) }
    slots : SlotsOf right key m.node (laid s.homes c)

  end_step : (kind : ended.Mark) (s : State (Option X) (View S)) (R : Kept right key s) (id : ℕ) (c : List (ℕ × Option X)) (r : Record)
      → get_elem? s.views id ≡ some (view_of key (r ∷ [])) → Ending kind r c s R.machine
      → KeptAfter right key s id (ended_as kind r) (set s.words (key.blocks + 1 + r.number) (added kind)) (laid s.homes c)
  end_step kind s R id c r at E = let m = R.machine in let w = r.number in let a = (R.views id (view_of key (r ∷ [])) at).0 in
      let k : ℕ = key.blocks + 1 + w in let x : ℕ = added kind in let mark = mark_of (Some kind) in let inside = a.inside in
      let m' : Machine = record m { mark = put m.mark w mark } in
      steps right key s R E.event m' E.ends id r (ended_as kind r) (set s.words k x) (laid s.homes c) at E.can (record {
        wide = length-set s.words k x ∙ R.wide;
        deep = length_laid s.homes c ∙ R.deep;
        claims = word_else s.words k x 0 (λ q. omega arith) ∙ R.claims;
        arrivals = λ j lo hi. word_else s.words k x j (λ q. omega arith) ∙ R.arrivals j lo hi;
        out = word_else s.words k x key.blocks (λ q. omega arith) ∙ R.out;
        marks = λ p h. dite (ℕ_discrete p w)
            (λ q. ap (λ (z : ℕ). slice_index (set s.words k x) (key.blocks + 1 + z)) q
            ∙ (get_or-set_same s.words k x 0 (let z = R.wide in omega arith) ∙ sym (ap mark_word (ap (put m.mark w mark) q ∙ put_here m.mark w mark))))
            (λ ne. word_else s.words k x (key.blocks + 1 + p) (λ q. ne (omega arith))
            ∙ (R.marks p h ∙ sym (ap mark_word (put_else m.mark w mark p ne))));
        slots = E.slots;
      }) (record {
        same = refl;
        by = E.by;
        made = made_more w r.events (ending_of kind r.node) ∙ ap (λ (z : Event). made r ++ z ∷ []) E.is;
        mine = record { inside = a.inside; over = a.over; mark = put_here m.mark w mark; seen = a.seen; holds = a.holds; alone = a.alone };
        others = others_keep right key m m' w (omega arith) (λ v ne. (refl, put_else m.mark w mark v ne)) (λ v j ne q. q) (λ v j ne q. q);
        drawn = refl;
        got = λ y. refl;
        joins = λ y lo hi. ap (λ (n : ℕ). times y r.joins + one_if (n == 2)) (sym (word_else s.words k x y (λ q. omega arith)));
        joins_inner = λ y h. refl;
      })

  end_allowed : (kind : ended.Mark) (k : Setup S) → k ≡ key → (slots id number : ℕ) (node : Option ℕ) (over : Bool) (me : Me (Option X) (View S))
      (c : List (ℕ × Option X)) → me.0.setup ≡ Some key → me.1 ≡ c → HasRecord me.0 number node over None
      → ((s : State (Option X) (View S)) (R : Kept right key s) → Agrees key.passes R.machine (seat_record me.0 number node over)
      → Acts key.passes R.machine number → Ending kind (seat_record me.0 number node over) c s R.machine)
      → Allows (Ruled right k) slots id me (key.blocks + 1 + number) (λ n. (n + added kind) % 2 ^ 64)
      (marked (step slots (key.blocks + 1 + number) (added kind) 0 none) me)
  end_allowed kind k same_key slots id number node over me c of bare has ending =
      let r : Record = seat_record me.0 number node over in let p = seated right key me.0 number node over of has in let tell = tells_kind kind in
      let i : ℕ = key.blocks + 1 + number in let told = marked (step slots i (added kind) 0 none) in
      allowed_at right key k same_key slots id i (λ n. (n + added kind) % 2 ^ 64) told me (view_of key (r ∷ []), c) (λ z. (p z, bare z)) (λ s R deep at small.
      let a = (R.views id (view_of key (r ∷ [])) at).0 in let found : slice_index s.words i ≡ 0 = R.marks number a.inside ∙ ap mark_word a.mark in
      let few = tell.2 in
      all_home right key id i (λ n. (n + added kind) % 2 ^ 64) (told (view_of key (r ∷ []), c)) c (ended_as kind r) s (added kind) (omega arith)
      (end_step kind s R id c r at (ending s R a (a.inside, a.mark)))
      (found, refl, (λ e. ap (λ z. view_of key (ended_as z r ∷ [])) (tell.0 e)), (λ e. ap (λ z. view_of key (ended_as z r ∷ [])) (tell.1 e))))

  pub leave_allowed : (k : Setup S) → k ≡ key → (slots id number : ℕ) (over : Bool) (me : Me (Option X) (View S))
      → me.0.setup ≡ Some key → me.1 ≡ [] → HasRecord me.0 number None over None
      → Allows (Ruled right k) slots id me (key.blocks + 1 + number) (λ n. (n + 1) % 2 ^ 64) (marked (step slots (key.blocks + 1 + number) 1 0 none) me)
  unfolding laid
  leave_allowed k same_key slots id number over me of bare has =
      end_allowed Left k same_key slots id number None over me [] of bare has (λ s R a acts. record {
        event = machine.leave number;
        is = refl;
        by = refl;
        can = (acts, nothing right key R.machine (seat_record me.0 number None over) a refl);
        ends = refl;
        slots = R.slots;
      })

  pub give_up_allowed : (k : Setup S) → k ≡ key → (slots id i number : ℕ) (over : Bool) (me : Me (Option X) (View S))
      → me.0.setup ≡ Some key → me.1 ≡ (i, None) ∷ kids (blocks_of me.0) i → HasRecord me.0 number (Some i) over None
      → Allows (Ruled right k) slots id me (key.blocks + 1 + number) (λ n. (n + 2) % 2 ^ 64) (marked (step slots (key.blocks + 1 + number) 2 0 none) me)
  give_up_allowed k same_key slots id i number over me of bare has =
      let full : me.1 ≡ load right key i None = bare ∙ ap (λ (z : Option (Setup S)). (i, None) ∷ kids {X = X} (blocks_in z) i) of in
      end_allowed GaveUp k same_key slots id number (Some i) over me (load right key i None) of full has (λ s R a acts. record {
        event = machine.give_up number i;
        is = refl;
        by = refl;
        can = (acts, a.holds i refl);
        ends = refl;
        slots = slots_laid right key s R i number None (a.holds i refl);
      })
