-- The slots that a pass carries, and their contents after they are returned.
use Rattle.atomic_table.proofs.Lists.{set_else, set_here}
use Rattle.atomic_table.specs.Table.{Act, Me, State, Valid, carried_after, chain, gives, homes_after, keeps, rest, stepped}
use Rattle.qh_board.proofs.Steps.{Homes, KeptAfter, SlotsOf, seat_record}
use Rattle.qh_board.specs.declared.view.{Record.Record, Setup.Setup, View.View}
use Rattle.qh_board.specs.steps.{Rule.Kept, Rule.SlotOf, Views.HasRecord, Views.blocks_of, Views.kids, Views.view_of}
use Rattle.qh_model.proofs.Common.{Bool, List, None, Option, Place, Some, [], ap, arith, dec_le, dite, false, get_elem?, held, length, length-set, nat_lt}
use Rattle.qh_model.proofs.Common.{nat_tests, refl, set, slice_index, some, subst, suc, sym, true, untouched, used, zero, ℕ, ℕ_discrete, ◌*◌, ◌+◌, ◌<◌, ◌∙◌}
use Rattle.qh_model.proofs.{Common.◌∷◌, Common.◌≡◌, Common.◌≢◌, Common.◌≤◌, board.Grown.ranged, board.Reached.reach_good}
use mathlib.Core.Option as maybe

module _ {A : Type 0} where
  -- each carried slot is returned
  pub give_all : List (ℕ × A) → Act A
  give_all [] = keeps
  give_all (y ∷ ys) = chain gives (give_all ys)

  unfoldable pub laid : List (maybe.Option A) → List (ℕ × A) → List (maybe.Option A)
  laid hs [] = hs
  laid hs (y ∷ ys) = laid (set hs y.0 (some y.1)) ys

  pub valid_all : (hs : List (maybe.Option A)) (c : List (ℕ × A)) → Valid hs c (give_all c)
  unfolding give_all
  valid_all hs [] = tt
  valid_all hs (y ∷ ys) = (tt, valid_all (set hs y.0 (some y.1)) ys)

  pub carried_all : (c : List (ℕ × A)) → carried_after c (give_all c) ≡ []
  unfolding give_all
  carried_all [] = refl
  carried_all (y ∷ ys) = carried_all ys

  pub homes_all : (hs : List (maybe.Option A)) (c : List (ℕ × A)) → homes_after hs c (give_all c) ≡ laid hs c
  unfolding give_all laid
  homes_all hs [] = refl
  homes_all hs (y ∷ ys) = homes_all (set hs y.0 (some y.1)) ys

  pub length_laid : (hs : List (maybe.Option A)) (c : List (ℕ × A)) → length (laid hs c) ≡ length hs
  unfolding laid
  length_laid hs [] = refl
  length_laid hs (y ∷ ys) = length_laid (set hs y.0 (some y.1)) ys ∙ length-set hs y.0 (some y.1)

  pub there_is : (l : List A) (j : ℕ) → j < length l → (h : A) × (get_elem? l j ≡ some h)
  there_is [] j h = absurd (omega arith)
  there_is (x ∷ xs) zero h = (x, refl)
  there_is (x ∷ xs) (suc j) h = there_is xs j (omega arith)

module _ {X : Type 0} where
  kids_in : (b i : ℕ) → i < b → kids {X = X} b i ≡ (2 * i, None) ∷ (2 * i + 1, None) ∷ []
  kids_in b i h = let t : nat_lt i b ≡ true = grind (arith, nat_tests) in rw t refl

  kids_out : (b i : ℕ) → b ≤ i → kids {X = X} b i ≡ []
  kids_out b i h = let t : nat_lt i b ≡ false = grind (arith, nat_tests) in rw t refl

module _ {S X : Type 0} (right : S → (ℕ → Type 0) → X → Type 0) (key : Setup S) where
  -- the slots of a pass at node i, after it has stored its value
  abbrev pub load : ℕ → Option X → List (ℕ × Option X)
  load i x = (i, x) ∷ kids key.blocks i

  -- the effect of a step that returns all carried slots
  pub all_home : (id i : ℕ) (f : ℕ → ℕ) (told : ℕ → Me (Option X) (View S) → Type 0) (c : List (ℕ × Option X)) (r : Record)
      (s : State (Option X) (View S)) (n : ℕ) → n ≡ f (slice_index s.words i)
      → KeptAfter right key s id r (set s.words i n) (laid s.homes c)
      → told (slice_index s.words i) (view_of key (r ∷ []), [])
      → (v : View S) × (a : Act (Option X)) × Valid s.homes c a × Kept right key (stepped s i (f (slice_index s.words i)) id c v a)
      × told (slice_index s.words i) (v, carried_after c a)
  all_home id i f told c r s n next kept is = (
    view_of key (r ∷ []),
    give_all c,
    valid_all s.homes c,
    subst (λ (z : ℕ × Homes X). KeptAfter right key s id r (set s.words i z.0) z.1)
        (λ k. (next k, sym (homes_all s.homes c) k)) kept,
    subst (λ (z : List (ℕ × Option X)). told (slice_index s.words i) (view_of key (r ∷ []), z)) (sym (carried_all c)) is,
  )

  laid_own : (hs : Homes X) (i : ℕ) (x : Option X) → 0 < i → i < length hs → get_elem? (laid hs (load i x)) i ≡ some (some x)
  unfolding laid
  laid_own = grind (arith, kids_out, set_here, kids_in, set_else)

  pub laid_else : (hs : Homes X) (i : ℕ) (x : Option X) (j : ℕ) → j ≢ i → (i < key.blocks → (j ≢ 2 * i) × (j ≢ 2 * i + 1))
      → get_elem? (laid hs (load i x)) j ≡ get_elem? hs j
  unfolding laid
  laid_else = grind (arith, kids_out, set_else, kids_in)

  -- the slots after the pass's own are returned
  pub slots_home : (s : State (Option X) (View S)) (R : Kept right key s) (i w : ℕ) (x : Option X)
      → R.machine.node i ≡ held w → (j : ℕ) → 0 < j → j < 2 * key.blocks
      → (h : maybe.Option (Option X)) × (get_elem? (laid s.homes (load i x)) j ≡ some h) × (j ≡ i → h ≡ some x)
      × (j ≢ i → SlotOf right key j (R.machine.node j) h)
  slots_home s R i w x mine j lo hi = let g = reach_good key.blocks key.passes R.some_blocks R.machine R.reached in
      let r = ranged key.blocks key.passes R.some_blocks R.machine g i (λ e. let f : held w ≡ untouched = sym mine ∙ e in cc) in let deep = R.deep in
      let usual : (i < key.blocks → (j ≢ 2 * i) × (j ≢ 2 * i + 1)) → j ≢ i
      → (h : maybe.Option (Option X)) × (get_elem? (laid s.homes (load i x)) j ≡ some h) × (j ≡ i → h ≡ some x)
      × (j ≢ i → SlotOf right key j (R.machine.node j) h)
      = λ far ne. let t = R.slots j lo hi in (t.0, laid_else s.homes i x j ne far ∙ t.1, (λ e. absurd (ne e)), λ _. t.2) in
      let kid : i < key.blocks → R.machine.node j ≡ used → j ≢ i
      → (h : maybe.Option (Option X)) × (get_elem? (laid s.homes (load i x)) j ≡ some h) × (j ≡ i → h ≡ some x)
      × (j ≢ i → SlotOf right key j (R.machine.node j) h)
      = λ low e ne. let t =
      there_is (laid s.homes (load i x)) j (let q = length_laid s.homes (load i x) in omega arith) in
      (t.0, t.1, (λ q. absurd (ne q)), λ _. subst (λ (p : Place). SlotOf right key j p t.0) (sym e) tt) in
      dite (ℕ_discrete j i)
      (λ e. (some x, ap (get_elem? (laid s.homes (load i x))) e ∙ laid_own s.homes i x r.0 (omega arith), (λ _. refl), λ ne. absurd (ne e)))
      (λ ne. dite (dec_le key.blocks i) (λ leaf. usual (λ l. absurd (omega arith)) ne)
      (λ inner. let below = g.below i r.0 (omega arith) (λ e. let f : held w ≡ untouched = sym mine ∙ e in cc) in
      dite (ℕ_discrete j (2 * i)) (λ e. kid (omega arith) (ap R.machine.node e ∙ below.0) ne)
      (λ a. dite (ℕ_discrete j (2 * i + 1)) (λ e. kid (omega arith) (ap R.machine.node e ∙ below.1) ne) (λ b. usual (λ _. (a, b)) ne))))

  -- and each is right: the slot of a held node may have any content
  pub slots_laid : (s : State (Option X) (View S)) (R : Kept right key s) (i w : ℕ) (x : Option X)
      → R.machine.node i ≡ held w → SlotsOf right key R.machine.node (laid s.homes (load i x))
  slots_laid s R i w x mine j lo hi = let t = slots_home s R i w x mine j lo hi in (
    t.0,
    t.1,
    dite (ℕ_discrete j i) (λ q. subst (λ (p : Place). SlotOf right key j p t.0) (sym (ap R.machine.node q ∙ mine)) tt) t.3,
  )

  -- the seat after the value is stored in the slot of its node
  pub filled : (before me : Me (Option X) (View S)) (i number : ℕ) (over : Bool) (x : X) → before.0.setup ≡ Some key
      → before.1 ≡ (i, None) ∷ kids (blocks_of before.0) i → HasRecord before.0 number (Some i) over None
      → me ≡ (before.0, (i, Some x) ∷ rest before.1)
      → me ≡ (view_of key (seat_record before.0 number (Some i) over ∷ []), load i (Some x))
  filled = grind arith
