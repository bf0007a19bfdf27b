-- The tokens of a board that closes: the records of all passes, and the value of the root.
use Rattle.atomic_table.specs.{Seated.TableId, Table.Final, Table.Seen}
use Rattle.qh_board.proofs.LastStates.{Last, closes}
use Rattle.qh_board.specs.contract.{Closings.claims_made, Closings.mark_of_word, Closings.tokens_of, Tokens.Token}
use Rattle.qh_board.specs.declared.view.{Record.Record, Setup.Setup, View.View}
use Rattle.qh_board.specs.steps.{Rule.Each, Rule.Ruled, Rule.claims_of, Rule.named, Rule.one_if, Rule.weigh, Seats.token_of, Views.HasEnded, Views.record_of}
use Rattle.qh_model.proofs.Common.{All, Bool, IfSome, InSpan, IsSome, List, None, Option, Some, [], ap, append_assoc, arith, cond, dite, false, get_elem?}
use Rattle.qh_model.proofs.Common.{length, map, map-append, ne_eqb, refl, slice_index, some, some-injective, some-ne-none, subst, suc, sum_by, sym, true, zero}
use Rattle.qh_model.proofs.Common.{ℕ, ℕ_discrete, ◌++◌, ◌+◌, ◌==◌, ◌↔◌, ◌∙◌, ◌∷◌, ◌≡◌, ◌≢◌, ◌≤◌}
use Rattle.std.proofs.lemmas.List.Recursion.{is_count_by, is_sum_by}
use Rattle.qh_board.specs.declared.view.Mark as ended
use Rattle.qh_board.specs.declared.view.Mark.TheVariants as marks

-- ---- the records of tokens
module _ {S : Type 0} where
  -- the records of the passes
  abbrev pub records_of : List (Token S) → List Record
  records_of ts = map (λ t. t.pass) ts

  -- the view of a pass that has ended has its record alone, with its mark
  pub one_record : (v : View S) (number : ℕ) (over : Bool) (mark : ended.Mark) → HasEnded v number over mark
      → (v.records ≡ record_of v ∷ []) × ((record_of v).mark ≡ Some mark)
  one_record = grind arith

  -- the records after the last token was popped
  pub popped : (ts m : List (Token S)) (id : TableId) (v : View S) (t : Token S) → ts ≡ m ++ t ∷ [] → token_of id v ≡ t
      → v.records ≡ record_of v ∷ [] → records_of ts ≡ records_of m ++ v.records
  popped = grind (arith, map-append)

  -- the same after more tokens were popped
  pub popped_more : (all ts m : List (Token S)) (id : TableId) (v : View S) (t : Token S) (rs : List Record)
      → records_of all ≡ records_of ts ++ rs → ts ≡ m ++ t ∷ [] → token_of id v ≡ t → v.records ≡ record_of v ∷ []
      → records_of all ≡ records_of m ++ (v.records ++ rs)
  popped_more all ts m id v t rs h e shown one = h ∙ (ap (λ z. z ++ rs) (popped ts m id v t e shown one) ∙ append_assoc (records_of m) v.records rs)

  -- P of the only record
  pub each_one : (P : Record → Type 0) (v : View S) → v.records ≡ record_of v ∷ [] → P (record_of v) → Each P v.records
  each_one P v one h = subst (Each P) (sym one) (h, tt)

  -- the number of records is that of the tokens
  pub count_records : (ts : List (Token S)) → weigh (λ r. 1) (records_of ts) ≡ length ts
  count_records [] = refl
  count_records (t ∷ ts) = let r = count_records ts in omega arith

  -- the number of claims in the records
  pub claims_by : (ts : List (Token S)) → weigh claims_of (records_of ts) ≡ sum_by claims_made ts
  claims_by ts = is_sum_by (λ (xs : List (Token S)). weigh claims_of (records_of xs)) claims_made refl (λ t xs. refl) ts

  -- the number of records of pass w
  pub named_by : (w : ℕ) (ts : List (Token S)) → weigh (named w) (records_of ts) ≡ tokens_of w ts
  named_by w ts = is_count_by (λ (xs : List (Token S)). weigh (named w) (records_of xs)) (λ t. t.pass.number == w) refl
      (λ t xs. let n = weigh (named w) (records_of xs) in
      elim (t.pass.number == w) as (λ b. one_if b + n ≡ cond b (1 + n) n) [ true ↦ refl | false ↦ (omega arith) ]) ts

  -- P of the record of each token
  pub of_records : (P : Record → Type 0) (ts : List (Token S)) → Each P (records_of ts) → All (λ t. P t.pass) ts
  of_records P [] e k d h = absurd (omega arith)
  of_records P (t ∷ ts) e zero d h = e.0
  of_records P (t ∷ ts) e (suc k) d h = of_records P ts e.1 k d (omega arith)

  records_left : (ts : List (Token S)) → All (λ t. t.pass.mark ≡ Some marks.Left) ts → Each (λ r. r.mark ≡ Some marks.Left) (records_of ts)
  records_left [] h = tt
  records_left (t ∷ ts) h = (h 0 t (omega arith), records_left ts (λ k d lt. h (suc k) d (omega arith)))

-- ---- the words
pub other_mark : (n : ℕ) → n ≢ 1 → mark_of_word n ≡ marks.GaveUp
other_mark n ne = rw (ne_eqb n 1 ne) refl

-- the element at a position of a list
pub at_get : (l : List ℕ) (i a : ℕ) → get_elem? l i ≡ some a → slice_index l i ≡ a
at_get [] i a e = absurd (some-ne-none a (sym e))
at_get (x ∷ xs) zero a e = some-injective x a e
at_get (x ∷ xs) (suc i) a e = at_get xs i a e

-- ---- the last state, by the tokens
module _ {S X : Type 0} (right : S → (ℕ → Type 0) → X → Type 0) (key : Setup S) where
  pub last_of : (k : Setup S) → k ≡ key → (id : ℕ) (v : View S) (words : List ℕ) (xs : List (Option X)) → Final (Seen (Ruled right k) id v) words xs
      → (ts : List (Token S)) → records_of ts ≡ v.records → length ts ≡ key.passes → Each (λ r. r.mark ≢ None) v.records
      → Last right key words xs (records_of ts)
  last_of k same id v words xs f ts are all over = subst (Last right key words xs) (sym are)
      (closes right key id v words xs (subst (λ (z : Setup S). Final (Seen (Ruled right z) id v) words xs) same f)
      (ap (weigh (λ r. 1)) (sym are) ∙ (count_records ts ∙ all)) over)

  -- the value of the root
  pub root_told : (words : List ℕ) (xs : List (Option X)) (ts : List (Token S))
      → Last right key words xs (records_of ts) → (claims n : ℕ) (value root : Option X) → slice_index words 0 ≡ claims
      → slice_index words key.blocks ≡ n → get_elem? xs 1 ≡ some value
      → (n ≡ 1 → root ≡ value) → (n ≢ 1 → root ≡ None)
      → (IsSome root ↔ ((key.blocks ≤ claims) × All (λ t. t.pass.mark ≡ Some marks.Left) ts))
      × IfSome root (λ x. right key.spans (InSpan key.blocks 1) x)
  root_told words xs ts L claims n value root c e at hit miss = dite (ℕ_discrete n 1)
      (λ one. let u = L.out (e ∙ one) in let same : value ≡ Some u.0 = some-injective value (Some u.0) (sym at ∙ u.1) in let d = L.done (e ∙ one) in
      subst Right (sym (hit one ∙ same)) (
        ((λ _. (subst (λ (z : ℕ). key.blocks ≤ z) c d.0, of_records (λ r. r.mark ≡ Some marks.Left) ts d.1)), (λ _. refl)),
        u.2,
      ))
      (λ ne. subst Right (sym (miss ne)) (
        (
          (λ q. let f : false ≡ true = q in cc),
          (λ all. absurd (ne (sym e
              ∙ L.not_done (subst (λ (z : ℕ). key.blocks ≤ z) (sym c) all.0) (records_left ts all.1)))),
        ),
        tt,
      ))
    where
      Right : Option X → Type 0
      Right o = (IsSome o ↔ ((key.blocks ≤ claims) × All (λ t. t.pass.mark ≡ Some marks.Left) ts)) × IfSome o (λ x. right key.spans (InSpan key.blocks 1) x)
