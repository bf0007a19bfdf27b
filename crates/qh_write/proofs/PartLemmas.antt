-- A text of a list, made part by part.
use Rattle.std.proofs.Common.{◌≡◌, ◌∙◌, ℕ, suc, ◌+◌, ◌*◌, ◌<◌, ◌≤◌, List, [], ◌∷◌, ◌++◌, length, arith, ap, ap₂, sym, subst, take, drop, get_or, Ok, Result}
use Rattle.std.proofs.{Common.Vec, Common.Global, Common.take-append-drop, Common.length-drop, Math.ListN.get_or-map, Math.ListN.length-map}
use Rattle.std.{proofs.lemmas.List.drop-drop, specs.Prelude.IfOk, specs.declared.alloc.AllocError.AllocError}
use Rattle.qh_write.specs.{contract.Pieces.bytes_of, steps.Parts.AreParts}

module _ {A : Type 0} (F : List A → List ℕ) (none : F [] ≡ []) (joined : (xs ys : List A) → F (xs ++ ys) ≡ F xs ++ F ys) (size : ℕ) where
  -- the elements after the first part are cut into the following parts
  further : (i : ℕ) (xs : List A) → drop (suc i * size) xs ≡ drop (i * size) (drop size xs)
  further i xs =
      let e : suc i * size ≡ size + i * size = omega arith in
      ap (λ n. drop n xs) e ∙ sym (drop-drop (i * size) size xs)

  -- the concatenated pieces of the parts are the text of the whole list
  in_a_row : (pieces : List (Vec ℕ Global)) (xs : List A)
      → ((i : ℕ) (d : Vec ℕ Global) → i < length pieces → (get_or pieces i d).items ≡ F (take size (drop (i * size) xs)))
      → length xs ≤ length pieces * size → bytes_of pieces ≡ F xs
  in_a_row [] [] each all = sym none
  in_a_row [] (x ∷ xs) each all = absurd (omega arith)
  in_a_row (p ∷ ps) xs each all =
      let start : 0 * size ≡ 0 = omega arith in
      let first : p.items ≡ F (take size xs) = subst (λ n. p.items ≡ F (take size (drop n xs))) start (each 0 p (omega arith)) in
      let rest : bytes_of ps ≡ F (drop size xs) =
      in_a_row ps (drop size xs) (λ i d l. each (suc i) d (omega arith) ∙ ap (λ ys. F (take size ys)) (further i xs)) (omega (arith, length-drop size xs)) in
      ap₂ (λ (a b : List ℕ). a ++ b) first rest ∙ sym (joined (take size xs) (drop size xs)) ∙ ap F (take-append-drop size xs)

  -- the same if the parts are made one by one
  pub parts_of_list : (parts : List (Result (Vec ℕ Global) AllocError)) (xs : List A)
      → ((i : ℕ) (d : Result (Vec ℕ Global) AllocError) → i < length parts → IfOk (get_or parts i d) (λ t. t.items ≡ F (take size (drop (i * size) xs))))
      → length xs ≤ length parts * size → AreParts parts (F xs)
  parts_of_list parts xs each all pieces is = in_a_row pieces xs piece (omega (arith, all, ap (λ n. n * size) same))
    where
      made : Vec ℕ Global → Result (Vec ℕ Global) AllocError
      made v = Ok v

      same : length parts ≡ length pieces
      same = ap length (sym is) ∙ length-map pieces made

      piece : (i : ℕ) (d : Vec ℕ Global) → i < length pieces → (get_or pieces i d).items ≡ F (take size (drop (i * size) xs))
      piece i d l =
          let there : get_or parts i (made d) ≡ made (get_or pieces i d) =
          ap (λ (ps : List (Result (Vec ℕ Global) AllocError)). get_or ps i (made d)) (sym is) ∙ get_or-map made pieces i d in
          rw there at (each i (made d) (omega (arith, same, l)))
