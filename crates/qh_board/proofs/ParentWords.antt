-- The word of a parent: the number of its children that are settled.
use Rattle.qh_model.proofs.Common.{◌≡◌, ◌≢◌, inl, inr, ℕ, ◌+◌, ◌*◌, ◌<◌, List, length, set, sym, refl, ap, ◌∙◌, subst, arith, get_or-set_same, slice_index}
use Rattle.qh_model.proofs.Common.{dite, ℕ_discrete, Place, untouched, held, parked, used, published, Machine, settled, sibling, parent}
use Rattle.qh_model.proofs.board.{Grown.Consistent, Grown.ranged, Siblings.ArePair, Siblings.near}
use Rattle.qh_board.specs.declared.view.Setup.{Setup}
use Rattle.qh_board.proofs.Steps.{word_else}

module _ {S X : Type 0} (right : S → (ℕ → Type 0) → X → Type 0) (key : Setup S) where
  -- the words after an arrival at the parent of i
  pub arrivals_up : (f g : ℕ → Place) (words : List ℕ) (i : ℕ) → 1 < i → i < 2 * key.blocks
      → length words ≡ key.blocks + 1 + key.passes → settled (g i) ≡ settled (f i) + 1
      → ((k : ℕ) → k ≢ i → settled (g k) ≡ settled (f k))
      → ((j : ℕ) → 0 < j → j < key.blocks → slice_index words j ≡ settled (f (2 * j)) + settled (f (2 * j + 1)))
      → (j : ℕ) → 0 < j → j < key.blocks
      → slice_index (set words (parent i) (slice_index words (parent i) + 1)) j
      ≡ settled (g (2 * j)) + settled (g (2 * j + 1))
  arrivals_up f g words i lo hi wide up_ same_ old j a b = dite (ℕ_discrete j (parent i))
      (λ e. subst Counted (sym e) (at_parent (near i lo).both (old (parent i) (near i lo).positive (omega arith))))
      (λ ne. let t = old j a b in let u = word_else words (parent i) (slice_index words (parent i) + 1) j ne in
      let p = same_ (2 * j) (λ e. ne (omega arith)) in let q = same_ (2 * j + 1) (λ e. ne (omega arith)) in omega arith)
    where
      Counted : ℕ → Type 0
      Counted k = slice_index (set words (parent i) (slice_index words (parent i) + 1)) k ≡ settled (g (2 * k)) + settled (g (2 * k + 1))

      here : slice_index (set words (parent i) (slice_index words (parent i) + 1)) (parent i) ≡ slice_index words (parent i) + 1
      here = get_or-set_same words (parent i) (slice_index words (parent i) + 1) 0 (omega arith)

      at_parent : ArePair i → slice_index words (parent i) ≡ settled (f (2 * parent i)) + settled (f (2 * parent i + 1)) → Counted (parent i)
      at_parent (inl t) before = let now = ap (λ (k : ℕ). settled (g k)) t.0 in let was = ap (λ (k : ℕ). settled (f k)) t.0 in
          let q = same_ (2 * parent i + 1) (λ z. omega arith) in let h = here in let u = up_ in omega arith
      at_parent (inr t) before = let now = ap (λ (k : ℕ). settled (g k)) t.1 in let was = ap (λ (k : ℕ). settled (f k)) t.1 in
          let q = same_ (2 * parent i) (λ z. omega arith) in let h = here in let u = up_ in omega arith

  -- the state of the sibling, according to the word of the parent
  pub sibling_is : (m : Machine) (g : Consistent key.blocks key.passes m) (some_blocks : 0 < key.blocks) (i w : ℕ)
      → m.node i ≡ held w → 1 < i → (n : ℕ) → n ≡ settled (m.node (2 * parent i)) + settled (m.node (2 * parent i + 1))
      → (n ≡ 0 → m.node (sibling i) ≢ parked) × (n ≢ 0 → (m.node (sibling i) ≡ parked) × (n ≡ 1))
  sibling_is m g some_blocks i w mine lo n is = let n_ = near i lo in let mine0 : settled (m.node i) ≡ 0 = ap settled mine in
      let one : n ≡ settled (m.node (sibling i)) = elim n_.both [
        | inl t ↦ (let a = ap (λ (k : ℕ). settled (m.node k)) t.0 in let b = ap (λ (k : ℕ). settled (m.node k)) t.1 in omega arith)
        | inr t ↦ (let a = ap (λ (k : ℕ). settled (m.node k)) t.0 in let b = ap (λ (k : ℕ). settled (m.node k)) t.1 in omega arith)
      ] in by_place (m.node (sibling i)) refl one
    where
      not_used : m.node (sibling i) ≡ used → ⊥
      not_used e = let n_ = near i lo in let q = n_.above_sibling in let pos = n_.positive in
          let up_ : m.node (parent i) ≢ untouched =
          subst (λ (k : ℕ). m.node k ≢ untouched) n_.same (g.up (sibling i) (λ z. omega arith) e) in
          let r = ranged key.blocks key.passes some_blocks m g i (λ e. let f : held w ≡ untouched = sym mine ∙ e in cc) in
          let k = g.below (parent i) n_.positive (omega arith) up_ in elim n_.both [
            | inl t ↦ (let f : held w ≡ used = sym mine ∙ (ap m.node (sym t.0) ∙ k.0) in cc)
            | inr t ↦ (let f : held w ≡ used = sym mine ∙ (ap m.node (sym t.1) ∙ k.1) in cc)
          ]

      by_place : (x : Place) → m.node (sibling i) ≡ x → n ≡ settled (m.node (sibling i))
          → (n ≡ 0 → m.node (sibling i) ≢ parked) × (n ≢ 0 → (m.node (sibling i) ≡ parked) × (n ≡ 1))
      by_place untouched e o = ((λ z q. let f : untouched ≡ parked = sym e ∙ q in cc), λ nz. absurd (nz (o ∙ ap settled e)))
      by_place (held v) e o = ((λ z q. let f : held v ≡ parked = sym e ∙ q in cc), λ nz. absurd (nz (o ∙ ap settled e)))
      by_place parked e o = ((λ z q. let f : 0 ≡ 1 = sym z ∙ (o ∙ ap settled e) in absurd (omega arith)), λ nz. (e, o ∙ ap settled e))
      by_place used e o = absurd (not_used e)
      by_place published e o = let t = g.top (sibling i) e in let q = (near i lo).above_sibling in let pos = (near i lo).positive in absurd (omega arith)
