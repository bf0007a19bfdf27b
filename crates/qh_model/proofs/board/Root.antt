-- The states in which the root is published.
use Rattle.qh_model.proofs.Common.{◌≡◌, ◌≢◌, inl, inr, ℕ, zero, suc, ◌+◌, ◌*◌, ◌<◌, ◌≤◌, sym, refl, ap, ◌∙◌, subst, arith, dite, ℕ_discrete, dec_le, Place}
use Rattle.qh_model.proofs.Common.{untouched, held, parked, used, published, Machine, parent, sibling, settled}
use Rattle.qh_model.proofs.board.{Grown.Consistent, Grown.ranged, Siblings.ArePair, Siblings.near, Siblings.of_pair, Siblings.sibling_even}

module _ (B W : ℕ) (some : 0 < B) where
  -- if the root is published, each other node is used
  all_used : (m : Machine) → Consistent B W m → m.node 1 ≡ published → (n i : ℕ) → i < n → 1 < i → i < 2 * B → m.node i ≡ used
  all_used m g pub_ zero i h a b = absurd (omega arith)
  all_used m g pub_ (suc n) i h a b = let near_ = near i a in let up_ = near_.above in let low = near_.positive in
      let done : m.node (parent i) ≢ untouched =
      dite (ℕ_discrete (parent i) 1) (λ e q. let f : published ≡ untouched = sym pub_ ∙ (ap m.node (sym e) ∙ q) in cc)
      (λ ne q. let f : used ≡ untouched = sym (all_used m g pub_ n (parent i) (omega arith) (omega arith) (omega arith)) ∙ q in cc) in
      of_pair m.node used i near_.both (g.below (parent i) near_.positive (omega arith) done)

  pub published_only : (m : Machine) → Consistent B W m → m.node 1 ≡ published → (B ≤ m.claims) × ((i w : ℕ) → m.node i ≢ held w)
  published_only m g pub_ = (
    dite (dec_le B m.claims) (λ h. h) (λ nh. absurd (fresh_leaf nh)),
    λ i w e. let r = ranged B W some m g i (λ q. let f : held w ≡ untouched = sym e ∙ q in cc) in
        dite (ℕ_discrete i 1) (λ q. let f : held w ≡ published = sym e ∙ (ap m.node q ∙ pub_) in cc)
        (λ ne. let f : held w ≡ used = sym e ∙ all_used m g pub_ (i + 1) i (omega arith) (omega arith) r.1 in cc),
  )
    where
      fresh_leaf : (B ≤ m.claims → ⊥) → ⊥
      fresh_leaf nh = let i : ℕ = B + m.claims in let e = g.late i (omega arith) in
          dite (ℕ_discrete i 1) (λ q. let f : published ≡ untouched = sym pub_ ∙ (ap m.node (sym q) ∙ e) in cc)
          (λ ne. let f : used ≡ untouched = sym (all_used m g pub_ (i + 1) i (omega arith) (omega arith) (omega arith)) ∙ e in cc)

  -- an inner node is reached if both its children are delivered
  pub both_up : (m : Machine) → Consistent B W m → (i : ℕ) → 0 < i → settled (m.node (2 * i)) ≡ 1 → settled (m.node (2 * i + 1)) ≡ 1 → m.node i ≢ untouched
  both_up m g i lo a b = by_place (m.node (2 * i)) refl (m.node (2 * i + 1)) refl a b
    where
      up : (k : ℕ) → parent k ≡ i → k ≢ 1 → m.node k ≡ used → m.node i ≢ untouched
      up k half n e = subst (λ (j : ℕ). m.node j ≢ untouched) half (g.up k n e)

      sib : sibling (2 * i) ≡ 2 * i + 1
      sib = sibling_even (2 * i) (omega arith)

      by_place : (x : Place) → m.node (2 * i) ≡ x → (y : Place) → m.node (2 * i + 1) ≡ y → settled (m.node (2 * i)) ≡ 1
          → settled (m.node (2 * i + 1)) ≡ 1 → m.node i ≢ untouched
      by_place untouched ex y ey p q = absurd (omega (arith, ap settled ex))
      by_place (held w) ex y ey p q = absurd (omega (arith, ap settled ex))
      by_place used ex y ey p q = up (2 * i) (omega arith) (λ q. omega arith) ex
      by_place published ex y ey p q = let t = g.top (2 * i) ex in absurd (omega arith)
      by_place parked ex untouched ey p q = absurd (omega (arith, ap settled ey))
      by_place parked ex (held w) ey p q = absurd (omega (arith, ap settled ey))
      by_place parked ex used ey p q = up (2 * i + 1) (omega arith) (λ q. omega arith) ey
      by_place parked ex published ey p q = let t = g.top (2 * i + 1) ey in absurd (omega arith)
      by_place parked ex parked ey p q = absurd (g.pair (2 * i) ex (ap m.node sib ∙ ey))

  -- if no pass holds a node, a node that is not untouched was delivered
  delivered : (m : Machine) → ((i w : ℕ) → m.node i ≢ held w) → (x : Place) (i : ℕ) → m.node i ≡ x → m.node i ≢ untouched → settled (m.node i) ≡ 1
  delivered = grind arith

  -- if all blocks are claimed and no pass holds a node, each node was delivered; the proof goes from the leaves up
  all_reached : (m : Machine) → Consistent B W m → B ≤ m.claims → ((i w : ℕ) → m.node i ≢ held w) → (n i : ℕ)
      → 2 * B ≤ i + n → 0 < i → i < 2 * B → m.node i ≢ untouched
  all_reached m g full idle_ zero i h a b = absurd (omega arith)
  all_reached m g full idle_ (suc n) i h a b = dite (dec_le B i) (λ leaf. g.early i leaf b (omega arith)) (λ inner. both_up m g i a
      (delivered m idle_ (m.node (2 * i)) (2 * i) refl (all_reached m g full idle_ n (2 * i) (omega arith) (omega arith) (omega arith)))
      (delivered m idle_ (m.node (2 * i + 1)) (2 * i + 1) refl (all_reached m g full idle_ n (2 * i + 1) (omega arith) (omega arith) (omega arith))))

  pub done_is_published : (m : Machine) → Consistent B W m → B ≤ m.claims → ((i w : ℕ) → m.node i ≢ held w) → m.node 1 ≡ published
  done_is_published m g full idle_ = by_place (m.node 1) refl
    where
      by_place : (x : Place) → m.node 1 ≡ x → m.node 1 ≡ published
      by_place untouched e = absurd (all_reached m g full idle_ (2 * B) 1 (omega arith) (omega arith) (omega arith) e)
      by_place (held w) e = absurd (idle_ 1 w e)
      by_place parked e = absurd (g.root_parked e)
      by_place used e = absurd (g.root_used e)
      by_place published e = e

  -- of the children of a parked node's parent, only that node was delivered
  pub parked_alone : (m : Machine) → Consistent B W m → (i : ℕ) → m.node i ≡ parked
      → (1 < i) × (i < 2 * B) × (settled (m.node (2 * parent i)) + settled (m.node (2 * parent i + 1)) ≡ 1)
  parked_alone m g i e = let r = ranged B W some m g i (λ q. let f : parked ≡ untouched = sym e ∙ q in cc) in
      let lo : 1 < i = dite (ℕ_discrete i 1) (λ q. absurd (g.root_parked (ap m.node (sym q) ∙ e))) (λ ne. omega arith) in
      (lo, r.1, sum (near i lo).both (sib lo (m.node (sibling i)) refl))
    where
      sum : ArePair i → settled (m.node (sibling i)) ≡ 0 → settled (m.node (2 * parent i)) + settled (m.node (2 * parent i + 1)) ≡ 1
      sum (inl t) z = let a = ap (λ (k : ℕ). settled (m.node k)) t.0 in let b = ap (λ (k : ℕ). settled (m.node k)) t.1 in let c = ap settled e in omega arith
      sum (inr t) z = let a = ap (λ (k : ℕ). settled (m.node k)) t.0 in let b = ap (λ (k : ℕ). settled (m.node k)) t.1 in let c = ap settled e in omega arith

      sib : 1 < i → (x : Place) → m.node (sibling i) ≡ x → settled (m.node (sibling i)) ≡ 0
      sib lo untouched q = ap settled q
      sib lo (held w) q = ap settled q
      sib lo parked q = absurd (g.pair i e q)
      sib lo used q = let n = near i lo in let above = n.above_sibling in let pos = n.positive in
          let r = ranged B W some m g i (λ q. let f : parked ≡ untouched = sym e ∙ q in cc) in
          let up_ : m.node (parent i) ≢ untouched =
          subst (λ (k : ℕ). m.node k ≢ untouched) n.same (g.up (sibling i) (λ z. omega arith) q) in
          let f : parked ≡ used = sym e ∙ of_pair m.node used i n.both (g.below (parent i) pos (omega arith) up_) in cc
      sib lo published q = let n = near i lo in let above = n.above_sibling in let pos = n.positive in let t = g.top (sibling i) q in absurd (omega arith)

  -- both children of a used node's parent are used
  pub used_both : (m : Machine) → Consistent B W m → (i : ℕ) → m.node i ≡ used
      → (1 < i) × (i < 2 * B) × (settled (m.node (2 * parent i)) + settled (m.node (2 * parent i + 1)) ≡ 2)
  used_both m g i e = let r = ranged B W some m g i (λ q. let f : used ≡ untouched = sym e ∙ q in cc) in
      let lo : 1 < i = dite (ℕ_discrete i 1) (λ q. absurd (g.root_used (ap m.node (sym q) ∙ e))) (λ ne. omega arith) in
      let pos = (near i lo).positive in
      let k = g.below (parent i) pos (omega arith) (g.up i (λ q. omega arith) e) in
      let a = ap settled k.0 in let b = ap settled k.1 in (lo, r.1, omega arith)
