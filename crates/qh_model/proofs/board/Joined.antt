-- The second arrival at a node keeps the invariant.
use Rattle.qh_model.proofs.Common.{◌≡◌, ◌≢◌, ◌⊎◌, inl, inr, ℕ, ◌+◌, ◌*◌, ◌<◌, sym, ap, ◌∙◌, subst, arith, dite, ℕ_discrete, Place, untouched, held, rules}
use Rattle.qh_model.proofs.Common.{parked, used, published, Machine, put, parent, sibling}
use Rattle.qh_model.specs.contract.BoardMachine.{Acts}
use Rattle.qh_model.proofs.board.Grown.{Consistent, place_dec, ranged}
use Rattle.qh_model.proofs.board.{Siblings.ArePair, Siblings.Near, Siblings.near, Siblings.of_pair, Updates.put_here, Updates.put_else}

-- the state of a node after the second arrival from the node i
pub data Cases (f : ℕ → Place) (w i j : ℕ) (y : Place) : Type 0 where
  same : j ≢ i → j ≢ sibling i → j ≢ parent i → f j ≡ y → Cases f w i j y
  spent : (j ≡ i) ⊎ (j ≡ sibling i) → used ≡ y → Cases f w i j y
  got : j ≡ parent i → held w ≡ y → Cases f w i j y

abbrev pub joined : (ℕ → Place) → ℕ → ℕ → ℕ → Place
joined f w i = put (put (put f i used) (sibling i) used) (parent i) (held w)

pub cases : (f : ℕ → Place) (w i j : ℕ) (y : Place) → joined f w i j ≡ y → Cases f w i j y
cases = search rules

module _ (B W : ℕ) (some : 0 < B) (m : Machine) (g : Consistent B W m) (w i : ℕ) (act : Acts W m w)
    (mine : m.node i ≡ held w) (not_root : i ≢ 1) (waits : m.node (sibling i) ≡ parked) where
  pub r_i : (0 < i) × (i < 2 * B)
  r_i = ranged B W some m g i (λ e. let f : held w ≡ untouched = sym mine ∙ e in cc)

  pub n_i : Near i
  n_i = near i (let r = r_i in omega arith)

  pub fresh : m.node (parent i) ≡ untouched
  fresh = grind (arith, place_dec, n_i, r_i, of_pair)

  pub at_i : joined m.node w i i ≡ used
  at_i = grind (arith, put_else, n_i, put_here)

  pub at_s : joined m.node w i (sibling i) ≡ used
  at_s = grind (arith, put_else, n_i, put_here)

  pub at_p : joined m.node w i (parent i) ≡ held w
  at_p = put_here (put (put m.node i used) (sibling i) used) (parent i) (held w)

  keeps : (j : ℕ) → j ≢ parent i → m.node j ≡ untouched → joined m.node w i j ≡ untouched
  keeps = grind arith

  uses : (j : ℕ) → m.node j ≡ used → joined m.node w i j ≡ used
  uses = grind (arith, put_else, fresh)

  grows : (j : ℕ) → m.node j ≢ untouched → joined m.node w i j ≢ untouched
  grows = grind arith

  pub joins : Consistent B W (record m { node = joined m.node w i })
  joins = record {
    late = λ j l. keeps j (λ e. let z = n_i.above in let f : held w ≡ untouched = sym mine ∙ g.late i (omega arith) in cc) (g.late j l);
    out = λ j l. keeps j (λ e. let z = n_i.above in let r = r_i in omega arith) (g.out j l);
    bottom = keeps 0 (λ e. let z = n_i.positive in omega arith) g.bottom;
    early = λ j a b c. grows j (g.early j a b c);
    who = λ j v e. who' j v (cases m.node w i j (held v) e);
    one = λ v j k a b. ones v j k (cases m.node w i j (held v) a) (cases m.node w i k (held v) b);
    below = λ j a b k. dite (ℕ_discrete j (parent i)) (λ e. children j e n_i.both)
        (λ ne. let t = g.below j a b (λ e. k (keeps j ne e)) in (uses (2 * j) t.0, uses (2 * j + 1) t.1));
    up = λ j ne e. ups j ne (cases m.node w i j used e);
    root_parked = λ e. only 1 parked (λ q. cc) (λ q. cc) g.root_parked (cases m.node w i 1 parked e);
    root_used = λ e. roots (cases m.node w i 1 used e);
    top = λ j e. tops j (cases m.node w i j published e);
    pair = λ j a b. pairs j (cases m.node w i j parked a) (cases m.node w i (sibling j) parked b);
  }
    where
      who' : (j v : ℕ) → Cases m.node w i j (held v) → v < W
      who' j v (same a b c t) = g.who j v t
      who' j v (spent a t) = absurd (cc)
      who' j v (got a t) = subst (λ (k : ℕ). k < W) (let z : w ≡ v = cc in z) act.0

      ones : (v j k : ℕ) → Cases m.node w i j (held v) → Cases m.node w i k (held v) → j ≡ k
      ones v j k (same a b c t) (same a' b' c' t') = g.one v j k t t'
      ones v j k (same a b c t) (spent a' t') = absurd (cc)
      ones v j k (same a b c t) (got a' t') = absurd (a (g.one v j i t (mine ∙ t')))
      ones v j k (spent a t) y = absurd (cc)
      ones v j k (got a t) (same a' b' c' t') = absurd (a' (g.one v k i t' (mine ∙ t)))
      ones v j k (got a t) (spent a' t') = absurd (cc)
      ones v j k (got a t) (got a' t') = a ∙ sym a'

      children : (j : ℕ) → j ≡ parent i → ArePair i → (joined m.node w i (2 * j) ≡ used) × (joined m.node w i (2 * j + 1) ≡ used)
      children j e (inl t) = (
        ap (λ (k : ℕ). joined m.node w i (2 * k)) e ∙ (ap (joined m.node w i) t.0 ∙ at_i),
        ap (λ (k : ℕ). joined m.node w i (2 * k + 1)) e ∙ (ap (joined m.node w i) t.1 ∙ at_s),
      )
      children j e (inr t) = (
        ap (λ (k : ℕ). joined m.node w i (2 * k)) e ∙ (ap (joined m.node w i) t.0 ∙ at_s),
        ap (λ (k : ℕ). joined m.node w i (2 * k + 1)) e ∙ (ap (joined m.node w i) t.1 ∙ at_i),
      )

      taken : (j : ℕ) → parent j ≡ parent i → joined m.node w i (parent j) ≢ untouched
      taken j e q = let f : held w ≡ untouched = sym at_p ∙ (ap (joined m.node w i) (sym e) ∙ q) in cc

      ups : (j : ℕ) → j ≢ 1 → Cases m.node w i j used → joined m.node w i (parent j) ≢ untouched
      ups j ne (same a b c t) = grows (parent j) (g.up j ne t)
      ups j ne (spent (inl a) t) = taken j (ap parent a)
      ups j ne (spent (inr a) t) = taken j (ap parent a ∙ n_i.same)
      ups j ne (got a t) = absurd (cc)

      only : (j : ℕ) (y : Place) → used ≢ y → held w ≢ y → m.node j ≢ y → Cases m.node w i j y → ⊥
      only j y a b c (same _ _ _ t) = c t
      only j y a b c (spent _ t) = a t
      only j y a b c (got _ t) = b t

      roots : Cases m.node w i 1 used → ⊥
      roots (same a b c t) = g.root_used t
      roots (spent (inl a) t) = not_root (sym a)
      roots (spent (inr a) t) = let z = n_i.above_sibling in let y = n_i.positive in omega arith
      roots (got a t) = cc

      tops : (j : ℕ) → Cases m.node w i j published → j ≡ 1
      tops j (same a b c t) = g.top j t
      tops j (spent a t) = absurd (cc)
      tops j (got a t) = absurd (cc)

      pairs : (j : ℕ) → Cases m.node w i j parked → Cases m.node w i (sibling j) parked → ⊥
      pairs j (same a b c t) (same a' b' c' t') = g.pair j t t'
      pairs j (same a b c t) (spent a' t') = cc
      pairs j (same a b c t) (got a' t') = cc
      pairs j (spent a t) y = cc
      pairs j (got a t) y = cc
