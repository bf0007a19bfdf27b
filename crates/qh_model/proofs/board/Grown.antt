-- The invariant of every reachable state of the board, for each event except the second arrival.
use Rattle.qh_model.proofs.Common.{◌≡◌, ◌≢◌, ◌⊎◌, inl, inr, ⊎_elim, ℕ, ◌+◌, ◌*◌, ◌<◌, ◌≤◌, true, sym, ap, ◌∙◌, subst, arith, dite, ℕ_discrete}
use Rattle.qh_model.proofs.Common.{Place, untouched, held, parked, used, published, Machine, put, parent, sibling, claim_got, Can, after}
use Rattle.qh_model.specs.contract.BoardMachine.{start}
use Rattle.qh_model.proofs.board.{Siblings.near, Updates.put_here, Updates.put_else, Updates.at_put}

-- the claims and the nodes of B blocks and W passes
pub record Grown (B W claims : ℕ) (node : ℕ → Place) : Type 0 where
  pub late : (i : ℕ) → B + claims ≤ i → node i ≡ untouched
  pub out : (i : ℕ) → 2 * B ≤ i → node i ≡ untouched
  pub bottom : node 0 ≡ untouched
  pub early : (i : ℕ) → B ≤ i → i < 2 * B → i < B + claims → node i ≢ untouched
  pub who : (i w : ℕ) → node i ≡ held w → w < W
  pub one : (w i j : ℕ) → node i ≡ held w → node j ≡ held w → i ≡ j
  pub below : (i : ℕ) → 0 < i → i < B → node i ≢ untouched → (node (2 * i) ≡ used) × (node (2 * i + 1) ≡ used)
  pub up : (i : ℕ) → i ≢ 1 → node i ≡ used → node (parent i) ≢ untouched
  pub root_parked : node 1 ≢ parked
  pub root_used : node 1 ≢ used
  pub top : (i : ℕ) → node i ≡ published → i ≡ 1
  pub pair : (i : ℕ) → node i ≡ parked → node (sibling i) ≢ parked

abbrev pub Consistent : ℕ → ℕ → Machine → Type 0
Consistent B W m = Grown B W m.claims m.node

pub place_dec : (x : Place) → (x ≡ untouched) ⊎ (x ≢ untouched)
place_dec = grind arith

module _ (B W : ℕ) (some : 0 < B) where
  pub ranged : (m : Machine) → Consistent B W m → (i : ℕ) → m.node i ≢ untouched → (0 < i) × (i < 2 * B)
  ranged = grind arith

  -- a node gets another value, neither value is untouched or used, and the children of its parent do not change
  pub changes : (m : Machine) → Consistent B W m → (i : ℕ) (x : Place) → m.node i ≢ untouched → m.node i ≢ used
      → x ≢ untouched → ((w : ℕ) → x ≢ held w) → x ≢ used
      → (i ≡ 1 → x ≢ parked) → (x ≡ published → i ≡ 1) → (x ≡ parked → m.node (sibling i) ≢ parked)
      → Consistent B W (record m { node = put m.node i x })
  changes m g i x h hu xu xh xn root pub_root lone =
      let r = ranged m g i h in
      let P : (j : ℕ) (y : Place) → put m.node i x j ≡ y → ((j ≡ i) × (x ≡ y)) ⊎ ((j ≢ i) × (m.node j ≡ y)) = λ j y. at_put m.node i j x y in
      let keeps : (j : ℕ) → m.node j ≡ untouched → put m.node i x j ≡ untouched = λ j e. put_else m.node i x j (λ q. h (ap m.node (sym q) ∙ e)) ∙ e in
      let uses : (j : ℕ) → m.node j ≡ used → put m.node i x j ≡ used = λ j e. put_else m.node i x j (λ q. hu (ap m.node (sym q) ∙ e)) ∙ e in
      let grew : (j : ℕ) → put m.node i x j ≢ untouched → m.node j ≢ untouched = λ j n e. n (keeps j e) in
      let old : (j w : ℕ) → put m.node i x j ≡ held w → m.node j ≡ held w =
      λ j w e. ⊎_elim (λ (t : (j ≡ i) × (x ≡ held w)). absurd (xh w t.1)) (λ t. t.1) (P j (held w) e) in
      let grows : (j : ℕ) → m.node j ≢ untouched → put m.node i x j ≢ untouched =
      λ j n e. ⊎_elim (λ (t : (j ≡ i) × (x ≡ untouched)). xu t.1) (λ t. n t.1) (P j untouched e) in
      let was : (j : ℕ) → put m.node i x j ≡ used → m.node j ≡ used = λ j e. ⊎_elim (λ (t : (j ≡ i) × (x ≡ used)). absurd (xn t.1)) (λ t. t.1) (P j used e) in
      record {
        late = λ j l. keeps j (g.late j l);
        out = λ j l. keeps j (g.out j l);
        bottom = keeps 0 g.bottom;
        early = λ j a b c. grows j (g.early j a b c);
        who = λ j w e. g.who j w (old j w e);
        one = λ w j k a b. g.one w j k (old j w a) (old k w b);
        below = λ j a b n. let t = g.below j a b (grew j n) in (uses (2 * j) t.0, uses (2 * j + 1) t.1);
        up = λ j ne e. grows (parent j) (g.up j ne (was j e));
        root_parked = λ e. ⊎_elim (λ (t : (1 ≡ i) × (x ≡ parked)). root (sym t.0) t.1) (λ t. g.root_parked t.1) (P 1 parked e);
        root_used = λ e. g.root_used (was 1 e);
        top = λ j e. ⊎_elim (λ (t : (j ≡ i) × (x ≡ published)). t.0 ∙ pub_root t.1) (λ t. g.top j t.1) (P j published e);
        pair = λ j a b. pairs j (P j parked a) (P (sibling j) parked b);
      }
    where
      not_root : (j : ℕ) → m.node j ≡ parked → 1 < j
      not_root j e = let r = ranged m g j (λ q. let f : parked ≡ untouched = sym e ∙ q in cc) in
          dite (ℕ_discrete j 1) (λ q. absurd (g.root_parked (ap m.node (sym q) ∙ e))) (λ ne. omega arith)

      big : (j : ℕ) → j ≡ i → i ≢ 1 → 1 < j
      big j e n = let r = ranged m g i h in omega arith

      pairs : (j : ℕ) → ((j ≡ i) × (x ≡ parked)) ⊎ ((j ≢ i) × (m.node j ≡ parked))
          → ((sibling j ≡ i) × (x ≡ parked)) ⊎ ((sibling j ≢ i) × (m.node (sibling j) ≡ parked)) → ⊥
      pairs j (inl a) (inl b) = let n = near j (big j a.0 (λ e. root e a.1)) in n.apart (b.0 ∙ sym a.0)
      pairs j (inl a) (inr b) = lone a.1 (ap (λ (k : ℕ). m.node (sibling k)) (sym a.0) ∙ b.1)
      pairs j (inr a) (inl b) = lone b.1 (ap (λ (k : ℕ). m.node (sibling k)) (sym b.0) ∙ (ap m.node (near j (not_root j a.1)).back ∙ a.1))
      pairs j (inr a) (inr b) = g.pair j a.1 b.1

  pub starts : Consistent B W start
  starts = grind arith

  pub ends : (m : Machine) → Consistent B W m → (w : ℕ) → B ≤ m.claims → Consistent B W (record m { claims = m.claims + 1; over = put m.over w true })
  ends = grind arith

  pub gets : (m : Machine) → Consistent B W m → (w : ℕ) → Can B W m (claim_got w) → Consistent B W (after B W m (claim_got w))
  gets m g w can =
      let i : ℕ = B + m.claims in
      let room : m.claims < B = can.3 in
      let fresh : m.node i ≡ untouched = g.late i (omega arith) in
      let P : (j : ℕ) (y : Place) → put m.node i (held w) j ≡ y → ((j ≡ i) × (held w ≡ y)) ⊎ ((j ≢ i) × (m.node j ≡ y)) = λ j y. at_put m.node i j (held w) y in
      let keeps : (j : ℕ) → j ≢ i → m.node j ≡ untouched → put m.node i (held w) j ≡ untouched = λ j ne e. put_else m.node i (held w) j ne ∙ e in
      let uses : (j : ℕ) → m.node j ≡ used → put m.node i (held w) j ≡ used =
      λ j e. put_else m.node i (held w) j (λ q. let f : used ≡ untouched = sym e ∙ (ap m.node q ∙ fresh) in cc) ∙ e in
      let old : (j : ℕ) (y : Place) → held w ≢ y → put m.node i (held w) j ≡ y → m.node j ≡ y =
      λ j y ne e. ⊎_elim (λ (t : (j ≡ i) × (held w ≡ y)). absurd (ne t.1)) (λ t. t.1) (P j y e) in
      let grows : (j : ℕ) → m.node j ≢ untouched → put m.node i (held w) j ≢ untouched = λ j n e. n (old j untouched (λ q. cc) e) in
      record {
        late = λ j l. keeps j (λ e. omega arith) (g.late j (omega arith));
        out = λ j l. keeps j (λ e. omega arith) (g.out j l);
        bottom = keeps 0 (λ e. omega arith) g.bottom;
        early = λ j a b c. dite (ℕ_discrete j i) (λ e q. let f : held w ≡ untouched = sym (put_here m.node i (held w))
            ∙ (ap (put m.node i (held w)) (sym e) ∙ q) in cc) (λ ne. grows j (g.early j a b (omega arith)));
        who = λ j v e. ⊎_elim
            (λ (t : (j ≡ i) × (held w ≡ held v)). subst (λ (k : ℕ). k < W) (let z : w ≡ v = cc in z) can.0.0) (λ t. g.who j v t.1) (P j (held v) e);
        one = λ v j k a b. ones v j k (P j (held v) a) (P k (held v) b);
        below = λ j a b n. let t = g.below j a b (λ e. n (keeps j (λ q. omega arith) e)) in (uses (2 * j) t.0, uses (2 * j + 1) t.1);
        up = λ j ne e. grows (parent j) (g.up j ne (old j used (λ q. cc) e));
        root_parked = λ e. g.root_parked (old 1 parked (λ q. cc) e);
        root_used = λ e. g.root_used (old 1 used (λ q. cc) e);
        top = λ j e. g.top j (old j published (λ q. cc) e);
        pair = λ j a b. g.pair j (old j parked (λ q. cc) a) (old (sibling j) parked (λ q. cc) b);
      }
    where
      ones : (v j k : ℕ) → ((j ≡ B + m.claims) × (held w ≡ held v)) ⊎ ((j ≢ B + m.claims) × (m.node j ≡ held v))
          → ((k ≡ B + m.claims) × (held w ≡ held v)) ⊎ ((k ≢ B + m.claims) × (m.node k ≡ held v)) → j ≡ k
      ones v j k (inl a) (inl b) = a.0 ∙ sym b.0
      ones v j k (inl a) (inr b) = absurd (can.1 k (b.1 ∙ sym a.1))
      ones v j k (inr a) (inl b) = absurd (can.1 j (a.1 ∙ sym b.1))
      ones v j k (inr a) (inr b) = g.one v j k a.1 b.1
