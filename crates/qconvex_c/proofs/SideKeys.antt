-- The keys of sides: one more, in another order, and joined to the reversed sides.
use Rattle.qconvex_c.specs.contract.Neighbors.{AreNeighbors, AreReversed, IsNeighbor, side_from, side_to, sides_in}
use Rattle.qconvex_c.specs.declared.side_keys.TheConstants.{SIDE_ROOM}
use Rattle.qconvex_c.specs.steps.SideKeys.{IsKey, AreKeys, IsJoined, AreJoined}
use Rattle.qh_model.proofs.Common.{◌≡◌, ◌∙◌, ◌⊎◌, ◌↔◌, ℕ, ◌+◌, ◌*◌, ◌/◌, ◌%◌, ◌≤◌, ◌<◌, List, [], ◌∷◌, ◌++◌, length, slice_index, arith, ap, sym, subst, refl}
use Rattle.qh_model.proofs.Common.{inl, inr, dite, dec_le, get_or_default_zero, All-push, All-weaker, All-permutation, Contains-permutation, All, Contains}
use Rattle.{qh_model.proofs.Common.IsPermutation, qh_model.specs.declared.limits.TheConstants.POINT_LIMIT, std.proofs.Math.Nat.eq-or-lt_of_le}
use Rattle.std.proofs.lemmas.List.Elements.{Contains-append_left, Contains-append_right}

module _ (low high : ℕ → ℕ) where
  abbrev pub key_of : ℕ → ℕ
  key_of s = (low s * POINT_LIMIT + high s) * SIDE_ROOM + s

  -- the key of a side gives its number and its ends
  of_key : (s : ℕ) → s < SIDE_ROOM → (key_of s % SIDE_ROOM ≡ s) × (key_of s / SIDE_ROOM ≡ low s * POINT_LIMIT + high s)
  of_key s h = (omega arith, omega arith)

  -- one more side
  pub one_more : (s : ℕ) (keys keys' : List ℕ) → s < SIDE_ROOM → AreKeys s low high keys
      → (low s ≤ high s → keys' ≡ keys ++ key_of s ∷ []) → (high s < low s → keys' ≡ keys) → AreKeys (s + 1) low high keys'
  one_more s keys keys' h are up down =
      let below : (t : ℕ) → t < s + 1 → (t ≡ s) ⊎ (t < s) = λ t l. eq-or-lt_of_le (omega arith) in
      dite (dec_le (low s) (high s))
      (λ r. subst (AreKeys (s + 1) low high) (sym (up r)) (record {
        each = All-push (IsKey (s + 1) low high) keys (key_of s) longer (own r);
        all = λ t l q. elim (below t l) [
          | inl e ↦ subst (λ x. Contains (keys ++ key_of s ∷ []) (key_of x)) (sym e)
              (Contains-append_right keys (key_of s ∷ []) (key_of s) (0, omega arith, refl))
          | inr m ↦ Contains-append_left keys (key_of s ∷ []) (key_of t) (are.all t m q)
        ];
      }))
      (λ n. subst (AreKeys (s + 1) low high) (sym (down (omega arith))) (record {
        each = longer;
        all = λ t l q. elim (below t l) [ inl e ↦ absurd (n (subst (λ x. low x ≤ high x) e q)) | inr m ↦ are.all t m q ];
      }))
    where
      longer : All (IsKey (s + 1) low high) keys
      longer = All-weaker (IsKey s low high) (IsKey (s + 1) low high)
          (λ key k. (record { side = omega (arith, k.side); rises = k.rises; ends = k.ends })) keys are.each

      own : low s ≤ high s → IsKey (s + 1) low high (key_of s)
      own r = let k = of_key s h in record {
        side = subst (λ x. x < s + 1) (sym k.0) (omega arith);
        rises = subst (λ x. low x ≤ high x) (sym k.0) r;
        ends = k.1 ∙ ap (λ x. low x * POINT_LIMIT + high x) (sym k.0);
      }

  -- the same keys in another order
  pub moved : (n count : ℕ) (keys keys' : List ℕ) → n ≡ count → IsPermutation keys keys' → AreKeys n low high keys → AreKeys count low high keys'
  moved n count keys keys' e p are = subst (λ m. AreKeys m low high keys') e (record {
    each = All-permutation (IsKey n low high) keys keys' p are.each;
    all = λ s h r. Contains-permutation keys keys' (key_of s) p (are.all s h r);
  })

  -- the position of a side's key
  position_of : (count : ℕ) (keys : List ℕ) → AreKeys count low high keys → count ≤ SIDE_ROOM → (s : ℕ) → s < count → low s ≤ high s
      → (k : ℕ) × (k < length keys) × (slice_index keys k % SIDE_ROOM ≡ s) × (slice_index keys k / SIDE_ROOM ≡ low s * POINT_LIMIT + high s)
  position_of count keys are room s h r =
      let (k, l, e) = are.all s h r in
      let is : slice_index keys k ≡ key_of s = sym (get_or_default_zero keys k (key_of s) l) ∙ e in
      let own = of_key s (omega arith) in
      (k, l, ap (λ x. x % SIDE_ROOM) is ∙ own.0, ap (λ x. x / SIDE_ROOM) is ∙ own.1)

module _ (corners : List ℕ) (few : length corners / 3 ≤ 2 * POINT_LIMIT) (within : All (λ c. c < POINT_LIMIT) corners) where
  abbrev sides : ℕ
  sides = sides_in corners

  abbrev from : ℕ → ℕ
  from = side_from corners

  abbrev to : ℕ → ℕ
  to = side_to corners

  -- what is joined to the key of a side is its neighbour, where reversed sides have the same ends
  module _ (low high low' high' : ℕ → ℕ) (own : (s : ℕ) → s < sides → high s < POINT_LIMIT) (other : (s : ℕ) → s < sides → high' s < POINT_LIMIT)
      (meet : (s t : ℕ) → AreReversed corners s t ↔ ((low s ≡ low' t) × (high s ≡ high' t))) (key n : ℕ) (back : List ℕ)
      (k : IsKey sides low high key) (are : AreKeys sides low' high' back) (j : IsJoined back key n) where
    abbrev s : ℕ
    s = key % SIDE_ROOM

    first : (t : ℕ) → t < sides → AreReversed corners s t → n ≤ t / 3
    first t h r =
        let (e, f) = (meet s t).0 r in let rises = subst (λ x. low' t ≤ x) f (subst (λ x. x ≤ high s) e k.rises) in
        let (at, l, side, ends) = position_of low' high' sides back are (omega arith) t h rises in
        let same = ap (λ x. x * POINT_LIMIT + high s) e ∙ ap (λ x. low' t * POINT_LIMIT + x) f in
        subst (λ x. n ≤ x / 3) side (j.first at l (ends ∙ sym (k.ends ∙ same)))

    neighbor : IsNeighbor corners s n
    neighbor = record {
      found = λ h. (let (at, l, e, f) = j.found h in
          let t = slice_index back at % SIDE_ROOM in let b = are.each at 0 l in
          let ends : low s * POINT_LIMIT + high s ≡ low' t * POINT_LIMIT + high' t = sym k.ends ∙ sym e ∙ b.ends in
          let one = own s k.side in let two = other t b.side in
          (t, b.side, f, (meet s t).1 (omega (arith, ends, one, two), omega (arith, ends, one, two))));
      none = λ e t h r. (omega (arith, first t h r));
      first = first;
    }

  from_within : (s : ℕ) → s < sides → from s < POINT_LIMIT
  from_within s h = within (s / 3 * 3 + (s + 1) % 3) 0 (omega arith)

  to_within : (s : ℕ) → s < sides → to s < POINT_LIMIT
  to_within s h = within (s / 3 * 3 + (s + 2) % 3) 0 (omega arith)

  module _ (up down : List ℕ) (ups : AreKeys sides from to up) (downs : AreKeys sides to from down) where
    of_up : (key n : ℕ) → IsKey sides from to key → IsJoined down key n → IsNeighbor corners (key % SIDE_ROOM) n
    of_up key n k j = neighbor from to to from to_within from_within
        (λ s t. (λ r. (r.from, r.to), λ e. record { from = e.0; to = e.1 })) key n down k downs j

    of_down : (key n : ℕ) → IsKey sides to from key → IsJoined up key n → IsNeighbor corners (key % SIDE_ROOM) n
    of_down key n k j = neighbor to from from to from_within to_within
        (λ s t. (λ r. (r.to, r.from), λ e. record { from = e.1; to = e.0 })) key n up k ups j

    -- both ways joined, each side has its neighbour
    pub both_joined : (old mid new : List ℕ) → AreJoined (length up) up down old mid → AreJoined (length down) down up mid new
        → AreNeighbors corners new
    both_joined old mid new a b s h = dite (dec_le (from s) (to s))
        (λ r. (let (k, l, side, _) = position_of from to sides up ups (omega arith) s h r in
        elim (b.others s) [ inl e ↦ subst (IsNeighbor corners s) (sym e) (by_up k l side) | inr (m, i, f) ↦ by_down m i f ]))
        (λ n. (let (k, l, side, _) = position_of to from sides down downs (omega arith) s h (omega arith) in by_down k l side))
      where
        by_up : (k : ℕ) → k < length up → slice_index up k % SIDE_ROOM ≡ s → IsNeighbor corners s (slice_index mid s)
        by_up k l e = subst (λ x. IsNeighbor corners x (slice_index mid x)) e
            (of_up (slice_index up k) (slice_index mid (slice_index up k % SIDE_ROOM)) (ups.each k 0 l) (a.each k l))

        by_down : (k : ℕ) → k < length down → slice_index down k % SIDE_ROOM ≡ s → IsNeighbor corners s (slice_index new s)
        by_down k l e = subst (λ x. IsNeighbor corners x (slice_index new x)) e
            (of_down (slice_index down k) (slice_index new (slice_index down k % SIDE_ROOM)) (downs.each k 0 l) (b.each k l))
