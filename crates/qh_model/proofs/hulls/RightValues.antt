-- Right values of blocks: of one block, of two sets of blocks together, and of all blocks.
use Rattle.qh_model.proofs.Common.{ℕ, zero, suc, ◌≡◌, ◌+◌, ◌-◌, ◌<◌, ◌⊎◌, inl, inr, List, [], ◌++◌, length, get_or, take, drop, subst, refl, sym, ◌∙◌, rules}
use Rattle.qh_model.proofs.Common.{arith, common_steps, ◌↔◌, ℕ_discrete, dite, InSpan, IsCut, bound, block_count, positions, HasDistinctPoints, IsIdSet}
use Rattle.qh_model.proofs.Common.{RightValue, Extreme, Others, AreExtremes, place, In, Members, Vector}
use Rattle.qh_model.specs.contract.RightValue.{block_ids, IsIdOfBlocks}
use Rattle.qh_model.specs.laws.{CutLaws.IsInBlock, RightValueLaws.RightOfLeaf, RightValueLaws.RightOfNode, RightValueLaws.HullOfRoot}
use Rattle.qh_model.proofs.Cuts.{blocks_cover}
use Rattle.qh_model.proofs.{Members.In-get_or, Members.in_at, hulls.OfExtremes.extremes_told, hulls.SameSets.body_of_part, hulls.SameSets.extreme_as}
use Rattle.qh_model.proofs.{board.Spans.span_of_leaf, board.Spans.span_of_node, board.Spans.span_of_root, lists.Joined.in_append, lists.Joined.of_append}
use Rattle.qh_model.proofs.{extremes.ExtremeIds.combination_within, extremes.ExtremeIds.extremes_between, lists.Rising.part_at, lists.Rising.rising_part}

-- ---- the ids of a block
-- an id of a block is one of the list
pub block_within : (ids bounds : List ℕ) (k i : ℕ) → In i (block_ids ids bounds k) → In i ids
block_within ids bounds k i m =
    let r = in_at (block_ids ids bounds k) i m in
    let same = part_at ids (bound bounds k) (bound bounds (k + 1) - bound bounds k) r.0 r.1 in
    let l = r.1 in
    let inside : bound bounds k + r.0 < length ids = grind (arith, common_steps, l) in
    subst (λ x. In x ids) (sym same ∙ r.2) (In-get_or ids (bound bounds k + r.0) 0 inside)

-- the id at a position of a block is one of the block
in_block : (ids bounds : List ℕ) (k p : ℕ) → IsInBlock bounds k p → p < length ids → In (get_or ids p 0) (block_ids ids bounds k)
in_block ids bounds k p b h =
    let f : ℕ = bound bounds k in
    let n : ℕ = bound bounds (k + 1) - f in
    let inside : p - f < length (take n (drop f ids)) = grind (arith, common_steps, b.from, b.to, h) in
    let there : f + (p - f) ≡ p = grind (arith, b.from) in
    let same = part_at ids f n (p - f) inside in
    subst (λ x. In x (block_ids ids bounds k)) (grind (arith, same, there)) (In-get_or (block_ids ids bounds k) (p - f) 0 inside)

-- the ids of a block rise and have distinct points
pub block_set : (pts : List Vector) (ids bounds : List ℕ) (k : ℕ) → IsIdSet pts ids → IsIdSet pts (block_ids ids bounds k)
block_set = grind (arith, rising_part, block_within)

-- ---- right values
-- the extreme ids of a block are right for the set of this block alone
pub right_of_block : (pts : List Vector) (ids bounds : List ℕ) (k : ℕ) (J : ℕ → Type 0) (xs : List ℕ) → k < block_count bounds → ((l : ℕ) → J l ↔ (l ≡ k))
    → AreExtremes (place pts) (Members (block_ids ids bounds k)) xs → RightValue pts ids bounds J xs
right_of_block pts ids bounds k J xs h only = extremes_told (place pts) (Members (block_ids ids bounds k)) (IsIdOfBlocks ids bounds J)
    (extreme_as (place pts) (Members (block_ids ids bounds k)) (IsIdOfBlocks ids bounds J)
    (λ i. (λ m. (k, h, (only k).1 refl, m), λ b. subst (λ l. In i (block_ids ids bounds l)) ((only b.0).0 b.2) b.3))) xs

-- the right ids are ids of the list
pub right_within : (pts : List Vector) (ids bounds : List ℕ) (J : ℕ → Type 0) (xs : List ℕ) → RightValue pts ids bounds J xs → (i : ℕ) → In i xs → In i ids
right_within pts ids bounds J xs x i m = let e = (x.members i).0 m in block_within ids bounds e.0.0 i e.0.3

-- ---- two sets of blocks together
-- for any blocks, it is impossible that the ids of the first n have no list
not_unlisted : (ids bounds : List ℕ) (J : ℕ → Type 0) (n : ℕ)
    → ((zs : List ℕ) → ((i : ℕ) → ((k : ℕ) × (k < n) × J k × In i (block_ids ids bounds k)) ↔ In i zs) → ⊥) → ⊥
not_unlisted ids bounds J zero none = none [] (λ i. (λ b. let l = b.1 in absurd (omega (arith, l)), λ m. absurd m))
not_unlisted ids bounds J (suc n) none = not_unlisted ids bounds J n step
  where
    step : (zs : List ℕ) → ((i : ℕ) → ((k : ℕ) × (k < n) × J k × In i (block_ids ids bounds k)) ↔ In i zs) → ⊥
    step zs h = without (λ y. with_it y)
      where
        with_it : J n → ⊥
        with_it y = none (block_ids ids bounds n ++ zs) (λ i. (down i, λ m. up i (of_append (block_ids ids bounds n) zs i m)))
          where
            down : (i : ℕ) → ((k : ℕ) × (k < suc n) × J k × In i (block_ids ids bounds k)) → In i (block_ids ids bounds n ++ zs)
            down i b = dite (ℕ_discrete b.0 n)
                (λ e. in_append (block_ids ids bounds n) zs i (inl (subst (λ l. In i (block_ids ids bounds l)) e b.3)))
                (λ ne. let l = b.1 in in_append (block_ids ids bounds n) zs i (inr ((h i).0 (b.0, omega (arith, l, ne), b.2, b.3))))

            up : (i : ℕ) → In i (block_ids ids bounds n) ⊎ In i zs → ((k : ℕ) × (k < suc n) × J k × In i (block_ids ids bounds k))
            up i (inl m) = (n, omega arith, y, m)
            up i (inr m) = let b = (h i).1 m in let l = b.1 in (b.0, omega (arith, l), b.2, b.3)

        without : (J n → ⊥) → ⊥
        without not_it = none zs (λ i. (down i, λ m. let b = (h i).1 m in let l = b.1 in (b.0, omega (arith, l), b.2, b.3)))
          where
            down : (i : ℕ) → ((k : ℕ) × (k < suc n) × J k × In i (block_ids ids bounds k)) → In i zs
            down i b = dite (ℕ_discrete b.0 n)
                (λ e. absurd (not_it (subst J e b.2))) (λ ne. let l = b.1 in (h i).0 (b.0, omega (arith, l, ne), b.2, b.3))

-- the extreme ids of the ids that are right for either set are right for their union
pub right_of_both : (pts : List Vector) (ids bounds : List ℕ) (J K L : ℕ → Type 0) (xs ys zs vs : List ℕ) → HasDistinctPoints (place pts) (Members ids)
    → ((k : ℕ) → L k ↔ (J k ⊎ K k)) → RightValue pts ids bounds J xs → RightValue pts ids bounds K ys
    → ((i : ℕ) → In i zs ↔ (In i xs ⊎ In i ys)) → AreExtremes (place pts) (Members zs) vs → RightValue pts ids bounds L vs
right_of_both pts ids bounds J K L xs ys zs vs apart both x y union v = record {
  rising = v.rising;
  members = λ i. (λ m. down i ((v.members i).0 m), λ e. (v.members i).1 (up i e));
}
  where
    Every : ℕ → Type 0
    Every = IsIdOfBlocks ids bounds L

    distinct : HasDistinctPoints (place pts) Every
    distinct i j a b e = apart i j (block_within ids bounds a.0 i a.3) (block_within ids bounds b.0 j b.3) e

    -- the listed ids are of the blocks
    listed : (i : ℕ) → In i xs ⊎ In i ys → Every i
    listed i (inl m) = let b = ((x.members i).0 m).0 in (b.0, b.1, (both b.0).1 (inl b.2), b.3)
    listed i (inr m) = let b = ((y.members i).0 m).0 in (b.0, b.1, (both b.0).1 (inr b.2), b.3)

    sub : (i : ℕ) → In i zs → Every i
    sub i m = listed i ((union i).0 m)

    -- an extreme id of all ids is one of a part
    in_part : (M : ℕ → Type 0) → ((k : ℕ) → M k → L k) → (i : ℕ) → IsIdOfBlocks ids bounds M i
        → Extreme (place pts) Every i → Extreme (place pts) (IsIdOfBlocks ids bounds M) i
    in_part M part i b e = (
      b,
      λ m. e.1 (combination_within (place pts) (Others (IsIdOfBlocks ids bounds M) i) (Others Every i)
          (place pts i) m (λ j o. ((o.0.0, o.0.1, part o.0.0 o.0.2, o.0.3), o.1))),
    )

    found : (i : ℕ) (e : Extreme (place pts) Every i) → J e.0.0 ⊎ K e.0.0 → In i zs
    found i e (inl h) = (union i).1 (inl ((x.members i).1 (in_part J (λ k j. (both k).1 (inl j)) i (e.0.0, e.0.1, h, e.0.3) e)))
    found i e (inr h) = (union i).1 (inr ((y.members i).1 (in_part K (λ k j. (both k).1 (inr j)) i (e.0.0, e.0.1, h, e.0.3) e)))

    sup : (i : ℕ) → Extreme (place pts) Every i → In i zs
    sup i e = found i e ((both e.0.0).0 e.0.2)

    up : (i : ℕ) → Extreme (place pts) Every i → Extreme (place pts) (Members zs) i
    up i h = (sup i h, λ m. h.1 (combination_within (place pts) (Others (Members zs) i) (Others Every i) (place pts i) m (λ j o. (sub j o.0, o.1))))

    down : (i : ℕ) → Extreme (place pts) (Members zs) i → Extreme (place pts) Every i
    down i h = (
      sub i h.0,
      λ m. not_unlisted ids bounds L (block_count bounds)
          (λ list l. ((extremes_between (place pts) Every (Members zs) list l distinct sub sup i).0 h).1 m),
    )

-- ---- all blocks
module _ (pts : List Vector) (ids bounds : List ℕ) (J : ℕ → Type 0) (xs : List ℕ) (cut : IsCut bounds)
    (whole : positions bounds ≡ length ids) (every : (k : ℕ) → k < block_count bounds → J k)
    (x : RightValue pts ids bounds J xs) where
  -- an extreme id is listed
  root_has : (i : ℕ) → Extreme (place pts) (Members ids) i → In i xs
  root_has i e =
      let p = in_at ids i e.0 in
      let l = p.1 in
      let b = blocks_cover bounds p.0 cut (grind (arith, l, whole)) in
      let m = subst (λ t. In t (block_ids ids bounds b.0)) p.2 (in_block ids bounds b.0 p.0 b.1 l) in
      (x.members i).1 (
        (b.0, b.1.block, every b.0 b.1.block, m),
        λ mix. e.1 (combination_within (place pts) (Others (IsIdOfBlocks ids bounds J) i) (Others (Members ids) i)
            (place pts i) mix (λ j o. (block_within ids bounds o.0.0 j o.0.3, o.1))),
      )

-- ---- the laws
pub right_of_leaf : RightOfLeaf
right_of_leaf = search (rules, right_of_block, span_of_leaf)

pub right_of_node : RightOfNode
right_of_node = search (rules, right_of_both, span_of_node)

pub hull_of_root : HullOfRoot
hull_of_root pts ids bounds xs b apart cut whole x h =
    let J = InSpan (block_count bounds) 1 in
    body_of_part (place pts) ids xs b apart (right_within pts ids bounds J xs x)
    (root_has pts ids bounds J xs cut whole (λ k l. (span_of_root (block_count bounds) k).1 l) x) h
