-- Cuts into blocks.
use Rattle.qh_model.proofs.Common.{ℕ, zero, suc, ◌≡◌, ◌+◌, ◌*◌, ◌-◌, ◌≤◌, ◌<◌, List, [], ◌∷◌, ◌++◌, length, min, Bool, true, false, nat_lt, refl, subst, arith}
use Rattle.qh_model.proofs.Common.{get_or-append_seam, common_steps, get_or_append_left, IsCut, IsEvenCut, block_count, bound, blocks_of, positions}
use Rattle.qh_model.proofs.Common.{BLOCK_LIMIT, POINT_LIMIT}
use Rattle.std.proofs.{Common.le_refl, lemmas.Grind.div_ceil_times, lemmas.Nat.mul-le}
use Rattle.qh_model.specs.laws.CutLaws.{IsInBlock, BlocksCover, BlocksAreApart, BlocksAreInside, BlocksAreNotEmpty}

-- a multiple of the size before the end of the last block is below m
below_end : (m size n j : ℕ) → n * size < m + size → j < n → j * size < m
below_end m size n j up h = let next : j + 1 ≤ n = grind (arith, h) in grind (arith, up, mul-le (j + 1) size n size next (le_refl size))

-- the multiples of the size, and then m, are an even cut
pub even_cut : (m size n : ℕ) (xs : List ℕ) → 0 < size → n ≡ blocks_of m size → length xs ≡ n
    → ((k : ℕ) → k < n → bound xs k ≡ k * size) → IsEvenCut m size (xs ++ m ∷ [])
even_cut m size n xs p is len each =
    let cover = div_ceil_times m size p in
    let inner : (j : ℕ) → j < n → bound (xs ++ m ∷ []) j ≡ min (j * size) m =
    (λ j h. grind (arith, below_end m size n j, cover, each j h, is, len, get_or_append_left xs (m ∷ []) 0 j)) in
    let outer : bound (xs ++ m ∷ []) n ≡ min (n * size) m = grind (arith, cover, is, len, get_or-append_seam xs m [] 0) in
    record { count = grind (arith, common_steps); each = λ j h. grind (arith, inner, outer, common_steps) }

-- an even cut of some positions into at most the limit of blocks is a cut
pub even_is_cut : (m size : ℕ) (bounds : List ℕ) → 0 < m → m ≤ POINT_LIMIT → 0 < size → blocks_of m size ≤ BLOCK_LIMIT → IsEvenCut m size bounds → IsCut bounds
even_is_cut = grind arith

-- rising bounds rise over any number of steps
bounds_rise : (b : ℕ → ℕ) (n i k : ℕ) → ((j : ℕ) → j < n → b j < b (j + 1)) → i + k ≤ n → b i ≤ b (i + k)
bounds_rise b n i zero rises h = grind (arith)
bounds_rise b n i (suc k) rises h =
    let before : b i ≤ b (i + k) = bounds_rise b n i k rises (grind (arith, h)) in
    let step : b (i + k) < b (i + k + 1) = rises (i + k) (grind (arith, h)) in
    grind (arith, before, step)

-- a bound is not below an earlier bound
pub bounds_order : (b : ℕ → ℕ) (n i j : ℕ) → ((k : ℕ) → k < n → b k < b (k + 1)) → i ≤ j → j ≤ n → b i ≤ b j
bounds_order b n i j rises h l =
    let gap : i + (j - i) ≡ j = grind (arith, h) in
    subst (λ t. b i ≤ b t) gap (bounds_rise b n i (j - i) rises (grind (arith, gap, l)))

-- a position below the last bound lies between two neighbours
between_bounds : (b : ℕ → ℕ) (n p : ℕ) → b 0 ≤ p → p < b n → (j : ℕ) × (j < n) × (b j ≤ p) × (p < b (j + 1))
between_bounds b zero p h l = absurd (omega (arith, h, l))
between_bounds b (suc n) p h l = with_rest (between_bounds b n p h) (nat_lt p (b n)) refl
  where
    with_rest : (p < b n → (j : ℕ) × (j < n) × (b j ≤ p) × (p < b (j + 1))) → (t : Bool) → nat_lt p (b n) ≡ t
        → (j : ℕ) × (j < suc n) × (b j ≤ p) × (p < b (j + 1))
    with_rest below true e = let found = below (grind (arith, e)) in (found.0, grind (arith, found.1), found.2, found.3)
    with_rest below false e = (n, grind (arith), grind (arith, e), grind (arith, l))

-- the bounds of a cut rise
pub cut_rises : (bounds : List ℕ) → IsCut bounds → (j : ℕ) → j < block_count bounds → bound bounds j < bound bounds (j + 1)
cut_rises bounds cut j h = cut.are.rises j (grind (arith, h))

pub blocks_cover : BlocksCover
blocks_cover bounds p cut h =
    let found = between_bounds (bound bounds) (block_count bounds) p (grind (arith, cut.are.begins)) h in
    (found.0, record { block = found.1; from = found.2; to = found.3 })

-- a block does not begin before a lower one ends
blocks_follow : (bounds : List ℕ) (i j p : ℕ) → IsCut bounds → IsInBlock bounds i p → IsInBlock bounds j p → ¬ (i < j)
blocks_follow bounds i j p cut a b h =
    let order : bound bounds (i + 1) ≤ bound bounds j =
    bounds_order (bound bounds) (block_count bounds) (i + 1) j (cut_rises bounds cut) (grind (arith, h)) (grind (arith, b.block)) in
    omega (arith, order, a.to, b.from)

pub blocks_are_apart : BlocksAreApart
blocks_are_apart bounds i j p cut a b = grind (arith, blocks_follow bounds i j p cut a b, blocks_follow bounds j i p cut b a)

-- a block ends within the positions
pub block_ends : (bounds : List ℕ) (j : ℕ) → IsCut bounds → j < block_count bounds → bound bounds (j + 1) ≤ positions bounds
block_ends bounds j cut h =
    bounds_order (bound bounds) (block_count bounds) (j + 1) (block_count bounds) (cut_rises bounds cut) (grind (arith, h)) (grind (arith))

pub blocks_are_inside : BlocksAreInside
blocks_are_inside bounds j p cut a = let order : bound bounds (j + 1) ≤ positions bounds = block_ends bounds j cut a.block in omega (arith, order, a.to)

pub blocks_are_not_empty : BlocksAreNotEmpty
blocks_are_not_empty bounds j cut h = record { block = h; from = grind (arith); to = cut_rises bounds cut j h }
