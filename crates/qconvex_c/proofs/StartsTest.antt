-- When starts are invalid: one falls, or one is beyond the points.
use Rattle.std.proofs.Common.{◌≡◌, ℕ, ◌+◌, ◌<◌, zero, suc, List, length, slice_index, arith, ap}
use Rattle.qconvex_c.specs.contract.Sets.{AreStarts}

-- a start below the one before it
pub falls : (count : ℕ) (starts : List ℕ) → AreStarts count starts → (i last : ℕ) → i < length starts
    → ((j : ℕ) → j + 1 ≡ i → slice_index starts j ≡ last) → (i ≡ 0 → last ≡ 0) → slice_index starts i < last → ⊥
falls count starts are zero last h before first less = omega (arith, first (omega arith))
falls count starts are (suc j) last h before first less =
    let same : j + 1 ≡ suc j = omega arith in
    let here : slice_index starts (j + 1) ≡ slice_index starts (suc j) = ap (slice_index starts) same in
    omega (arith, before j same, are.rising j (omega arith), here)

-- a start beyond the points
pub beyond : (count : ℕ) (starts : List ℕ) → AreStarts count starts → (i : ℕ) → i < length starts → count < slice_index starts i → ⊥
beyond count starts are i h more = omega (arith, are.within i h)
