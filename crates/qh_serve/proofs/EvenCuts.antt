-- The number of positions of an even cut.
use Rattle.qh_model.proofs.Common.{◌≡◌, ℕ, ◌<◌, List, arith, IsEvenCut, blocks_of, positions}
use Rattle.std.proofs.lemmas.Grind.{div_ceil_times}

-- an even cut of some positions cuts all of them
pub even_positions : (m size : ℕ) (bounds : List ℕ) → 0 < size → IsEvenCut m size bounds → positions bounds ≡ m
even_positions m size bounds s even =
    let cover = (div_ceil_times m size s).0 in
    grind (arith, cover, even.count, even.each (blocks_of m size) (grind (arith, even.count)))
