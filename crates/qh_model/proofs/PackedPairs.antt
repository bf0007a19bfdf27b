-- A packed pair determines its halves, and its halves determine it.
use Rattle.qh_model.proofs.Common.{◌≡◌, ◌<◌, ℕ, arith, packed, halves, HALF_ROOM}

-- pairs with the same number are the same
pub packed-same : (a b u v : ℕ) → b < HALF_ROOM → v < HALF_ROOM → packed a b ≡ packed u v → (a ≡ u) × (b ≡ v)
packed-same a b u v h k e = (omega arith, omega arith)

-- keys with the same halves are the same
pub halves-same : (z k : ℕ) → halves z ≡ halves k → z ≡ k
halves-same = grind arith
