-- Two numbers below 2^32 in one number, the higher half first.
use Rattle.std.specs.Prelude.{ℕ, ◌+◌, ◌*◌, ◌/◌, ◌%◌}
use Rattle.qh_model.specs.declared.keys.packed.TheConstants.{HALF_ROOM}

-- the number of two halves
abbrev pub packed : ℕ → ℕ → ℕ
packed high low = high * HALF_ROOM + low

-- the high half and the low half of a number
abbrev pub high_of : ℕ → ℕ
high_of key = key / HALF_ROOM

abbrev pub low_of : ℕ → ℕ
low_of key = key % HALF_ROOM

-- both halves of a number
abbrev pub halves : ℕ → ℕ × ℕ
halves key = (high_of key, low_of key)
