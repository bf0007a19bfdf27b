-- The keys of sides, and what is found by them.
use Rattle.std.specs.Prelude.{ℕ, ◌≡◌, ◌≢◌, ◌≤◌, ◌<◌, ◌+◌, ◌*◌, ◌/◌, ◌%◌, ◌⊎◌, List, All, Contains, length, slice_index}
use Rattle.qh_model.specs.declared.limits.TheConstants.{POINT_LIMIT}
use Rattle.qconvex_c.specs.{contract.Codes.QCONVEX_NONE, declared.side_keys.TheConstants.SIDE_ROOM}

-- the key is of a side that rises, by the ends of each side
pub record IsKey (count : ℕ) (low high : ℕ → ℕ) (key : ℕ) : Type 0 where
  pub side : key % SIDE_ROOM < count
  pub rises : low (key % SIDE_ROOM) ≤ high (key % SIDE_ROOM)
  pub ends : key / SIDE_ROOM ≡ low (key % SIDE_ROOM) * POINT_LIMIT + high (key % SIDE_ROOM)

-- these are the keys of the first sides that rise, in any order
pub record AreKeys (count : ℕ) (low high : ℕ → ℕ) (keys : List ℕ) : Type 0 where
  pub each : All (IsKey count low high) keys
  pub all : (s : ℕ) → s < count → low s ≤ high s → Contains keys ((low s * POINT_LIMIT + high s) * SIDE_ROOM + s)

-- n is the triangle of the first key with the same ends
pub record IsJoined (back : List ℕ) (key n : ℕ) : Type 0 where
  pub found : n ≢ QCONVEX_NONE → (j : ℕ) × (j < length back) × (slice_index back j / SIDE_ROOM ≡ key / SIDE_ROOM) × (slice_index back j % SIDE_ROOM / 3 ≡ n)
  pub first : (j : ℕ) → j < length back → slice_index back j / SIDE_ROOM ≡ key / SIDE_ROOM → n ≤ slice_index back j % SIDE_ROOM / 3

-- the sides of the first `count` keys in front have what is found at the back, and other sides what they had
pub record AreJoined (count : ℕ) (front back old new : List ℕ) : Type 0 where
  pub each : (k : ℕ) → k < count → IsJoined back (slice_index front k) (slice_index new (slice_index front k % SIDE_ROOM))
  pub others : (s : ℕ) → (slice_index new s ≡ slice_index old s) ⊎ ((k : ℕ) × (k < count) × (slice_index front k % SIDE_ROOM ≡ s))

-- keys of one side have the same ends
abbrev pub HaveOwnEnds : List ℕ → Type 0
HaveOwnEnds front = (j k : ℕ) → j < length front → k < length front → slice_index front j % SIDE_ROOM ≡ slice_index front k % SIDE_ROOM
    → slice_index front j / SIDE_ROOM ≡ slice_index front k / SIDE_ROOM
