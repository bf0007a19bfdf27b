-- Slots of a table for hashes. Only private functions cite them.
-- This project's own.
use Rattle.{qh_model.specs.headline.Vector.Vector, qh_plane.specs.steps.HashedKeys.Hashes, qh_plane.specs.steps.HashedKeys.hash_at}
use Rattle.qh_plane.specs.declared.hashed_keys.TheConstants.{ID_ROOM, NO_HASH}
use Rattle.std.specs.Prelude.{ℕ, ◌≡◌, ◌*◌, ◌/◌, ◌<◌, ◌≤◌, List, Bool, true, false, length, slice_index_or}

-- the slot of a hash in a table with a number of slots
abbrev pub slot_in : ℕ → ℕ → ℕ
slot_in slots h = h * slots / NO_HASH

-- marks of slots, whose number is above 0 and within the limit
pub record IsTable (marks : List Bool) : Type 0 where
  pub some : 0 < length marks
  pub few : length marks ≤ ID_ROOM

-- the hashes whose slot is marked
abbrev pub MarkedHashes : List Bool → Hashes
MarkedHashes marks h = slice_index_or marks (slot_in (length marks) h) false ≡ true

-- the slots of the first n points are marked
abbrev pub AreTaken : List Vector → ℕ → List Bool → Type 0
AreTaken pts n marks = (i : ℕ) → i < n → MarkedHashes marks (hash_at pts i)

-- each slot of two of the first n points is marked
abbrev pub AreShared : List Vector → ℕ → List Bool → Type 0
AreShared pts n marks = (i j : ℕ) → i < j → j < n → slot_in (length marks) (hash_at pts i) ≡ slot_in (length marks) (hash_at pts j)
    → MarkedHashes marks (hash_at pts i)

-- marks of all slots: `taken` for those of the first n points, and `shared` for those of two of them
pub record IsMarkedUpTo (pts : List Vector) (slots n : ℕ) (taken shared : List Bool) : Type 0 where
  pub taken_len : length taken ≡ slots
  pub shared_len : length shared ≡ slots
  pub are_taken : AreTaken pts n taken
  pub are_shared : AreShared pts n shared
