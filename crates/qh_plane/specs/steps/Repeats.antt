-- Points that are equal to an earlier one in a list. Only private functions cite them.
use Rattle.std.specs.Prelude.{ℕ, ◌≡◌, ◌<◌, List, Bool, true, false, Option, Result, Vec, IfOk, IfSome, length, slice_index_or}
use Rattle.std.specs.declared.alloc.{AllocError.AllocError, Global.Global}
use Rattle.qh_model.specs.headline.{Predicates.place, Sets.In, Vector.Vector}
use Rattle.qh_plane.specs.steps.HashedKeys.{AllHashes, PartHashes, WithHashes}

-- a lower id has the same point
abbrev pub IsRepeatedId : List Vector → ℕ → Type 0
IsRepeatedId pts i = (i < length pts) × (j : ℕ) × (j < i) × (place pts j ≡ place pts i)

-- a set of ids, given by a property
abbrev pub Ids : Type 1
Ids = ℕ → Type 0

-- the ids of the first n parts
abbrev pub PartsBelow : (ℕ → Ids) → ℕ → Ids
PartsBelow part n i = (k : ℕ) × (k < n) × part k i

-- the ids of points that are equal to an earlier one: all of a set of ids
pub record AreRepeats (pts : List Vector) (some : Ids) (ids : List ℕ) : Type 0 where
  pub has : (i : ℕ) → some i → IsRepeatedId pts i → In i ids
  pub only : (i : ℕ) → In i ids → IsRepeatedId pts i

-- all of them
abbrev pub AreAllRepeats : List Vector → List ℕ → Type 0
AreAllRepeats pts ids = AreRepeats pts (WithHashes pts AllHashes) ids

-- `count` marks, of which only those of the ids are cleared
pub record MarksWithout (count : ℕ) (ids : List ℕ) (marks : List Bool) : Type 0 where
  pub len : length marks ≡ count
  pub has : (i : ℕ) → i < count → (In i ids → ⊥) → slice_index_or marks i false ≡ true
  pub only : (i : ℕ) → slice_index_or marks i false ≡ true → In i ids → ⊥

-- the results for parts of the hashes are the ids of their points that are equal to an earlier one, unless an allocation failed or those of a part were not
-- found
abbrev pub ArePartsRepeats : List Vector → ℕ → List (Result (Option (Vec ℕ Global)) AllocError) → Type 0
ArePartsRepeats pts parts found =
    (i : ℕ) (d : Result (Option (Vec ℕ Global)) AllocError) → i < length found
    → IfOk (slice_index_or found i d) (λ some. IfSome some (λ v. AreRepeats pts (WithHashes pts (PartHashes parts i)) v.items))
