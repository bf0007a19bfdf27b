-- The ids of sorted keys. Only private functions cite them.
use Rattle.std.specs.Prelude.{ℕ, ◌%◌, ◌≡◌, List, map, IsPermutation}
use Rattle.std.specs.List.Sorted.{IsNonDecreasing}
use Rattle.qh_model.specs.headline.Vector.{Vector}
use Rattle.qh_polygon.specs.{contract.PlaceKeys.key_at, declared.place_keys.TheConstants.ROOM}

-- the ids in keys
abbrev pub ids_in : List ℕ → List ℕ
ids_in keys = map (λ k. k % ROOM) keys

-- the ids in the order of their places
pub record AreByPlace (pts : List Vector) (ids sorted : List ℕ) : Type 0 where
  pub keys : List ℕ
  pub same : IsPermutation (map (key_at pts) ids) keys
  pub rising : IsNonDecreasing keys
  pub is : sorted ≡ ids_in keys
