-- The bytes that are sent through a sink.
use Rattle.std.specs.{Io.KnownBytes.Appends, Prelude.ℕ, Prelude.◌≤◌, Prelude.List, Prelude.Option, Prelude.length, Prelude.take}

-- known bytes grow by a prefix of bs, perhaps all of it
pub record AppendsBeginning (old new : Option (List ℕ)) (bs : List ℕ) : Type 0 where
  pub count : ℕ
  pub within : count ≤ length bs
  pub appends : Appends old new (take count bs)
