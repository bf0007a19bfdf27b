-- The ids that a polygon stores.
use Rattle.std.specs.Prelude.{ℕ, List}
use Rattle.qh_model.specs.declared.polygon.Corners.{Corners, TheVariants.Three, TheVariants.Four, TheVariants.Listed}

-- the ids in order
abbrev pub ids_of : Corners → List ℕ
ids_of (Three ids) = ids
ids_of (Four ids) = ids
ids_of (Listed ids) = ids.items
