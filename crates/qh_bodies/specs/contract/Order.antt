-- Polygons that are not in lexicographic order.
-- This project's own.
use Rattle.std.specs.Prelude.{ℕ, ◌<◌, ◌+◌, List, [], length, slice_index_or}
use Rattle.qh_model.specs.headline.Polygons.{ComesBefore}

-- the polygon at a position does not come before the next
abbrev pub IsOutOfOrder : List (List ℕ) → ℕ → Type 0
IsOutOfOrder qs n = (n + 1 < length qs) × ¬ (ComesBefore (slice_index_or qs n []) (slice_index_or qs (n + 1) []))
