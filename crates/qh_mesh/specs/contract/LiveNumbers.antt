-- The numbers of the live facets, in rising order.
use Rattle.std.specs.Prelude.{ℕ, List, drop}
use Rattle.qh_model.specs.contract.StoredSurface.{StoredFacet, live_from}

-- the live facets with numbers from n on
abbrev pub live_after : List StoredFacet → ℕ → List ℕ
live_after fs n = live_from n (drop n fs)
