-- The places of removed facets, and the free places.
use Rattle.std.specs.Prelude.{slice_index, ◌≡◌, ℕ, ◌+◌, ◌<◌, List, length, false, count_by}
use Rattle.qh_model.specs.contract.StoredSurface.{StoredFacet, facet_at, no_facet}
use Rattle.qh_model.specs.headline.Sets.{In, Once}
use Rattle.qh_mesh.specs.steps.{Kept.is_live, Kept.removed, Writes.Scattered}

-- the first k facets of the list are no longer live, and nothing else changed
abbrev pub Removed : List StoredFacet → List StoredFacet → List ℕ → ℕ → Type 0
Removed old new vs k = Scattered no_facet old new (slice_index vs) (λ j t. t ≡ removed (facet_at old (slice_index vs j))) k

-- the number of live facets
abbrev pub live_count : List StoredFacet → ℕ
live_count fs = count_by is_live fs

-- the place is free
abbrev pub IsVacant : List StoredFacet → ℕ → Type 0
IsVacant fs f = (f < length fs) × ((facet_at fs f).live ≡ false)

-- the list has the free places, each once
pub record IsPool (fs : List StoredFacet) (places : List ℕ) : Type 0 where
  pub once : Once places
  pub vacant : (v : ℕ) → In v places → IsVacant fs v
  pub count : live_count fs + length places ≡ length fs
