-- The live facets of a stored surface.
use Rattle.std.specs.Prelude.{◌≡◌, ℕ, ◌↔◌, List, true}
use Rattle.qh_model.specs.headline.Sets.{In, Once}
use Rattle.qh_model.specs.contract.StoredSurface.{StoredFacet, facet_at, surface_of}

-- the live facets are the places that are marked live
abbrev pub LiveIsMarked : Type 0
LiveIsMarked = (fs : List StoredFacet) (f : ℕ) → In f (surface_of fs).live ↔ ((facet_at fs f).live ≡ true)

-- each live facet is listed once
abbrev pub LiveIsListedOnce : Type 0
LiveIsListedOnce = (fs : List StoredFacet) → Once (surface_of fs).live
