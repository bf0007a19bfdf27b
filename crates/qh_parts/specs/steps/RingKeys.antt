-- The keys by which the facets of a ring are sorted.
-- This project's own.
use Rattle.{std.specs.Prelude.ℕ, std.specs.Prelude.◌%◌, qh_parts.specs.declared.seam.rings.TheConstants.PLACE}

-- the facet of a key
abbrev pub facet_in : ℕ → ℕ
facet_in key = key % PLACE
