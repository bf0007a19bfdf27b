-- The sides of facets by their numbers: facet f has the edges 3 f, 3 f + 1 and 3 f + 2.
use Rattle.std.specs.Prelude.{ℕ, ◌+◌, ◌*◌, ◌/◌, ◌%◌, List}
use Rattle.qh_model.specs.contract.{Simplex.one_of, Simplex.by_side, Surface.Side, Surface.start, Surface.end}
use Rattle.qh_model.specs.contract.StoredSurface.{StoredFacet, facet_at, surface_of}
use Rattle.qh_model.specs.contract.Surface.Side.{first, second, third}

-- side 0, 1 or 2
abbrev pub nth_side : ℕ → Side
nth_side n = one_of first second third third n

-- the number of a side
abbrev pub side_no : Side → ℕ
side_no s = by_side 0 1 2 s

-- the edge that is a facet's side
abbrev pub edge_of : ℕ → Side → ℕ
edge_of f s = 3 * f + side_no s

-- the facet of an edge
abbrev pub facet_of : ℕ → ℕ
facet_of e = e / 3

-- which side of its facet an edge is
abbrev pub side_of_edge : ℕ → Side
side_of_edge e = nth_side (e % 3)

-- the id where an edge starts
abbrev pub edge_start : List StoredFacet → ℕ → ℕ
edge_start fs e = start (surface_of fs) (facet_of e) (side_of_edge e)

-- the id where it ends
abbrev pub edge_end : List StoredFacet → ℕ → ℕ
edge_end fs e = end (surface_of fs) (facet_of e) (side_of_edge e)

-- its twin, as stored
abbrev pub twin_of : List StoredFacet → ℕ → ℕ
twin_of fs e = let t = facet_at fs (facet_of e) in by_side t.ij t.jk t.ki (side_of_edge e)
