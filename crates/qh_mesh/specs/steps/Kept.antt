-- A facet as a mesh stores it, its sides, and the effect of the steps on it.
use Rattle.std.specs.Prelude.{ℕ, Bool, true, false}
use Rattle.qh_model.specs.contract.{Simplex.by_side, Surface.Side, StoredSurface.StoredFacet}
use Rattle.qh_mesh.specs.declared.facets.FacetSide.{FacetSide}

-- a live facet of three corners and the half-edges across its sides
abbrev pub facet_from : ℕ → ℕ → ℕ → ℕ → ℕ → ℕ → StoredFacet
facet_from i j k ij jk ki = record { i = i; j = j; k = k; ij = ij; jk = jk; ki = ki; live = true }

-- the facet, no longer live
abbrev pub removed : StoredFacet → StoredFacet
removed t = record { i = t.i; j = t.j; k = t.k; ij = t.ij; jk = t.jk; ki = t.ki; live = false }

-- the mark of a facet
abbrev pub is_live : StoredFacet → Bool
is_live t = t.live

-- the half-edge across a side
abbrev pub outer_of : StoredFacet → Side → ℕ
outer_of t s = by_side t.ij t.jk t.ki s

-- a side of a facet
abbrev pub side_of : StoredFacet → Side → FacetSide
side_of t s = record { from = by_side t.i t.j t.k s; to = by_side t.j t.k t.i s; outer = by_side t.ij t.jk t.ki s }

-- the facet with another half-edge across a side
abbrev pub with_twin : StoredFacet → Side → ℕ → StoredFacet
with_twin t s e =
    record {
      i = t.i;
      j = t.j;
      k = t.k;
      ij = by_side e t.ij t.ij s;
      jk = by_side t.jk e t.jk s;
      ki = by_side t.ki t.ki e s;
      live = t.live;
    }
