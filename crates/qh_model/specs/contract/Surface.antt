-- Surfaces: triangular facets, each with a neighbour across each of its three sides.
-- Source: Barber, Dobkin and Huhdanpaa 1996 (facets with neighbours over ridges).
use Rattle.std.specs.Prelude.{◌≡◌, ℕ, ◌⊎◌, List, ℤ, pos, ◌≤ℤ◌, ◌<ℤ◌}
use Rattle.qh_model.specs.{contract.Weighted.Weighted, contract.Weighted.above, headline.Sets.In}

-- a side of a facet i, j, k: from i to j, from j to k, from k to i
pub data Side : Type 0 where
  first : Side
  second : Side
  third : Side

-- the numbers of the live facets, the three ids of each facet, and for each side the neighbour across it and the number of the twin
pub record Surface : Type 0 where
  pub live : List ℕ
  pub i : ℕ → ℕ
  pub j : ℕ → ℕ
  pub k : ℕ → ℕ
  pub over : ℕ → Side → ℕ
  pub back : ℕ → Side → Side

-- the id at which a side starts
abbrev pub start : Surface → ℕ → Side → ℕ
start m f first = m.i f
start m f second = m.j f
start m f third = m.k f

-- the id at which a side ends
abbrev pub end : Surface → ℕ → Side → ℕ
end m f first = m.j f
end m f second = m.k f
end m f third = m.i f

-- the third id of the facet, which is not on the side
abbrev pub rest : Surface → ℕ → Side → ℕ
rest m f first = m.k f
rest m f second = m.i f
rest m f third = m.j f

-- l is a corner of the facet
abbrev pub IsCorner : Surface → ℕ → ℕ → Type 0
IsCorner m f l = (l ≡ m.i f) ⊎ (l ≡ m.j f) ⊎ (l ≡ m.k f)

-- the neighbour across the side is a live facet that has the reversed side and leads back
pub record HasTwin (m : Surface) (f : ℕ) (s : Side) : Type 0 where
  pub live : In (m.over f s) m.live
  pub start_is : start m (m.over f s) (m.back f s) ≡ end m f s
  pub end_is : end m (m.over f s) (m.back f s) ≡ start m f s
  pub returns : m.over (m.over f s) (m.back f s) ≡ f

-- each side of each live facet has a twin
abbrev pub IsWhole : Surface → Type 0
IsWhole m = (f : ℕ) → In f m.live → (s : Side) → HasTwin m f s

-- the height of y above the facet's plane
abbrev pub rise : Surface → (ℕ → Weighted) → ℕ → Weighted → ℤ
rise m at f y = above (at (m.i f)) (at (m.j f)) (at (m.k f)) y

-- the facet sees y
abbrev pub Sees : Surface → (ℕ → Weighted) → ℕ → Weighted → Type 0
Sees m at f y = pos 0 <ℤ rise m at f y

-- the facet does not see y
abbrev pub IsBlindTo : Surface → (ℕ → Weighted) → ℕ → Weighted → Type 0
IsBlindTo m at f y = rise m at f y ≤ℤ pos 0
