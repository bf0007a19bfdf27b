-- The result of `replace` on a stored surface, place by place.
-- Source: Barber, Dobkin and Huhdanpaa 1996 (the cone of new facets over the horizon).
use Rattle.std.specs.Prelude.{◌≡◌, ℕ, ◌<◌, ◌⊎◌, List, All, [], ◌∷◌, length, slice_index, filter, not, Bool, true, false, cond, nat_eq}
use Rattle.qh_model.specs.contract.{StoredSurface.StoredFacet, StoredSurface.facet_at, Surface.Side.first, Surface.Side.second, Surface.Side.third}
use Rattle.qh_model.specs.headline.Sets.{In, Once}
use Rattle.qh_mesh.specs.contract.Edges.{edge_end, edge_of, edge_start, facet_of, twin_of}

-- f is the number of a live facet
abbrev pub IsLive : List StoredFacet → ℕ → Type 0
IsLive fs f = (facet_at fs f).live ≡ true

-- live facets, each listed once
pub record AreFacets (fs : List StoredFacet) (vs : List ℕ) : Type 0 where
  pub live : All (IsLive fs) vs
  pub once : Once vs

-- f is the number of a facet of the list
abbrev pub is_listed : List ℕ → ℕ → Bool
is_listed [] f = false
is_listed (v ∷ vs) f = cond (nat_eq v f) true (is_listed vs f)

-- the edges of the listed facets: the facets in their order, of each the sides 0, 1 and 2
abbrev pub sides_of : List ℕ → List ℕ
sides_of [] = []
sides_of (v ∷ vs) = edge_of v first ∷ edge_of v second ∷ edge_of v third ∷ sides_of vs

-- the edges across which the facet is not listed
abbrev pub horizon : List StoredFacet → List ℕ → List ℕ
horizon fs vs = filter (λ e. not (is_listed vs (facet_of (twin_of fs e)))) (sides_of vs)

-- facet c of the new surface is the triangle of the old one's edge h and the apex, joined to the facet across h
pub record IsCone (old new : List StoredFacet) (h apex c : ℕ) : Type 0 where
  pub live : IsLive new c
  pub inward : twin_of new (twin_of old h) ≡ edge_of c first
  pub first : (facet_at new c).i ≡ edge_start old h
  pub second : (facet_at new c).j ≡ edge_end old h
  pub third : (facet_at new c).k ≡ apex
  pub outward : (facet_at new c).ij ≡ twin_of old h

-- f is live and not listed
pub record IsKept (fs : List StoredFacet) (vs : List ℕ) (f : ℕ) : Type 0 where
  pub live : IsLive fs f
  pub unlisted : is_listed vs f ≡ false

-- facet f has the same corners, and over each side whose neighbour stays the same twin
pub record StaysFacet (old new : List StoredFacet) (vs : List ℕ) (f : ℕ) : Type 0 where
  pub live : IsLive new f
  pub i_is : (facet_at new f).i ≡ (facet_at old f).i
  pub j_is : (facet_at new f).j ≡ (facet_at old f).j
  pub k_is : (facet_at new f).k ≡ (facet_at old f).k
  pub twins : (e : ℕ) → facet_of e ≡ f → is_listed vs (facet_of (twin_of old e)) ≡ false → twin_of new e ≡ twin_of old e

-- the facets of vs are replaced by the cone over their horizon: facet j of the cone is over edge j of the horizon, and its neighbour is the facet over the edge
-- that begins where edge j ends
pub record IsReplacement (old new : List StoredFacet) (vs : List ℕ) (apex : ℕ) (made : List ℕ) : Type 0 where
  pub len : length made ≡ length (horizon old vs)
  pub once : Once made
  pub fresh : (f : ℕ) → IsKept old vs f → ¬ (In f made)
  pub cone : (j : ℕ) → j < length made → IsCone old new (slice_index (horizon old vs) j) apex (slice_index made j)
  pub next : ℕ → ℕ
  pub next_in : (j : ℕ) → j < length made → next j < length made
  pub next_starts : (j : ℕ) → j < length made
      → edge_start old (slice_index (horizon old vs) (next j)) ≡ edge_end old (slice_index (horizon old vs) j)
  pub next_twin : (j : ℕ) → j < length made → (facet_at new (slice_index made j)).jk ≡ edge_of (slice_index made (next j)) third
  pub next_back : (j : ℕ) → j < length made → (facet_at new (slice_index made (next j))).ki ≡ edge_of (slice_index made j) second
  pub kept : (f : ℕ) → IsKept old vs f → StaysFacet old new vs f
  pub only : (f : ℕ) → IsLive new f → IsKept old vs f ⊎ In f made
