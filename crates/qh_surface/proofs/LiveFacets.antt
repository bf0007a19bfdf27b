-- The live facets of a mesh: their places, and the loop over them.
use Rattle.qh_model.proofs.Common.{◌≡◌, ℕ, List, ◌∷◌, subst, All, ◌<◌, arith, length, get_or_past, All-head, StoredFacet, surface_of, no_facet}
use Rattle.{std.proofs.lemmas.List.Elements.All-rest, qh_mesh.specs.contract.Replacement.IsLive}
use Rattle.qh_model.proofs.{Members.All-of, surfaces.Stored.live_is_marked}

-- a live facet has a place
pub live_below : (fs : List StoredFacet) (f : ℕ) → IsLive fs f → f < length fs
live_below fs f l = grind (arith, get_or_past fs f no_facet, l)

-- the remaining facets are live
pub all_live : (fs : List StoredFacet) (vs : List ℕ) → vs ≡ (surface_of fs).live → All (IsLive fs) vs
all_live fs vs e = rw e (All-of (IsLive fs) (surface_of fs).live (λ f i. (live_is_marked fs f).0 i))

-- the next of them is live, and so are those after it
pub next_live : (fs : List StoredFacet) (vs rest : List ℕ) (f : ℕ) → All (IsLive fs) vs → vs ≡ f ∷ rest → IsLive fs f
next_live fs vs rest f a e = All-head (IsLive fs) f rest (subst (All (IsLive fs)) e a)

pub rest_live : (fs : List StoredFacet) (vs rest : List ℕ) (f : ℕ) → All (IsLive fs) vs → vs ≡ f ∷ rest → All (IsLive fs) rest
rest_live fs vs rest f a e = All-rest (IsLive fs) f rest vs e a
