-- Room for a replacement, which is reserved before the mesh changes.
use Rattle.std.specs.Prelude.{◌≡◌, ℕ, ◌+◌, ◌*◌, ◌-◌, ◌<◌, ◌≤◌, ◌^◌, [], Vec, vec_len, vec_capacity}
use Rattle.std.specs.declared.alloc.Global.{Global}
use Rattle.qh_model.specs.contract.StoredSurface.{StoredFacet}
use Rattle.qh_mesh.specs.declared.room.ReplacementScratch.{ReplacementScratch}

-- the scratch lists no side and no facet
pub record IsBlank (s : ReplacementScratch) : Type 0 where
  pub horizon : s.horizon.items ≡ []
  pub made : s.made.items ≡ []

-- the lists have room for any replacement of `count` facets, and the half-edges of all places have numbers that fit 32 bits
pub record HasRoom (facets : Vec StoredFacet Global) (free : Vec ℕ Global) (s : ReplacementScratch) (count : ℕ) : Type 0 where
  pub horizon_room : 3 * count ≤ vec_capacity s.horizon
  pub made_room : 3 * count ≤ vec_capacity s.made
  pub free_room : vec_len free + count ≤ vec_capacity free
  pub spare : vec_len facets + 2 * count ≤ vec_capacity facets + vec_len free
  pub small : 3 * (vec_len facets + (2 * count - vec_len free)) < 2 ^ 32
