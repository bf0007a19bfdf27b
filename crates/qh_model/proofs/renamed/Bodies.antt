-- The hull of a set that is renamed in its order.
use Rattle.qh_model.proofs.Common.{ℕ, List, map, BodyValue, IsBody, ArePolygons, Vector, arith}
use Rattle.qh_model.proofs.renamed.{Edges.edge_count_renamed, Polygons.members_renamed, Polygons.polygons_renamed}
use Rattle.qh_model.proofs.renamed.{Lists.AreWithin, Lists.rising_map, Renaming.IsRenaming, Renaming.extremes_renamed, Renaming.dimension_renamed}

-- the members of polygons are members of the set
pub polygon_members : (at : ℕ → Vector) (A : ℕ → Type 0) (k : ℕ) (qs : List (List ℕ)) → ArePolygons at A k qs → AreWithin A qs
polygon_members = grind arith

-- ---- all parts
-- the body with other names of its ids
abbrev pub renamed_body : (ℕ → ℕ) → BodyValue → BodyValue
renamed_body f b = record b { extremes = map f b.extremes; polygons = map (map f) b.polygons }

-- the hull of the names
module _ {at at' : ℕ → Vector} {A B : ℕ → Type 0} {f g : ℕ → ℕ} (r : IsRenaming at at' A B f g) where
  pub body_renamed : (b : BodyValue) → IsBody at A b → IsBody at' B (renamed_body f b)
  body_renamed b h = record {
    dim = dimension_renamed r b.dim h.dim;
    extremes = record {
      rising = rising_map A f r.rises b.extremes (λ i m. ((h.extremes.members i).0 m).0) h.extremes.rising;
      members = members_renamed (extremes_renamed r) b.extremes h.extremes.members;
    };
    polygons = polygons_renamed r b.dim b.polygons within h.polygons;
    edges = edge_count_renamed r b.polygons b.edges within h.edges;
  }
    where
      within : AreWithin A b.polygons
      within = polygon_members at A b.dim b.polygons h.polygons
