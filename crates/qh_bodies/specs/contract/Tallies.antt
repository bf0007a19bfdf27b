-- The tally of the polygons of a hull.
use Rattle.std.specs.Prelude.{◌≡◌, ◌↔◌, ℕ, List}
use Rattle.std.specs.List.{flat_map, Sorted.IsStrictlyIncreasing}
use Rattle.qh_model.specs.headline.Sets.{In}
use Rattle.qh_bodies.specs.{contract.SolidEdges.all_edges_up, declared.tallies.Tally.Tally}

-- the members of all polygons, one after the other
abbrev pub all_members : List (List ℕ) → List ℕ
all_members qs = flat_map (λ q. q) qs

-- the members of the polygons, rising, each once, and the number of steps to a higher id round them
pub record IsTally (qs : List (List ℕ)) (tally : Tally) : Type 0 where
  pub rising : IsStrictlyIncreasing tally.extremes.items
  pub members : (i : ℕ) → In i tally.extremes.items ↔ In i (all_members qs)
  pub edges : tally.edges ≡ all_edges_up qs
