-- The places chosen so far and the free ones are a pool.
use Rattle.qh_model.proofs.Common.{ℕ, ◌++◌, reverse, ◌≡◌, ◌+◌, ◌<◌, ◌≤◌, vec_len, vec_capacity, facet_at}
use Rattle.qh_mesh.specs.steps.Places.{IsPool}
use Rattle.qh_mesh.proofs.places.allocate_all.Given as goal

abbrev pub invariant-loop-j : goal.invariant-loop-j
invariant-loop-j l = record {
  pool : IsPool l.facets.items (l.made.items ++ reverse l.free.items);
  cells : (f : ℕ) → facet_at l.facets.items f ≡ facet_at l.initial.facets.items f;
  longer : vec_len l.initial.facets ≤ vec_len l.facets;
  again : 0 < vec_len l.free → vec_len l.facets ≡ vec_len l.initial.facets;
  len : vec_len l.facets + vec_len l.initial.free ≡ vec_len l.initial.facets + l.j + vec_len l.free;
  made : vec_len l.made ≡ l.j;
  capacity : vec_capacity l.facets ≡ vec_capacity l.initial.facets;
  made_capacity : vec_capacity l.made ≡ vec_capacity l.initial.made;
}
