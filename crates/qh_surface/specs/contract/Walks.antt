-- Walks over twins, from facets that pass a test P, and their invariants.
-- Source: Barber, Dobkin and Huhdanpaa 1996 (the visible set is found by a search over neighbours).
use Rattle.std.specs.Prelude.{All, slice_index, ◌≡◌, ◌⊎◌, ℕ, ◌<◌, ◌≤◌, List, [], Bool, length, slice_index_or, true, false}
use Rattle.qh_model.specs.{contract.StoredSurface.StoredFacet, contract.StoredSurface.surface_of, contract.Surface.Side, headline.Sets.In}
use Rattle.qh_mesh.specs.contract.Replacement.{AreFacets}
use Rattle.qh_surface.specs.declared.walk.FacetMark.{FacetMark}
use Rattle.qh_surface.specs.declared.walk.FacetMark.TheVariants as marks

-- is the mark set?
abbrev pub is_set : FacetMark → Bool
is_set marks.Unset = false
is_set marks.Set = true

-- the mark of place f; it is not set past the end
abbrev pub mark_at : List Bool → ℕ → Bool
mark_at marks f = slice_index_or marks f false

-- place f is marked
abbrev pub IsMarked : List Bool → ℕ → Type 0
IsMarked marks f = mark_at marks f ≡ true

-- the facets found are live, each once, they pass and are marked
pub record IsWalk (P : ℕ → Type 0) (fs : List StoredFacet) (marks : List Bool) (found : List ℕ) : Type 0 where
  pub facets : AreFacets fs found
  pub passes : All P found
  pub marked : All (IsMarked marks) found

-- facet f is marked if it passes
abbrev pub IsMet : (ℕ → Type 0) → List Bool → ℕ → Type 0
IsMet P marks f = P f → IsMarked marks f

-- each neighbour of facet f is marked if it passes
abbrev pub IsCrossed : (ℕ → Type 0) → List StoredFacet → List Bool → ℕ → Type 0
IsCrossed P fs marks f = (s : Side) → IsMet P marks ((surface_of fs).over f s)

-- each neighbour of the first n facets found is marked if it passes
abbrev pub AreCrossed : (ℕ → Type 0) → List StoredFacet → List Bool → List ℕ → ℕ → Type 0
AreCrossed P fs marks found n = (j : ℕ) → j < n → IsCrossed P fs marks (slice_index found j)

-- marks stay set and found facets keep their positions; each facet marked since was found
pub record IsFurther (marks marks' : List Bool) (found found' : List ℕ) : Type 0 where
  pub len : length marks' ≡ length marks
  pub kept : (f : ℕ) → IsMarked marks f → IsMarked marks' f
  pub only : (f : ℕ) → IsMarked marks' f → IsMarked marks f ⊎ In f found'
  pub longer : length found ≤ length found'
  pub same : (j : ℕ) → j < length found → slice_index found' j ≡ slice_index found j

-- a complete walk from facet f
pub record IsWalkFrom (P : ℕ → Type 0) (fs : List StoredFacet) (before after : List Bool) (f : ℕ) (found : List ℕ)
    : Type 0 where
  pub walk : IsWalk P fs after found
  pub further : IsFurther before after [] found
  pub start : In f found
  pub own : IsMarked after f
  pub crossed : AreCrossed P fs after found (length found)
