-- The corners of triangles, and the ids of a set.
use Rattle.std.specs.Prelude.{ℕ, ◌≡◌, ◌⊎◌, Bool, List, false, not, slice_index_or, true}
use Rattle.qh_model.specs.{contract.ClosedSurface.Triple, headline.Sets.In, laws.ClosedSurfaceLaws.IsCornerOf}

-- the mark of a number is set
abbrev pub IsMarked : List Bool → ℕ → Type 0
IsMarked marks l = slice_index_or marks l false ≡ true

-- the mark of a number is not set
abbrev pub is_unmarked : List Bool → ℕ → Bool
is_unmarked marks l = not (slice_index_or marks l false)

-- the corners of the triangles are ids, and each other id is one of the hidden ones
pub record AreHidden (ts : List Triple) (ids hidden : List ℕ) : Type 0 where
  pub listed : (l : ℕ) → IsCornerOf ts l → In l ids
  pub only : (l : ℕ) → In l hidden → In l ids
  pub others : (l : ℕ) → In l ids → IsCornerOf ts l ⊎ In l hidden
