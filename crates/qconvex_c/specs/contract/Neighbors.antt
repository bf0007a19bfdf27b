-- The triangles beside each triangle, over its sides.
use Rattle.std.specs.Prelude.{ℕ, ◌≡◌, ◌≢◌, ◌≤◌, ◌<◌, ◌+◌, ◌*◌, ◌/◌, ◌%◌, List, length, slice_index}
use Rattle.qconvex_c.specs.contract.Codes.{QCONVEX_NONE}

-- corners 3 k, 3 k + 1 and 3 k + 2 are triangle k; side s is opposite to corner s, and goes from the corner behind it to the one before it
abbrev pub side_from : List ℕ → ℕ → ℕ
side_from corners s = slice_index corners (s / 3 * 3 + (s + 1) % 3)

abbrev pub side_to : List ℕ → ℕ → ℕ
side_to corners s = slice_index corners (s / 3 * 3 + (s + 2) % 3)

-- the number of sides: one or two extra corners at the end are ignored
abbrev pub sides_in : List ℕ → ℕ
sides_in corners = length corners / 3 * 3

-- one side goes from the end of the other to its start
pub record AreReversed (corners : List ℕ) (s t : ℕ) : Type 0 where
  pub from : side_from corners s ≡ side_to corners t
  pub to : side_to corners s ≡ side_from corners t

-- n is the first triangle with the reverse of side s, or `QCONVEX_NONE` if no triangle has it
pub record IsNeighbor (corners : List ℕ) (s n : ℕ) : Type 0 where
  pub found : n ≢ QCONVEX_NONE → (t : ℕ) × (t < sides_in corners) × (t / 3 ≡ n) × AreReversed corners s t
  pub none : n ≡ QCONVEX_NONE → (t : ℕ) → t < sides_in corners → ¬ (AreReversed corners s t)
  pub first : (t : ℕ) → t < sides_in corners → AreReversed corners s t → n ≤ t / 3

-- each side has its neighbour
abbrev pub AreNeighbors : List ℕ → List ℕ → Type 0
AreNeighbors corners neighbors = (s : ℕ) → s < sides_in corners → IsNeighbor corners s (slice_index neighbors s)
