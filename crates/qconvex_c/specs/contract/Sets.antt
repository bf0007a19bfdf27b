-- Many sets of points in one list, and the hull of each in its part of the buffers.
use Rattle.std.specs.Prelude.{ℕ, ◌≡◌, ◌≢◌, ◌≤◌, ◌<◌, ◌↔◌, ◌+◌, ◌*◌, ◌-◌, List, length, take, drop, slice_index, slice_index_or, slice_range}
use Rattle.std.specs.List.{All}
use Rattle.qh_model.specs.{contract.Places.IsPlace, declared.limits.TheConstants.POINT_LIMIT, headline.Vector.Vector}
use Rattle.qconvex_c.specs.contract.Answered.{IsAnswered, NeedsRoom}
use Rattle.qconvex_c.specs.contract.Codes.{QCONVEX_DONE, QCONVEX_NO_POINT, QCONVEX_TOO_MANY, QCONVEX_RANGE, QCONVEX_ROOM}
use Rattle.qconvex_c.specs.declared.{set_answer.SetAnswer.SetAnswer, sizes.Sizes.Sizes}

-- set j has the points from start j to before start j + 1: there is at least one start, the starts rise, and none exceeds the number of points
pub record AreStarts (count : ℕ) (starts : List ℕ) : Type 0 where
  pub some : 0 < length starts
  pub rising : (j : ℕ) → j + 1 < length starts → slice_index starts j ≤ slice_index starts (j + 1)
  pub within : (j : ℕ) → j < length starts → slice_index starts j ≤ count

-- the number of sets
abbrev pub sets_in : List ℕ → ℕ
sets_in starts = length starts - 1

-- the end of the last set
abbrev pub end_of : List ℕ → ℕ
end_of starts = slice_index starts (sets_in starts)

-- a set of n points has parts for n extreme ids, 2 n + 2 offsets and 6 n + 4 corners, and these parts are adjacent
abbrev pub offsets_start : List ℕ → ℕ → ℕ
offsets_start starts j = 2 * slice_index starts j + 2 * j

abbrev pub corners_start : List ℕ → ℕ → ℕ
corners_start starts j = 6 * slice_index starts j + 4 * j

-- there is room for an answer for each set, and for a part for each set in each buffer
pub record HaveRoom (starts : List ℕ) (answer_room extreme_room offset_room corner_room : ℕ) : Type 0 where
  pub answers : sets_in starts ≤ answer_room
  pub extremes : end_of starts ≤ extreme_room
  pub offsets : offsets_start starts (sets_in starts) ≤ offset_room
  pub corners : corners_start starts (sets_in starts) ≤ corner_room

-- the sizes of a set that was refused
abbrev pub NO_SIZES : Sizes
NO_SIZES = record { points = 0; distinct = 0; dimension = 0; extremes = 0; faces = 0; corners = 0; edges = 0 }

-- the answer of a set, with the old and new contents of its parts of the buffers: those of a call for this set alone
pub record IsSetHull (pts : List Vector) (a : SetAnswer) (extremes extremes' offsets offsets' corners corners' : List ℕ) : Type 0 where
  pub done : a.code ≡ QCONVEX_DONE → IsAnswered pts a.sizes extremes' offsets' corners'
  pub none : (a.code ≡ QCONVEX_NO_POINT) ↔ (length pts ≡ 0)
  pub many : (a.code ≡ QCONVEX_TOO_MANY) ↔ (POINT_LIMIT < length pts)
  pub range : (a.code ≡ QCONVEX_RANGE) ↔ ((0 < length pts) × (length pts ≤ POINT_LIMIT) × ¬ (All IsPlace pts))
  pub room : a.code ≡ QCONVEX_ROOM → NeedsRoom pts a.sizes extremes offsets corners
  pub codes : a.code ≤ QCONVEX_ROOM
  pub no_sizes : a.code ≢ QCONVEX_DONE → a.code ≢ QCONVEX_ROOM → a.sizes ≡ NO_SIZES
  pub extremes_rest : a.code ≡ QCONVEX_DONE → drop a.sizes.extremes extremes' ≡ drop a.sizes.extremes extremes
  pub offsets_rest : a.code ≡ QCONVEX_DONE → drop (a.sizes.faces + 1) offsets' ≡ drop (a.sizes.faces + 1) offsets
  pub corners_rest : a.code ≡ QCONVEX_DONE → drop a.sizes.corners corners' ≡ drop a.sizes.corners corners
  pub extremes_kept : a.code ≢ QCONVEX_DONE → extremes' ≡ extremes
  pub offsets_kept : a.code ≢ QCONVEX_DONE → offsets' ≡ offsets
  pub corners_kept : a.code ≢ QCONVEX_DONE → corners' ≡ corners

-- set j has its answer, and its hull in its part of each buffer
pub record HasSetHull (pts : List Vector) (starts : List ℕ) (j : ℕ) (a : SetAnswer)
    (extremes extremes' offsets offsets' corners corners' : List ℕ) : Type 0 where
  pub hull : IsSetHull (slice_range pts (slice_index starts j) (slice_index starts (j + 1))) a
      (slice_range extremes (slice_index starts j) (slice_index starts (j + 1)))
      (slice_range extremes' (slice_index starts j) (slice_index starts (j + 1)))
      (slice_range offsets (offsets_start starts j) (offsets_start starts (j + 1)))
      (slice_range offsets' (offsets_start starts j) (offsets_start starts (j + 1)))
      (slice_range corners (corners_start starts j) (corners_start starts (j + 1)))
      (slice_range corners' (corners_start starts j) (corners_start starts (j + 1)))

-- each set has its answer and its hull
pub record AreSetHulls (pts : List Vector) (starts : List ℕ) (answers : List SetAnswer)
    (extremes extremes' offsets offsets' corners corners' : List ℕ) : Type 0 where
  pub each : (j : ℕ) (other : SetAnswer) → j < sets_in starts
      → HasSetHull pts starts j (slice_index_or answers j other) extremes extremes' offsets offsets' corners corners'

-- a buffer is unchanged before and after a part
pub record AreKeptBetween (from to : ℕ) (before after : List ℕ) : Type 0 where
  pub front : take from after ≡ take from before
  pub rest : drop to after ≡ drop to before
