-- The first points in slots. Only private functions cite them.
use Rattle.std.specs.Prelude.{ℕ, ◌≡◌, ◌+◌, ◌<◌, ◌⊎◌, ◌↔◌, List, Option, Result, Vec, IfOk, IfSome, length, slice_index_or}
use Rattle.std.specs.{List.All, List.Sorted.IsStrictlyIncreasing, declared.alloc.AllocError.AllocError, declared.alloc.Global.Global}
use Rattle.qh_model.specs.headline.{Vector.Vector, Predicates.place, Sets.In, DistinctIds.IsDistinctId}
use Rattle.qh_plane.specs.declared.{close_points.CloseBox.CloseBox, first_ids.FirstIds.FirstIds, first_ids.TheConstants.NO_ID}
use Rattle.qh_plane.specs.steps.{CloseBoxes.slot_of, Pieces.end_of, Repeats.IsRepeatedId}

-- the content of a slot
abbrev pub slot_at : List ℕ → ℕ → ℕ
slot_at slots s = slice_index_or slots s NO_ID

-- the slot of a point has the id of an equal point among the first k
pub record HasFirst (pts : List Vector) (b : CloseBox) (slots : List ℕ) (k : ℕ) (p : Vector) : Type 0 where
  pub first : ℕ
  pub seen : first < k
  pub is : slot_at slots (slot_of b p) ≡ first
  pub same : place pts first ≡ p

-- each of the first k points has an equal point in its slot, and the ids are the distinct ones of them
pub record HaveFirsts (pts : List Vector) (b : CloseBox) (slots : List ℕ) (k : ℕ) (ids : List ℕ) : Type 0 where
  pub firsts : (j : ℕ) → j < k → HasFirst pts b slots k (place pts j)
  pub held : (s : ℕ) → s < length slots → (slot_at slots s ≡ NO_ID) ⊎ (slot_at slots s < k)
  pub rising : IsStrictlyIncreasing ids
  pub members : (i : ℕ) → In i ids ↔ (IsDistinctId pts i × (i < k))

-- the first k points were processed
abbrev pub AreSeen : List Vector → FirstIds → ℕ → Type 0
AreSeen pts f k = HaveFirsts pts f.close f.slots.items k f.ids.items

-- the points that are the first of their places in the piece with a half-open range of ids, by their positions in the piece
pub record AreFirstIds (pts : List Vector) (begin end : ℕ) (firsts : List ℕ) : Type 0 where
  pub rising : IsStrictlyIncreasing firsts
  pub below : All (λ i. begin + i < end) firsts
  pub others : (i : ℕ) → begin + i < end → In i firsts ⊎ IsRepeatedId pts (begin + i)

-- the results for pieces of one size, in order, unless an allocation failed or the distinct ids of a piece were not found
abbrev pub ArePieces : List Vector → ℕ → List (Result (Option (Vec ℕ Global)) AllocError) → Type 0
ArePieces pts size found =
    (n : ℕ) (d : Result (Option (Vec ℕ Global)) AllocError) → n < length found
    → IfOk (slice_index_or found n d) (λ some. IfSome some (λ v. AreFirstIds pts (end_of pts size n) (end_of pts size (n + 1)) v.items))
