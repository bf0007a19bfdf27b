-- Laws of the round trip: an OFF file that is written is read as the extreme points, which are written as the same bytes.
use Rattle.std.specs.Prelude.{ℕ, ◌≤◌, List, [], ◌∷◌, length, map}
use Rattle.std.specs.List.{AllByRecursion}
use Rattle.qh_model.specs.declared.{limits.TheConstants.POINT_LIMIT, limits.TheConstants.BYTE_LIMIT, out.Out.Out}
use Rattle.qh_model.specs.declared.out.Out.TheVariants.{Rank, Summary, Fx, Off, OffTriangles}
use Rattle.qh_model.specs.headline.{Vector.Vector, Predicates.place, Limits.IsCoordinate, PointFile.coordinates, OffFile.ReadsOff, Hull.HullValue, Hull.IsHull}
use Rattle.qh_model.specs.headline.Text.{output_text, IsText}

-- the points can be read: there are some, not too many, and each is in range
pub record CanBeRead (pts : List Vector) : Type 0 where
  pub some : 1 ≤ length pts
  pub few : length pts ≤ POINT_LIMIT
  pub limit : AllByRecursion IsCoordinate (coordinates pts)

-- the output is an OFF file
abbrev pub IsOffOutput : Out → Type 0
IsOffOutput Rank = ⊥
IsOffOutput Summary = ⊥
IsOffOutput Fx = ⊥
IsOffOutput Off = Unit {0}
IsOffOutput OffTriangles = Unit {0}

-- the points of the extreme ids, in the order of the ids
abbrev pub extreme_points : List Vector → HullValue → List Vector
extreme_points pts h = map (place pts) h.body.extremes

-- an OFF output that fits the input limit is the file of the extreme points
abbrev pub IsReadAsExtremePoints : Type 0
IsReadAsExtremePoints = (pts : List Vector) (h : HullValue) (out : Out) → CanBeRead pts → IsHull pts h → IsOffOutput out
    → length (output_text h pts out) ≤ BYTE_LIMIT → ReadsOff (output_text h pts out) (extreme_points pts h)

-- the extreme points alone have the same output
abbrev pub ExtremePointsHaveText : Type 0
ExtremePointsHaveText = (pts : List Vector) (h : HullValue) (out : Out) (text : List ℕ) → IsHull pts h → IsOffOutput out
    → IsText pts (out ∷ []) text → IsText (extreme_points pts h) (out ∷ []) text

-- so an OFF output is the file of some points whose output is the same again
abbrev pub IsWrittenAgain : Type 0
IsWrittenAgain = (pts : List Vector) (out : Out) (text : List ℕ) → CanBeRead pts → IsOffOutput out
    → IsText pts (out ∷ []) text → length text ≤ BYTE_LIMIT → (qs : List Vector) × ReadsOff text qs × IsText qs (out ∷ []) text
