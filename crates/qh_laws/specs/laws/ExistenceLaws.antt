-- Laws of existence: the definitions can always be satisfied.
use Rattle.std.specs.Prelude.{ℕ, ◌<◌, List, length}
use Rattle.qh_model.specs.{declared.out.Out.Out, headline.Vector.Vector, headline.Hull.HullValue, headline.Hull.IsHull, headline.Text.IsText}

-- each list of points that is not empty has a hull
abbrev pub EveryListHasAHull : Type 0
EveryListHasAHull = (pts : List Vector) → 0 < length pts → (h : HullValue) × IsHull pts h

-- each list of points that is not empty has a text for each list of outputs
abbrev pub EveryListHasAText : Type 0
EveryListHasAText = (pts : List Vector) (outs : List Out) → 0 < length pts → (text : List ℕ) × IsText pts outs text
